-- `bits::field` meets its contract. Assumes nothing.
use mathlib.Core.Path.{sym}
use native.Mathlib.Omega.{arith}
use Rattle.bits.proofs.FieldLaws.{field-here, field-short}
use Rattle.bits.proofs.field.Goals as goal

pub returns-then-s-end : goal.returns-then-s-end
returns-then-s-end c = sym (field-short _ _ _ (omega arith))

pub returns : goal.returns
returns c =
    let a = c.args in
    rw c.number.ensures (sym (field-here a.s.now a.c.at a.width (omega arith)))
