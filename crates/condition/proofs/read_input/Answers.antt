-- `condition::read_input` meets its contract. Assumes nothing.
use borrow.Author.Tests.{lt-ltb, le-ltb, eq-eqb, ne_eqb}
use mathlib.Core.Path.{sym}
use native.Mathlib.Omega.{arith}
use Rattle.bits.proofs.FieldLaws.{field-got}
use Rattle.condition.specs.Cond.{eval, word_count}
use Rattle.condition.specs.Reading.{input_at}
use Rattle.condition.specs.inside.Facts.{form_of}
use Rattle.condition.proofs.read_input.Goals as goal

pub returns-in_default : goal.returns-in_default
unfolding input_at
returns-in_default c = rw (sym c.in_default.ensures)

pub returns-then-inputs-i : goal.returns-then-inputs-i
unfolding input_at
returns-then-inputs-i c = rw (sym c.in-Some.ensures, le-ltb c.in-Some.i c.args.inputs (omega arith))

pub get_bit-requires : goal.get_bit-requires
get_bit-requires c = omega (arith, (field-got _ _ _ _ _ (sym c.in-Some.ensures)).below)

pub returns-then-i-eq0 : goal.returns-then-i-eq0
unfolding input_at eval word_count form_of
returns-then-i-eq0 c =
    rw (sym c.in-Some.ensures, lt-ltb c.in-Some.i c.args.inputs (omega arith), c.get_bit.ensures, eq-eqb _ _ c.if-i-eq0.true)

pub returns-else-i-eq0 : goal.returns-else-i-eq0
unfolding input_at eval word_count form_of
returns-else-i-eq0 c =
    rw (sym c.in-Some.ensures, lt-ltb c.in-Some.i c.args.inputs (omega arith), c.get_bit.ensures, ne_eqb _ _ c.if-i-eq0.false)
