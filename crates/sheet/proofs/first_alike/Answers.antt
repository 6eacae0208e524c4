-- `sheet::first_alike` meets its contract. Assumes nothing.
use mathlib.Core.Path.{sym}
use native.Mathlib.Omega.{arith}
use Rattle.sheet.proofs.ClashLaws.{clash-hit, clash-end}
use Rattle.sheet.proofs.first_alike.Goals as goal

pub returns-then-keys-earlier : goal.returns-then-keys-earlier
returns-then-keys-earlier c =
    sym
    (clash-hit c.args.keys.now c.loop-earlier.earlier _ (omega arith) (omega arith) c.loop-later.invariant
    c.if-keys-earlier.true)

pub returns-after-loop-later : goal.returns-after-loop-later
returns-after-loop-later c = sym (clash-end c.args.keys.now (λ j l. c.loop-later.invariant j (omega arith)))
