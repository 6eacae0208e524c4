-- `sheet::first_activity` meets its contract. Assumes nothing.
use mathlib.Core.Path.{refl, sym, ◌∙◌}
use native.Mathlib.Omega.{arith}
use borrow.Author.Count.{below_more}
use Rattle.bits.specs.Word.{get_bit}
use Rattle.sheet.specs.inside.Arrows.{activity_row}
use Rattle.sheet.proofs.SearchLaws.{first-none, first-at}
use Rattle.sheet.proofs.RowLaws.{activity-is}
use Rattle.sheet.proofs.first_activity.Goals as goal

pub returns-then-active-s : goal.returns-then-active-s
unfolding get_bit
returns-then-active-s c =
    let rows = c.args.rows.now in
    let s = c.loop-s.s in
    sym
    (first-at (activity_row rows) s _ (omega arith) (activity-is rows s _ refl ∙ c.if-active-s.true)
    c.loop-s.invariant)

pub loop-s-preserved : goal.loop-s-preserved
unfolding get_bit
loop-s-preserved c =
    below_more _ _ c.loop-s.invariant (activity-is c.args.rows.now c.loop-s.s _ refl ∙ c.if-active-s.false)

pub returns : goal.returns
returns c = sym (first-none _ _ (λ k l. c.loop-s.invariant k (omega arith)))
