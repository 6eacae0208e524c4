-- `sheet::first_activity` meets its contract. The invariant: output 0 is right in every state passed.
use Rattle.std.proofs.Common.{◌≡◌, ℕ, ◌<◌, false}
use Rattle.sheet.specs.inside.Arrows.{activity_row}
use Rattle.sheet.proofs.first_activity.Given as goal

abbrev pub invariant-loop-s : goal.invariant-loop-s
invariant-loop-s l = (k : ℕ) → k < l.s → activity_row l.rows k ≡ false
