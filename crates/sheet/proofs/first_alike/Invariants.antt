-- `sheet::first_alike` meets its contract. The invariants: no key passed is that of an earlier one, and none before `earlier` is
-- that of `later`.
use Rattle.std.proofs.Common.{ℕ, ◌<◌, ◌≢◌, get_or}
use Rattle.sheet.proofs.ClashLaws.{Apart}
use Rattle.sheet.proofs.first_alike.Given as goal

abbrev pub invariant-loop-later : goal.invariant-loop-later
invariant-loop-later l = Apart l.keys l.later

abbrev pub invariant-loop-earlier : goal.invariant-loop-earlier
invariant-loop-earlier l = (i : ℕ) → i < l.earlier → get_or l.keys i 0 ≢ get_or l.keys l.later 0
