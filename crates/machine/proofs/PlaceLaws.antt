-- How large a place the runner's refusal has. Assumes nothing.
use Rattle.std.specs.Prelude.{Ok, Err}
use mathlib.Core.List.{List}
use Prim.Native.Nat.{ℕ, ◌≤◌}
use Rattle.answer.specs.Number.{place_of, farthest}
use Rattle.answer.specs.Checked.{Checked}
use Rattle.faults.specs.Check.{check_code}
use Rattle.faults.proofs.PlaceLaws.{place-fits}
use Rattle.machine.specs.declared.Record.{Record}
use Rattle.machine.specs.Run.{ran_by, run_code}

ran-fits : (v : Checked) (s : List ℕ) (r : Record) (x elapsed : ℕ) → place_of v ≤ farthest → place_of (ran_by v s r x elapsed).verdict ≤ farthest
ran-fits (Ok tt) s r x elapsed h = h
ran-fits (Err why) s r x elapsed h = h

-- and so of a scan
pub run-place-fits : (s : List ℕ) (r : Record) (x elapsed : ℕ) → place_of (run_code s r x elapsed).verdict ≤ farthest
unfolding run_code
run-place-fits s r x elapsed = ran-fits (check_code s) s r x elapsed (place-fits s)
