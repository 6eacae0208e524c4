-- How large the place of a refused scan can be: the sheet's, or the state given, which is a byte. Assumes nothing.
use mathlib.Core.Bool.{Bool, true, false, cond}
use mathlib.Core.List.{List}
use Prim.Native.Nat.{ℕ, ◌≤◌, ◌<◌}
use native.Mathlib.Omega.{arith}
use lib.Dec.{ltb}
use Rattle.answer.specs.Number.{place_of, farthest}
use Rattle.answer.specs.declared.Refusal.TheVariants.{NoState}
use Rattle.sheet.proofs.PlaceLaws.{with-holds}
use Rattle.scan.specs.Scan.{scan_of, accepted, refused, zeros, scan_sheet, cold_scan, Scanned}
use Rattle.scan.specs.declared.State.{State}

pub place-fits : (s : List ℕ) (q : State) (word elapsed : ℕ) → q.state < 256 → place_of (scan_sheet s q word elapsed).verdict ≤ farthest
unfolding scan_sheet
place-fits s q word elapsed l =
    with-holds (λ (x : Scanned). place_of x.verdict ≤ farthest) (refused q) (λ why h. omega arith) s _
    (λ a end e. go (ltb q.state a.states) (scan_of a q word elapsed))
  where
    go : (b : Bool) (moved : State) → place_of (cond b (accepted moved) (refused q (NoState q.state))).verdict ≤ farthest
    go true moved = omega arith
    go false moved = omega arith

pub cold-place-fits : (s : List ℕ) → place_of (cold_scan s).verdict ≤ farthest
unfolding cold_scan
cold-place-fits s =
    with-holds (λ (x : Scanned). place_of x.verdict ≤ farthest) (refused zeros) (λ why h. omega arith) s _ (λ a end e. omega arith)
