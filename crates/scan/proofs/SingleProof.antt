-- The contracts of this crate's public calls admit a single outcome. Assumes nothing.
use mathlib.Core.List.{List}
use Prim.Native.Nat.{ℕ}
use Rattle.answer.specs.One.{One}
use Rattle.answer.proofs.OneLaws.{one}
use Rattle.scan.specs.declared.State.{State}
use Rattle.scan.specs.Scan.{Scans, ColdScans}

pub scan-once : (s : List ℕ) (q : State) (word elapsed : ℕ) → One (Scans s q word elapsed)
scan-once s q word elapsed = one _

pub cold-scan-once : (s : List ℕ) → One (ColdScans s)
cold-scan-once s = one _
