-- The contracts of this crate's public calls admit a single outcome. Assumes nothing.
use mathlib.Core.List.{List}
use Prim.Native.Nat.{ℕ}
use Rattle.answer.specs.One.{One}
use Rattle.answer.proofs.OneLaws.{one}
use Rattle.sheet.specs.Judging.{ChecksSheet}

pub check-sheet-once : (s : List ℕ) → One (ChecksSheet s)
check-sheet-once s = one _
