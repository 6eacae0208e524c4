-- The contracts of this crate's public calls admit a single outcome. Assumes nothing.
use mathlib.Core.List.{List}
use Prim.Native.Nat.{ℕ}
use Rattle.answer.specs.One.{One}
use Rattle.answer.proofs.OneLaws.{one}
use Rattle.faults.specs.Check.{ChecksCode}

pub check-code-once : (code : List ℕ) → One (ChecksCode code)
check-code-once code = one _
