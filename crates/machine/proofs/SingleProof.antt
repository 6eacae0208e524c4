-- The contracts of this crate's public calls admit a single outcome. Assumes nothing.
use mathlib.Core.List.{List}
use Prim.Native.Nat.{ℕ}
use Rattle.answer.specs.One.{One}
use Rattle.answer.proofs.OneLaws.{one}
use Rattle.machine.specs.declared.Record.{Record}
use Rattle.machine.specs.Run.{Runs}

pub run-once : (code : List ℕ) (given : Record) (x elapsed : ℕ) → One (Runs code given x elapsed)
run-once code given x elapsed = one _
