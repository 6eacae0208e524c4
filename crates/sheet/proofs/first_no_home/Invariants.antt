-- `sheet::first_no_home` meets its contract. The invariant: every state passed, from 1 on, has its bit in the word.
use Rattle.std.proofs.Common.{◌≡◌, ℕ, ◌≤◌, ◌<◌, true}
use Rattle.bits.specs.Word.{get_bit}
use Rattle.sheet.proofs.first_no_home.Given as goal

abbrev pub invariant-loop-s : goal.invariant-loop-s
invariant-loop-s l = (k : ℕ) → 1 ≤ k → k < l.s → get_bit l.word k ≡ true
