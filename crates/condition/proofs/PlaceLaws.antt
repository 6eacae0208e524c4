-- How large the place of a refused condition can be: six bits to a node, and no 32nd node is passed. Assumes nothing.
use mathlib.Core.Path.{◌≡◌, refl}
use mathlib.Core.Bool.{Bool, true, false}
use mathlib.Core.List.{List}
use Prim.Native.Nat.{ℕ, zero, suc, ◌+◌, ◌*◌, ◌≤◌}
use native.Mathlib.Omega.{arith}
use lib.Dec.{ltb, leb, eqb}
use borrow.Author.Tests.{leb-false}
use Rattle.answer.specs.declared.Refusal.TheVariants.{InputNo, Big}
use Rattle.bits.specs.Read.{Ans, ok, read_field}
use Rattle.bits.proofs.ReadLaws.{field-read}
use Rattle.bits.proofs.PlaceLaws.{Within, ok-within, no_within, guard-within, bind-within, field-within}
use Rattle.condition.specs.Cond.{inp}
use Rattle.condition.specs.Reading.{Counted, counted, input_at, behind, operands_at, node_at, cond_at, condition_at}
use Rattle.condition.proofs.Laws.{Went, cond-went}

module _ (n : ℕ) (s : List ℕ) (k : ℕ) where
  input-within : (seen at : ℕ) → at ≤ n → Within n (input_at s k seen at)
  unfolding input_at
  input-within seen at h =
      bind-within n (read_field s 4 at) _ (field-within n s 4 at h) λ i next e.
      guard-within n (ltb i k) (InputNo at) _ h (ok-within n (counted (inp i) (seen + 1)) next)

  -- where reading stays within n, so does reading behind nodes that were passed
  module _ (read : ℕ → ℕ → Ans Counted) (went : (seen at : ℕ) (x : Counted) (next : ℕ) → read seen at ≡ ok x next → Went s seen at x.count next)
      (ih : (seen at : ℕ) → seen ≤ 31 → at + 186 ≤ n + 6 * seen → Within n (read seen at)) where
    behind-within : (one : Bool) (tag seen at : ℕ) (x : Counted) (next : ℕ) → at + 186 ≤ n + 6 * seen → Went s seen at x.count next
        → Within n (behind one read tag x next)
    behind-within true tag seen at x next h w = ok-within n _ next
    behind-within false tag seen at x next h w =
        bind-within n (read x.count next) _ (ih x.count next w.few (omega (arith, w.pace, w.few))) λ y after e.
        ok-within n _ after

    operands-within : (tag seen at : ℕ) → seen ≤ 31 → at + 186 ≤ n + 6 * seen → Within n (operands_at read tag seen at)
    unfolding operands_at
    operands-within tag seen at few h =
        bind-within n (read seen at) _ (ih seen at few h) λ x next e.
        behind-within (eqb tag 1) tag seen at x next h (went seen at x next e)

    node-within : (full input : Bool) (tag seen at : ℕ) → leb 31 seen ≡ full → at + 186 ≤ n + 6 * seen → seen ≤ 31
        → Within n (node_at full input read s k tag seen at (at + 2))
    node-within true input tag seen at f h few = no_within n (Big at) (omega arith)
    node-within false true tag seen at f h few = input-within seen (at + 2) (omega (arith, leb-false 31 seen f))
    node-within false false tag seen at f h few =
        operands-within tag (seen + 1) (at + 2) (omega (arith, leb-false 31 seen f)) (omega arith)

  cond-within : (room seen at : ℕ) → seen ≤ 31 → at + 186 ≤ n + 6 * seen → Within n (cond_at room s k seen at)
  unfolding cond_at
  cond-within zero seen at few h =
      bind-within n (read_field s 2 at) _ (field-within n s 2 at (omega arith)) λ tag next e. no_within n (Big at) (omega arith)
  cond-within (suc room) seen at few h =
      bind-within n (read_field s 2 at) _ (field-within n s 2 at (omega arith)) λ tag next e.
      rw (field-read s 2 at e).after
      (node-within (cond_at room s k) (cond-went room s k) (cond-within room) (leb 31 seen) (eqb tag 0) tag seen at refl h few)

  -- a whole condition
  pub condition-within : (at : ℕ) → at + 186 ≤ n → Within n (condition_at s k at)
  condition-within at h = cond-within 8 0 at (omega arith) (omega arith)
