-- How large the place of a sheet that is refused in reading can be. Assumes nothing.
use mathlib.Core.Path.{◌≡◌}
use mathlib.Core.Bool.{not}
use mathlib.Core.List.{List}
use Prim.Native.Nat.{ℕ, ◌+◌, ◌≤◌}
use native.Mathlib.Omega.{arith}
use lib.Dec.{ltb, eqb}
use Rattle.answer.specs.Number.{place, farthest}
use Rattle.answer.specs.declared.Refusal.{Refusal}
use Rattle.answer.specs.declared.Refusal.TheVariants as refuse
use Rattle.bits.specs.Read.{no, read_field, upto}
use Rattle.bits.proofs.ReadLaws.{field-read}
use Rattle.bits.proofs.PlaceLaws.{Within, ok-within, guard-within, bind-within, field-within, upto-within}
use Rattle.condition.specs.Reading.{condition_at}
use Rattle.condition.proofs.PlaceLaws.{condition-within}
use Rattle.reader.specs.Reading.{read_header, row_at, transition_at, ends_at, read_sheet}
use Rattle.reader.proofs.Laws.{header-fits, row_next, transition-next, rows_next, transitions-next}

module _ (n : ℕ) (s : List ℕ) where
  header-within : 20 ≤ n → Within n (read_header s)
  unfolding read_header
  header-within h =
      bind-within n (read_field s 5 0) _ (field-within n s 5 0 (omega arith)) λ a a1 e1.
      guard-within n (not (eqb a 0)) refuse.OneState _ (omega arith)
      (bind-within n (read_field s 4 a1) _ (field-within n s 4 a1 (omega (arith, (field-read s 5 0 e1).after))) λ b a2 e2.
      bind-within n (read_field s 4 a2) _
      (field-within n s 4 a2 (omega (arith, (field-read s 5 0 e1).after, (field-read s 4 a1 e2).after))) λ c a3 e3.
      bind-within n (read_field s 7 a3) _
      (field-within n s 7 a3 (omega (arith, (field-read s 5 0 e1).after, (field-read s 4 a1 e2).after, (field-read s 4 a2 e3).after))) λ d a4 e4.
      ok-within n _ a4)

  row_within : (l at : ℕ) → at ≤ n → Within n (row_at s l at)
  unfolding row_at
  row_within l at h = bind-within n (read_field s l at) _ (field-within n s l at h) λ v next e. ok-within n _ next

  transition-within : (states k at : ℕ) → at + 227 ≤ n → Within n (transition_at s states k at)
  unfolding transition_at
  transition-within states k at h =
      bind-within n (read_field s 5 at) _ (field-within n s 5 at (omega arith)) λ source a1 e1.
      let p1 = (field-read s 5 at e1).after in
      guard-within n (ltb source states) (refuse.StateNo at) _ (omega arith)
      (bind-within n (read_field s 5 a1) _ (field-within n s 5 a1 (omega arith)) λ destination a2 e2.
      let p2 = (field-read s 5 a1 e2).after in
      guard-within n (ltb destination states) (refuse.StateNo a1) _ (omega arith)
      (bind-within n (read_field s 7 a2) _ (field-within n s 7 a2 (omega arith)) λ priority a3 e3.
      let p3 = (field-read s 7 a2 e3).after in
      bind-within n (read_field s 24 a3) _ (field-within n s 24 a3 (omega arith)) λ wait a4 e4.
      bind-within n (condition_at s k a4) _ (condition-within n s k a4 (omega (arith, (field-read s 24 a3 e4).after))) λ t a5 e5.
      ok-within n _ a5))

sheet-within : (s : List ℕ) → Within farthest (read_sheet s)
unfolding read_sheet
sheet-within s =
    bind-within farthest (read_header s) _ (header-within farthest s (omega arith)) λ h a1 e1.
    let f = header-fits s e1 in
    let l = f.outputs.1 in
    let few = f.states.1 in
    let m = f.transitions.1 in
    bind-within farthest (upto (row_at s h.outputs) a1 h.states) _
    (upto-within farthest (row_at s h.outputs) 16 (λ a x b e. omega (arith, row_next s h.outputs a e)) a1 h.states
    (λ a q. row_within farthest s h.outputs a (omega (arith, f.after)))) λ rows a2 e2.
    let r = rows_next s h.outputs a1 h.states l few e2 in
    bind-within farthest (upto (transition_at s h.states h.inputs) a2 h.transitions) _
    (upto-within farthest (transition_at s h.states h.inputs) 227 (λ a t b e. transition-next s h.states h.inputs a e) a2 h.transitions
    (λ a q. transition-within farthest s h.states h.inputs a (omega (arith, f.after)))) λ ts a3 e3.
    guard-within farthest (ends_at s a3) (refuse.Tail a3) _
    (omega (arith, f.after, transitions-next s h.states h.inputs a2 h.transitions m e3)) (ok-within farthest _ a3)

pub place-fits : (s : List ℕ) (why : Refusal) → read_sheet s ≡ no why → place why ≤ farthest
place-fits s why e = (sheet-within s).fits why e
