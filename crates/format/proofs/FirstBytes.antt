-- Reading looks at no bit from 32,768 on, so that the first 4,096 bytes of a longer byte string give its answer. Assumes nothing.
use mathlib.Core.Path.{◌≡◌, refl, sym, ap, ◌∙◌}
use mathlib.Core.Bool.{Bool, true, false, not}
use mathlib.Core.List.{List}
use Prim.Native.Nat.{ℕ, zero, suc, ◌+◌, ◌*◌, ◌-◌, ◌/◌, ◌≤◌, ◌<◌}
use native.Mathlib.Omega.{arith}
use borrow.Author.Tests.{leb-true, leb-false, ne_eqb}
use lib.Dec.{leb, ltb, eqb}
use lib.ListN.{length, get_or, take}
use lib.Seq.{length-take-le, get_or-take, take_all}
use Rattle.answer.specs.declared.Refusal.TheVariants as refuse
use Rattle.bits.specs.Field.{bit_at, num_at}
use Rattle.bits.specs.Read.{ok, guard, read_field, upto}
use Rattle.bits.proofs.ReadLaws.{field-read, read_here, bind-both, upto-both}
use Rattle.condition.specs.Reading.{Counted, input_at, behind, operands_at, node_at, cond_at, condition_at}
use Rattle.condition.proofs.Laws.{cond-went}
use Rattle.reader.specs.Reading.{read_header, row_at, transition_at, ends_at, read_sheet}
use Rattle.reader.proofs.Laws.{header-fits, row_next, transition-next, rows_next, transitions-next}

module _ (s t : List ℕ) (same : (i : ℕ) → i < 4096 → get_or t i 0 ≡ get_or s i 0) (long : 4096 < length s) (cut : length t ≡ 4096) where
  num-same : (at w : ℕ) → at + w ≤ 32768 → num_at t at w ≡ num_at s at w
  unfolding num_at bit_at
  num-same at zero h = refl
  num-same at (suc w) h =
      let b = same ((at + w) / 8) (omega arith) in
      rw (num-same at w (omega arith), b) refl

  field-same : (w at : ℕ) → at + w ≤ 32768 → read_field t w at ≡ read_field s w at
  field-same w at h =
      read_here t w at (omega arith) ∙ ap (λ (v : ℕ). ok v (at + w)) (num-same at w h) ∙ sym (read_here s w at (omega arith))

  input-same : (k seen at : ℕ) → at + 4 ≤ 32768 → input_at t k seen at ≡ input_at s k seen at
  unfolding input_at
  input-same k seen at h = bind-both (read_field s 4 at) _ _ (field-same 4 at h) λ i next e. refl

  -- conditions at most `room` deep are read alike. One behind `seen` nodes has at most 31 - seen of them, of at most 6 bits each, and
  -- a tag more is looked at
  abbrev Alike : ℕ → ℕ → Type 0
  Alike room k = (seen at : ℕ) → seen ≤ 31 → at + 6 * (31 - seen) + 2 ≤ 32768 → cond_at room t k seen at ≡ cond_at room s k seen at

  module _ (room k : ℕ) (alike : Alike room k) (seen at next : ℕ) (far : at + 6 * (31 - seen) + 2 ≤ 32768) (here : next ≡ at + 2) where
    second-same : seen < 31 → (b : Bool) (tag : ℕ) (a : Counted) (after : ℕ) → cond_at room s k (seen + 1) next ≡ ok a after
        → behind b (cond_at room t k) tag a after ≡ behind b (cond_at room s k) tag a after
    second-same l true tag a after q = refl
    second-same l false tag a after q =
        let w = cond-went room s k (seen + 1) next a after q in
        bind-both (cond_at room s k a.count after) _ _ (alike a.count after w.few (omega (arith, w.pace, w.few))) λ b last p. refl

    node-same : (big : Bool) → leb 31 seen ≡ big → (input : Bool) (tag : ℕ)
        → node_at big input (cond_at room t k) t k tag seen at next ≡ node_at big input (cond_at room s k) s k tag seen at next
    unfolding operands_at
    node-same true b input tag = refl
    node-same false b true tag = let l : seen < 31 = leb-false 31 seen b in input-same k seen next (omega arith)
    node-same false b false tag =
        let l : seen < 31 = leb-false 31 seen b in
        bind-both (cond_at room s k (seen + 1) next) _ _ (alike (seen + 1) next (omega arith) (omega arith)) λ a after q.
        second-same l (eqb tag 1) tag a after q

  cond_same : (room k : ℕ) → Alike room k
  unfolding cond_at
  cond_same zero k seen at few h = bind-both (read_field s 2 at) _ _ (field-same 2 at (omega arith)) λ tag next e. refl
  cond_same (suc room) k seen at few h =
      bind-both (read_field s 2 at) _ _ (field-same 2 at (omega arith)) λ tag next e.
      node-same room k (cond_same room k) seen at next h (field-read s 2 at e).after (leb 31 seen) refl (eqb tag 0) tag

  header-same : read_header t ≡ read_header s
  unfolding read_header
  header-same =
      bind-both (read_field s 5 0) _ _ (field-same 5 0 (omega arith)) λ n a1 e1.
      ap (guard (not (eqb n 0)) refuse.OneState)
      (bind-both (read_field s 4 a1) _ _ (field-same 4 a1 (omega (arith, (field-read s 5 0 e1).after))) λ k a2 e2.
      bind-both (read_field s 4 a2) _ _ (field-same 4 a2 (omega (arith, (field-read s 5 0 e1).after, (field-read s 4 a1 e2).after))) λ l a3 e3.
      bind-both (read_field s 7 a3) _ _
      (field-same 7 a3 (omega (arith, (field-read s 5 0 e1).after, (field-read s 4 a1 e2).after, (field-read s 4 a2 e3).after))) λ m a4 e4. refl)

  row_same : (l at : ℕ) → at + l ≤ 32768 → row_at t l at ≡ row_at s l at
  unfolding row_at
  row_same l at h = bind-both (read_field s l at) _ _ (field-same l at h) λ v next e. refl

  transition-same : (n k at : ℕ) → at + 229 ≤ 32768 → transition_at t n k at ≡ transition_at s n k at
  unfolding transition_at
  transition-same n k at h =
      bind-both (read_field s 5 at) _ _ (field-same 5 at (omega arith)) λ source a1 e1.
      let p1 = (field-read s 5 at e1).after in
      ap (guard (ltb source n) (refuse.StateNo at))
      (bind-both (read_field s 5 a1) _ _ (field-same 5 a1 (omega arith)) λ destination a2 e2.
      let p2 = (field-read s 5 a1 e2).after in
      ap (guard (ltb destination n) (refuse.StateNo a1))
      (bind-both (read_field s 7 a2) _ _ (field-same 7 a2 (omega arith)) λ priority a3 e3.
      let p3 = (field-read s 7 a2 e3).after in
      bind-both (read_field s 24 a3) _ _ (field-same 24 a3 (omega arith)) λ wait a4 e4.
      let p4 = (field-read s 24 a3 e4).after in
      bind-both (condition_at s k a4) _ _ (cond_same 8 k 0 a4 (omega arith) (omega arith)) λ c a5 e5. refl))

  -- a byte follows the last condition in either
  ends_same : (at : ℕ) → at ≤ 32760 → ends_at t at ≡ ends_at s at
  unfolding ends_at
  ends_same at h =
      let short : length t ≡ (at + 7) / 8 → ⊥ = (λ z. omega arith) in
      let other : length s ≡ (at + 7) / 8 → ⊥ = (λ z. omega arith) in
      rw (ne_eqb (length t) ((at + 7) / 8) short, ne_eqb (length s) ((at + 7) / 8) other) refl

  cut-same : read_sheet t ≡ read_sheet s
  unfolding read_sheet
  cut-same =
      bind-both (read_header s) _ _ header-same λ h a1 e1.
      let f = header-fits s e1 in
      let l = f.outputs.1 in
      let few = f.states.1 in
      let m = f.transitions.1 in
      bind-both (upto (row_at s h.outputs) a1 h.states) _ _
      (upto-both (row_at s h.outputs) (row_at t h.outputs) 16 (λ a x b e. omega (arith, row_next s h.outputs a e)) a1 h.states
      (λ a q. row_same h.outputs a (omega (arith, f.after)))) λ rows a2 e2.
      let r = rows_next s h.outputs a1 h.states l few e2 in
      bind-both (upto (transition_at s h.states h.inputs) a2 h.transitions) _ _
      (upto-both (transition_at s h.states h.inputs) (transition_at t h.states h.inputs) 227
      (λ a x b e. transition-next s h.states h.inputs a e) a2 h.transitions
      (λ a q. transition-same h.states h.inputs a (omega (arith, f.after)))) λ ts a3 e3.
      let end : a3 ≤ 32760 = omega (arith, f.after, transitions-next s h.states h.inputs a2 h.transitions m e3) in
      rw (ends_same a3 end) refl

pub read_first : (s : List ℕ) → read_sheet (take 4096 s) ≡ read_sheet s
read_first s = go (leb (length s) 4096) refl
  where
    go : (b : Bool) → leb (length s) 4096 ≡ b → read_sheet (take 4096 s) ≡ read_sheet s
    go true e = ap read_sheet (take_all 4096 s (leb-true (length s) 4096 e))
    go false e =
        let long : 4096 < length s = leb-false (length s) 4096 e in
        cut-same s (take 4096 s) (λ i l. get_or-take 4096 s i 0 l) long (length-take-le 4096 s (omega arith))
