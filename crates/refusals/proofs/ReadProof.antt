-- Numbers 1 to 6: what reading finds where it refuses.
use mathlib.Core.Path.{◌≡◌, refl, sym, ap, ◌∙◌}
use mathlib.Core.Logic.{inl, inr}
use mathlib.Core.Bool.{Bool, true, false, not, ◌&&◌}
use mathlib.Core.List.{List, [], ◌∷◌, ◌++◌}
use Prim.Native.Nat.{ℕ, zero, suc, ◌+◌, ◌*◌, ◌-◌, ◌/◌, ◌<◌}
use native.Mathlib.Numerals.{add-one}
use native.Mathlib.Omega.{arith}
use borrow.Author.Tests.{leb-true, leb-false, ltb-true, ltb-false, eqb-true, eqb-false, not-true, not-false}
use lib.Dec.{leb, ltb, eqb}
use lib.ListN.{length}
use Rattle.answer.specs.Number.{number, place}
use Rattle.answer.specs.declared.Refusal.{Refusal}
use Rattle.answer.specs.declared.Refusal.TheVariants as refuse
use Rattle.bits.specs.Field.{num_at}
use Rattle.bits.specs.Read.{Ans, ok, no, bind, guard, read_field, upto}
use Rattle.bits.proofs.FieldLaws.{Here}
use Rattle.bits.proofs.ReadLaws.{ok-is, ok-next, bind_ok, guard_ok, field-read, read_here, read_short}
use Rattle.condition.specs.Reading.{Counted, input_at, behind, operands_at, node_at, cond_at, condition_at}
use Rattle.reader.specs.Sheet.{Transition}
use Rattle.reader.specs.Reading.{read_header, row_at, transition_at, ends_at, read_sheet}
use Rattle.reader.specs.declared.Header.{Header}
use Rattle.refusals.specs.Fields.{
  n_of,
  k_of,
  l_of,
  m_of,
  Field,
  states,
  inputs,
  outputs,
  transitions,
  row,
  source,
  destination,
  priority,
  wait,
  tag,
  input,
  rest,
  width,
  Whole,
  Begins,
  at_states,
  at_inputs,
  at_outputs,
  at_transitions,
  first_row,
  next_row,
  first_source,
  at_destination,
  at_priority,
  at_wait,
  at_condition,
  at_input,
  at_operand,
  at_second,
  next_source,
  at_rest,
}
use Rattle.refusals.specs.Refusals as says
use Rattle.refusals.specs.Refusals.{Unread}

module _ (s : List ℕ) where
  -- what holds of a refusal, if an answer is one
  abbrev On : {A : Type 0} → Ans A → Type 0
  On (ok a next) = Unit {0}
  On (no why) = Unread s (number why) (place why)

  bind-on : {A B : Type 0} (x : Ans A) (f : A → ℕ → Ans B) → On x → ((a : A) (m : ℕ) → x ≡ ok a m → On (f a m)) → On (bind x f)
  bind-on (ok a m) f h g = g a m refl
  bind-on (no why) f h g = h

  guard-on : {A : Type 0} (t : Bool) (why : Refusal) (x : Ans A) → (t ≡ false → Unread s (number why) (place why)) → (t ≡ true → On x) → On (guard t why x)
  guard-on true why x h g = g refl
  guard-on false why x h g = h refl

  upto-on : {A : Type 0} (read : ℕ → Ans A) (at m : ℕ) → ((i : ℕ) → i < m → (xs : List A) (a : ℕ) → upto read at i ≡ ok xs a → On (read a)) → On (upto read at m)
  unfolding upto
  upto-on read at zero h = tt
  upto-on read at (suc m) h =
      bind-on (upto read at m) (λ xs a. bind (read a) λ x b. ok (xs ++ x ∷ []) b) (upto-on read at m (λ i l. h i (omega arith)))
      (λ xs a e. bind-on (read a) (λ x b. ok (xs ++ x ∷ []) b) (h m (omega arith) xs a e) (λ x b f. tt))

  -- a field that begins here is there, or SHORT
  field-on : (f : Field) {at : ℕ} → Begins s f at → On (read_field s (width s f) at)
  field-on f {at} b = go (leb (at + width s f) (length s * 8)) refl
    where
      go : (t : Bool) → leb (at + width s f) (length s * 8) ≡ t → On (read_field s (width s f) at)
      go true e = rw (read_here s (width s f) at (leb-true (at + width s f) (length s * 8) e)) tt
      go false e = rw (read_short s (width s f) at (leb-false (at + width s f) (length s * 8) e)) (says.short refl f b (leb-false (at + width s f) (length s * 8) e))

  -- the same place, known otherwise
  moved : (f : Field) {x y : ℕ} → y ≡ x → Begins s f x → Begins s f y
  moved f e b = rw e b

  whole : (f : Field) (at : ℕ) {v next : ℕ} → read_field s (width s f) at ≡ ok v next → Whole s f at
  whole f at e = omega (arith, (field-read s (width s f) at e).after, (field-read s (width s f) at e).inside)

  -- one step: from a field that was read to the one behind it
  to-inputs : {v next : ℕ} → read_field s 5 0 ≡ ok v next → not (eqb v 0) ≡ true → Begins s inputs next
  to-inputs {v} e g =
      let here = field-read s 5 0 e in
      let some : v ≡ 0 → ⊥ = eqb-false v 0 (not-true _ g) in
      moved inputs here.after (at_inputs (whole states 0 e) (omega (arith, here.value, some)))

  module _ (i at : ℕ) {v next : ℕ} where
    to-destination : Begins s (source i) at → read_field s 5 at ≡ ok v next → ltb v (n_of s) ≡ true → Begins s (destination i) next
    to-destination b e g =
        let here = field-read s 5 at e in
        moved (destination i) here.after (at_destination b (whole (source i) at e) (omega (arith, here.value, ltb-true v (n_of s) g)))

    to-priority : Begins s (destination i) at → read_field s 5 at ≡ ok v next → ltb v (n_of s) ≡ true → Begins s (priority i) next
    to-priority b e g =
        let here = field-read s 5 at e in
        moved (priority i) here.after (at_priority b (whole (destination i) at e) (omega (arith, here.value, ltb-true v (n_of s) g)))

    to-wait : Begins s (priority i) at → read_field s 7 at ≡ ok v next → Begins s (wait i) next
    to-wait b e = moved (wait i) (field-read s 7 at e).after (at_wait b (whole (priority i) at e))

    to-condition : Begins s (wait i) at → read_field s 24 at ≡ ok v next → Begins s (tag i 0 1) next
    to-condition b e = moved (tag i 0 1) (field-read s 24 at e).after (at_condition b (whole (wait i) at e))

  -- one of several things that were read
  upto-last : {A : Type 0} (read : ℕ → Ans A) (at i : ℕ) {xs : List A} {b : ℕ} → upto read at (suc i) ≡ ok xs b
      → (ys : List A) × (a : ℕ) × (upto read at i ≡ ok ys a) × (x : A) × (read a ≡ ok x b)
  unfolding upto
  upto-last read at i {xs} {b} e =
      let x = bind_ok (upto read at i) _ e in
      let y = bind_ok (read x.1) _ x.3 in
      (x.0, x.1, x.2, y.0, y.2 ∙ ap (ok y.0) (ok-next y.3))

  -- what a header that was read says, and the first row behind it
  record Says (h : Header) (next : ℕ) : Type 0 where
    n-is : h.states ≡ n_of s
    k-is : h.inputs ≡ k_of s
    l-is : h.outputs ≡ l_of s
    m-is : h.transitions ≡ m_of s
    next-is : next ≡ 20
    first : Begins s (row 0) 20

  header-says : (h : Header) (next : ℕ) → read_header s ≡ ok h next → Says h next
  unfolding read_header
  header-says h next e =
      let x1 = bind_ok (read_field s 5 0) _ e in
      let g = guard_ok (not (eqb x1.0 0)) refuse.OneState _ x1.3 in
      let at5 : x1.1 ≡ 5 = (field-read s 5 0 x1.2).after in
      let x2 = bind_ok (read_field s 4 x1.1) _ g.1 in
      let e2 : read_field s 4 5 ≡ ok x2.0 x2.1 = ap (read_field s 4) (sym at5) ∙ x2.2 in
      let at9 : x2.1 ≡ 9 = (field-read s 4 5 e2).after in
      let x3 = bind_ok (read_field s 4 x2.1) _ x2.3 in
      let e3 : read_field s 4 9 ≡ ok x3.0 x3.1 = ap (read_field s 4) (sym at9) ∙ x3.2 in
      let at13 : x3.1 ≡ 13 = (field-read s 4 9 e3).after in
      let x4 = bind_ok (read_field s 7 x3.1) _ x3.3 in
      let e4 : read_field s 7 13 ≡ ok x4.0 x4.1 = ap (read_field s 7) (sym at13) ∙ x4.2 in
      let is = ok-is x4.3 in
      let b : Begins s inputs 5 = moved inputs (sym at5) (to-inputs x1.2 g.0) in
      record {
        n-is = sym (ap (λ (v : Header). v.states) is) ∙ ap (λ v. v + 1) (field-read s 5 0 x1.2).value;
        k-is = sym (ap (λ (v : Header). v.inputs) is) ∙ ap (λ v. v + 1) (field-read s 4 5 e2).value;
        l-is = sym (ap (λ (v : Header). v.outputs) is) ∙ ap (λ v. v + 1) (field-read s 4 9 e3).value;
        m-is = sym (ap (λ (v : Header). v.transitions) is) ∙ ap (λ v. v + 1) (field-read s 7 13 e4).value;
        next-is = sym (ok-next x4.3) ∙ (field-read s 7 13 e4).after;
        first = first_row (at_transitions (at_outputs b (whole inputs 5 e2)) (whole outputs 9 e3)) (whole transitions 13 e4);
      }

  header-on : On (read_header s)
  unfolding read_header
  header-on =
      bind-on (read_field s 5 0) _ (field-on states at_states) λ n a1 e1.
      guard-on (not (eqb n 0)) refuse.OneState _
      (λ f. says.one_state refl refl (whole states 0 e1) (sym (field-read s 5 0 e1).value ∙ eqb-true n 0 (not-false _ f))) λ g.
      let at5 : a1 ≡ 5 = (field-read s 5 0 e1).after in
      let b1 = to-inputs e1 g in
      bind-on (read_field s 4 a1) _ (field-on inputs b1) λ k a2 e2.
      let f2 : read_field s 4 5 ≡ ok k a2 = rw at5 at e2 in
      let b2 : Begins s outputs 9 = at_outputs (moved inputs (sym at5) b1) (whole inputs 5 f2) in
      let at9 : a2 ≡ 9 = (field-read s 4 5 f2).after in
      bind-on (read_field s 4 a2) _ (field-on outputs (moved outputs at9 b2)) λ l a3 e3.
      let f3 : read_field s 4 9 ≡ ok l a3 = rw at9 at e3 in
      let at13 : a3 ≡ 13 = (field-read s 4 9 f3).after in
      bind-on (read_field s 7 a3) _ (field-on transitions (moved transitions at13 (at_transitions b2 (whole outputs 9 f3)))) λ m a4 e4.
      tt

  -- rows
  row-at : (i : ℕ) (rows : List (List Bool)) (at : ℕ) → Begins s (row 0) 20 → upto (row_at s (l_of s)) 20 i ≡ ok rows at → i < n_of s → Begins s (row i) at
  unfolding upto row_at
  row-at zero rows at b e l = moved (row 0) (sym (ok-next e)) b
  row-at (suc i) rows at b e l =
      let x = upto-last (row_at s (l_of s)) 20 i e in
      let z = bind_ok (read_field s (l_of s) x.1) _ x.4 in
      let before : Begins s (row i) x.1 = row-at i x.0 x.1 b x.2 (omega arith) in
      let there : at ≡ x.1 + l_of s = sym (ok-next z.3) ∙ (field-read s (l_of s) x.1 z.2).after in
      moved (row (suc i)) there (rw (add-one i) at (next_row before (whole (row i) x.1 z.2) (omega arith)))

  rows_on : Begins s (row 0) 20 → On (upto (row_at s (l_of s)) 20 (n_of s))
  unfolding row_at
  rows_on b = upto-on (row_at s (l_of s)) 20 (n_of s) (λ i l xs a e. bind-on (read_field s (l_of s) a) _ (field-on (row i) (row-at i xs a b e l)) (λ v next f. tt))

  -- the first transition behind the rows
  source-at : (rows : List (List Bool)) (at : ℕ) → Begins s (row 0) 20 → upto (row_at s (l_of s)) 20 (n_of s) ≡ ok rows at → Begins s (source 0) at
  unfolding row_at
  source-at rows at b e =
      let x = upto-last (row_at s (l_of s)) 20 (num_at s 0 5) (ap (upto (row_at s (l_of s)) 20) (sym (add-one (num_at s 0 5))) ∙ e) in
      let z = bind_ok (read_field s (l_of s) x.1) _ x.4 in
      let before : Begins s (row (num_at s 0 5)) x.1 = row-at (num_at s 0 5) x.0 x.1 b x.2 (omega arith) in
      let there : at ≡ x.1 + l_of s = sym (ok-next z.3) ∙ (field-read s (l_of s) x.1 z.2).after in
      moved (source 0) there (first_source before (whole (row (num_at s 0 5)) x.1 z.2) refl)

  -- a transition that was read: its wait, and its condition behind it
  record Passed (i next : ℕ) : Type 0 where
    at : ℕ
    begins : Begins s (wait i) at
    there : Whole s (wait i) at
    condition : Counted
    is : condition_at s (k_of s) (at + 24) ≡ ok condition next

  passed : (i at : ℕ) {t : Transition} {next : ℕ} → Begins s (source i) at → transition_at s (n_of s) (k_of s) at ≡ ok t next → Passed i next
  unfolding transition_at
  passed i at {t} {next} b e =
      let x1 = bind_ok (read_field s 5 at) _ e in
      let g1 = guard_ok (ltb x1.0 (n_of s)) (refuse.StateNo at) _ x1.3 in
      let x2 = bind_ok (read_field s 5 x1.1) _ g1.1 in
      let g2 = guard_ok (ltb x2.0 (n_of s)) (refuse.StateNo x1.1) _ x2.3 in
      let x3 = bind_ok (read_field s 7 x2.1) _ g2.1 in
      let x4 = bind_ok (read_field s 24 x3.1) _ x3.3 in
      let x5 = bind_ok (condition_at s (k_of s) x4.1) _ x4.3 in
      let b1 = to-destination i at b x1.2 g1.0 in
      let b2 = to-priority i x1.1 b1 x2.2 g2.0 in
      let after : x4.1 ≡ x3.1 + 24 = (field-read s 24 x3.1 x4.2).after in
      record {
        at = x3.1;
        begins = to-wait i x2.1 b2 x3.2;
        there = whole (wait i) x3.1 x4.2;
        condition = x5.0;
        is = ap (condition_at s (k_of s)) (sym after) ∙ x5.2 ∙ ap (ok x5.0) (ok-next x5.3);
      }

  sources : (a : ℕ) → Begins s (source 0) a → (i : ℕ) (ts : List Transition) (at : ℕ) → upto (transition_at s (n_of s) (k_of s)) a i ≡ ok ts at → i < m_of s
      → Begins s (source i) at
  unfolding upto
  sources a b zero ts at e l = moved (source 0) (sym (ok-next e)) b
  sources a b (suc i) ts at e l =
      let x = upto-last (transition_at s (n_of s) (k_of s)) a i e in
      let p = passed i x.1 (sources a b i x.0 x.1 x.2 (omega arith)) x.4 in
      rw (add-one i) at (next_source p.begins p.there p.condition p.is (omega arith))

  rest_at : (a : ℕ) → Begins s (source 0) a → (ts : List Transition) (at : ℕ) → upto (transition_at s (n_of s) (k_of s)) a (m_of s) ≡ ok ts at → Begins s rest at
  rest_at a b ts at e =
      let x = upto-last (transition_at s (n_of s) (k_of s)) a (num_at s 13 7) (ap (upto (transition_at s (n_of s) (k_of s)) a) (sym (add-one (num_at s 13 7))) ∙ e) in
      let p = passed (num_at s 13 7) x.1 (sources a b (num_at s 13 7) x.0 x.1 x.2 (omega arith)) x.4 in
      at_rest p.begins p.there p.condition p.is refl

  -- a condition of transition i
  module _ (i : ℕ) where
    input-on : (seen at : ℕ) → Begins s (input i) at → On (input_at s (k_of s) seen at)
    unfolding input_at
    input-on seen at b =
        bind-on (read_field s 4 at) _ (field-on (input i) b) λ v next e.
        guard-on (ltb v (k_of s)) (refuse.InputNo at) _
        (λ f. says.input_no refl i b (whole (input i) at e) (omega (arith, (field-read s 4 at e).value, ltb-false v (k_of s) f))) λ f.
        tt

    -- a node whose tag was read and is judged well, `room` levels left for its operands
    module _ (room depth : ℕ) (fits : suc room + depth ≡ 9) (ih : (seen at : ℕ) → Begins s (tag i seen (depth + 1)) at → On (cond_at room s (k_of s) seen at)) where
      operands-on : (seen at v next : ℕ) → Begins s (tag i seen depth) at → read_field s 2 at ≡ ok v next → seen < 31 → (v ≡ 0 → ⊥)
          → On (operands_at (cond_at room s (k_of s)) v (seen + 1) next)
      unfolding operands_at
      operands-on seen at v next b e few some =
          bind-on (cond_at room s (k_of s) (seen + 1) next) _
          (ih (seen + 1) next (moved (tag i (seen + 1) (depth + 1)) here.after (at_operand b there few (omega arith) (omega (arith, here.value, some)))))
          (λ a after f. behind-on (eqb v 1) refl a after f)
        where
          here : Here s at 2 v next
          here = field-read s 2 at e

          there : Whole s (tag i seen depth) at
          there = whole (tag i seen depth) at e

          behind-on : (one : Bool) → eqb v 1 ≡ one → (a : Counted) (after : ℕ) → cond_at room s (k_of s) (seen + 1) next ≡ ok a after
              → On (behind one (cond_at room s (k_of s)) v a after)
          behind-on true t a after f = tt
          behind-on false t a after f =
              let other : v ≡ 1 → ⊥ = eqb-false v 1 t in
              let levels : room ≡ 8 - depth = omega arith in
              let first : cond_at (8 - depth) s (k_of s) (seen + 1) (at + 2) ≡ ok a after = rw (levels, here.after) at f in
              bind-on (cond_at room s (k_of s) a.count after) _
              (ih a.count after (at_second b there few (omega arith) (omega (arith, here.value, some, other)) a first)) (λ c last g. tt)

      node-on : (full leaf : Bool) (seen at v next : ℕ) → leb 31 seen ≡ full → eqb v 0 ≡ leaf → Begins s (tag i seen depth) at → read_field s 2 at ≡ ok v next
          → On (node_at full leaf (cond_at room s (k_of s)) s (k_of s) v seen at next)
      node-on true leaf seen at v next f g b e =
          says.big refl i seen depth b (whole (tag i seen depth) at e) (inl (leb-true 31 seen f))
      node-on false true seen at v next f g b e =
          let here = field-read s 2 at e in
          let zero : num_at s at 2 ≡ 0 = sym here.value ∙ eqb-true v 0 g in
          input-on seen next (moved (input i) here.after
          (at_input b (whole (tag i seen depth) at e) (leb-false 31 seen f) (omega arith) zero))
      node-on false false seen at v next f g b e = operands-on seen at v next b e (leb-false 31 seen f) (eqb-false v 0 g)

    cond-on : (room depth : ℕ) → room + depth ≡ 9 → (seen at : ℕ) → Begins s (tag i seen depth) at → On (cond_at room s (k_of s) seen at)
    unfolding cond_at
    cond-on zero depth e seen at b =
        bind-on (read_field s 2 at) _ (field-on (tag i seen depth) b)
        (λ v next f. says.big refl i seen depth b (whole (tag i seen depth) at f) (inr (omega arith)))
    cond-on (suc room) depth e seen at b =
        bind-on (read_field s 2 at) _ (field-on (tag i seen depth) b)
        (λ v next f. node-on room depth e (cond-on room (depth + 1) (omega arith)) (leb 31 seen) (eqb v 0) seen at v next refl refl b f)

    transition-on : (at : ℕ) → Begins s (source i) at → On (transition_at s (n_of s) (k_of s) at)
    unfolding transition_at
    transition-on at b =
        bind-on (read_field s 5 at) _ (field-on (source i) b) λ from a1 e1.
        guard-on (ltb from (n_of s)) (refuse.StateNo at) _
        (λ f. says.state_no refl i (inl b) (whole (source i) at e1) (omega (arith, (field-read s 5 at e1).value, ltb-false from (n_of s) f))) λ g1.
        let b1 = to-destination i at b e1 g1 in
        bind-on (read_field s 5 a1) _ (field-on (destination i) b1) λ to a2 e2.
        guard-on (ltb to (n_of s)) (refuse.StateNo a1) _
        (λ f. says.state_no refl i (inr b1) (whole (destination i) a1 e2) (omega (arith, (field-read s 5 a1 e2).value, ltb-false to (n_of s) f))) λ g2.
        let b2 = to-priority i a1 b1 e2 g2 in
        bind-on (read_field s 7 a2) _ (field-on (priority i) b2) λ p a3 e3.
        let b3 = to-wait i a2 b2 e3 in
        bind-on (read_field s 24 a3) _ (field-on (wait i) b3) λ w a4 e4.
        bind-on (condition_at s (k_of s) a4) _ (cond-on 8 1 refl 0 a4 (to-condition i a3 b3 e4)) λ t a5 e5.
        tt

  -- the two reasons of TAIL
  tail_of : (at : ℕ) → Begins s rest at → ends_at s at ≡ false → Unread s 6 at
  unfolding ends_at
  tail_of at b e = go (eqb (length s) ((at + 7) / 8)) refl e
    where
      go : (t : Bool) → eqb (length s) ((at + 7) / 8) ≡ t → t && eqb (num_at s at ((at + 7) / 8 * 8 - at)) 0 ≡ false → Unread s 6 at
      go true f e = says.tail refl b (inr (eqb-false _ 0 e))
      go false f e = says.tail refl b (inl (eqb-false _ _ f))

  -- what follows the header, which says the numbers of the bytes
  rows_told : (n l a : ℕ) → n ≡ n_of s → l ≡ l_of s → a ≡ 20 → Begins s (row 0) 20 → On (upto (row_at s l) a n)
  rows_told n l a en el ea b = rw (en, el, ea) (rows_on b)

  source_told : (n l a : ℕ) → n ≡ n_of s → l ≡ l_of s → a ≡ 20 → Begins s (row 0) 20 → {rows : List (List Bool)} {at : ℕ} → upto (row_at s l) a n ≡ ok rows at
      → Begins s (source 0) at
  source_told n l a en el ea b {rows} {at} e = source-at rows at b (rw (en, el, ea) at e)

  transitions-told : (n k m a : ℕ) → n ≡ n_of s → k ≡ k_of s → m ≡ m_of s → Begins s (source 0) a → On (upto (transition_at s n k) a m)
  transitions-told n k m a en ek em b =
      rw (en, ek, em) (upto-on (transition_at s (n_of s) (k_of s)) a (m_of s) (λ i l ts at e. transition-on i at (sources a b i ts at e l)))

  rest-told : (n k m a : ℕ) → n ≡ n_of s → k ≡ k_of s → m ≡ m_of s → Begins s (source 0) a → {ts : List Transition} {at : ℕ} → upto (transition_at s n k) a m ≡ ok ts at
      → Begins s rest at
  rest-told n k m a en ek em b {ts} {at} e = rest_at a b ts at (rw (en, ek, em) at e)

  sheet-on : On (read_sheet s)
  unfolding read_sheet
  sheet-on =
      bind-on (read_header s) _ header-on λ h a1 e1.
      let says = header-says h a1 e1 in
      bind-on (upto (row_at s h.outputs) a1 h.states) _
      (rows_told h.states h.outputs a1 says.n-is says.l-is says.next-is says.first) λ rows a2 e2.
      let b = source_told h.states h.outputs a1 says.n-is says.l-is says.next-is says.first e2 in
      bind-on (upto (transition_at s h.states h.inputs) a2 h.transitions) _
      (transitions-told h.states h.inputs h.transitions a2 says.n-is says.k-is says.m-is b) λ ts a3 e3.
      guard-on (ends_at s a3) (refuse.Tail a3) _
      (tail_of a3 (rest-told h.states h.inputs h.transitions a2 says.n-is says.k-is says.m-is b e3)) λ g.
      tt

  -- what is read to be refused
  pub unread : (why : Refusal) → read_sheet s ≡ no why → Unread s (number why) (place why)
  unread why e = rw e at sheet-on
