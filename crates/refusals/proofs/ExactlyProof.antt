-- Numbers 1 to 6 are given exactly there: where a field begins and its fault is found, reading refuses with it. Assumes nothing.
use mathlib.Core.Path.{◌≡◌, refl, ◌∙◌, sym}
use mathlib.Core.Logic.{◌⊎◌, inl, inr}
use mathlib.Core.Bool.{Bool, true, false, ◌&&◌}
use mathlib.Core.List.{List, []}
use Prim.Native.Nat.{ℕ, zero, suc, ◌+◌, ◌*◌, ◌-◌, ◌/◌, ◌≤◌, ◌<◌}
use native.Mathlib.Omega.{arith}
use borrow.Author.Tests.{lt-ltb, le-ltb, le-leb, lt-leb, ne_eqb}
use lib.Dec.{ltb, eqb}
use lib.ListN.{length}
use Rattle.answer.specs.Number.{number, place}
use Rattle.answer.specs.declared.Refusal.{Refusal}
use Rattle.answer.specs.declared.Refusal.TheVariants as refuse
use Rattle.bits.specs.Field.{num_at}
use Rattle.bits.specs.Word.{bits_of}
use Rattle.bits.specs.Read.{Ans, ok, no, bind, guard, read_field, upto}
use Rattle.bits.proofs.ReadLaws.{read_here, read_short, upto-more, upto-bad}
use Rattle.condition.specs.Reading.{Counted, input_at, operands_at, node_at, cond_at, condition_at}
use Rattle.condition.proofs.Laws.{cond-went}
use Rattle.reader.specs.Sheet.{Transition}
use Rattle.reader.specs.Reading.{read_header, row_at, transition_at, ends_at, read_sheet}
use Rattle.reader.specs.declared.Header.{Header}
use Rattle.refusals.specs.Fields.{
  n_of,
  k_of,
  l_of,
  m_of,
  Field,
  states,
  inputs,
  outputs,
  transitions,
  row,
  source,
  destination,
  priority,
  wait,
  tag,
  input,
  rest,
  width,
  Whole,
  Begins,
  at_states,
  at_inputs,
  at_outputs,
  at_transitions,
  first_row,
  next_row,
  first_source,
  at_destination,
  at_priority,
  at_wait,
  at_condition,
  at_input,
  at_operand,
  at_second,
  next_source,
  at_rest,
}
use Rattle.sheet.specs.Judging.{check_sheet}
use Rattle.refusals.specs.Refusals as says
use Rattle.refusals.specs.Refusals.{Unread, Numbered}

module _ (s : List ℕ) where
  -- a refusal of this part is one of the sheet
  abbrev Passes : {A : Type 0} → Ans A → Type 0
  Passes x = (why : Refusal) → x ≡ no why → read_sheet s ≡ no why

  -- the header that the bytes say
  abbrev head : Header
  head = record { states = n_of s; inputs = k_of s; outputs = l_of s; transitions = m_of s }

  -- what is left of the header from a field on
  abbrev from-transitions : ℕ → ℕ → ℕ → ℕ → Ans Header
  from-transitions n k l at = bind (read_field s 7 at) λ m next. ok (record { states = n; inputs = k; outputs = l; transitions = m + 1 }) next

  abbrev from-outputs : ℕ → ℕ → ℕ → Ans Header
  from-outputs n k at = bind (read_field s 4 at) λ l next. from-transitions n k (l + 1) next

  abbrev from-inputs : ℕ → ℕ → Ans Header
  from-inputs n at = bind (read_field s 4 at) λ k next. from-outputs n (k + 1) next

  -- and of a transition
  abbrev from-wait : ℕ → ℕ → ℕ → ℕ → Ans Transition
  from-wait from to rank at =
      bind (read_field s 24 at) λ time next.
      bind (condition_at s (k_of s) next) λ t last.
      ok (record { source = from; destination = to; priority = rank; wait = time; condition = t.tree }) last

  abbrev from-priority : ℕ → ℕ → ℕ → Ans Transition
  from-priority from to at = bind (read_field s 7 at) λ rank next. from-wait from to rank next

  abbrev from-destination : ℕ → ℕ → Ans Transition
  from-destination from at = bind (read_field s 5 at) λ to next. guard (ltb to (n_of s)) (refuse.StateNo at) (from-priority from to next)

  -- the header and i rows are read, the last of them up to `at`
  record Rows (i at : ℕ) : Type 0 where
    header : read_header s ≡ ok head 20
    rows : List (List Bool)
    read : upto (row_at s (l_of s)) 20 i ≡ ok rows at

  -- and all rows and i transitions
  record Before (i at : ℕ) : Type 0 where
    behind : ℕ
    above : Rows (n_of s) behind
    lines : List Transition
    read : upto (transition_at s (n_of s) (k_of s)) behind i ≡ ok lines at

  -- transition i is being read, and this much of it is left
  record Within (i : ℕ) (left : Ans Transition) : Type 0 where
    start : ℕ
    before : Before i start
    fewer : i < m_of s
    is : transition_at s (n_of s) (k_of s) start ≡ left

  -- what is refused in the header, a row or a transition, and one more row or transition that is read
  header-passes : Passes (read_header s)
  unfolding read_sheet
  header-passes why e = rw e refl

  row-passes : (i at : ℕ) → Rows i at → i < n_of s → Passes (read_field s (l_of s) at)
  unfolding read_sheet row_at
  row-passes i at r l why e =
      let one : row_at s (l_of s) at ≡ no why = rw e refl in
      rw (r.header, upto-bad (row_at s (l_of s)) 20 i (n_of s) l r.read one) refl

  row_more : (i at : ℕ) → Rows i at → Whole s (row i) at → Rows (i + 1) (at + l_of s)
  unfolding row_at
  row_more i at r w =
      let one : row_at s (l_of s) at ≡ ok (bits_of (l_of s) (num_at s at (l_of s))) (at + l_of s) = rw (read_here s (l_of s) at w) refl in
      record { header = r.header; rows = _; read = upto-more (row_at s (l_of s)) 20 i r.read one }

  within-passes : (i : ℕ) (left : Ans Transition) → Within i left → Passes left
  unfolding read_sheet
  within-passes i left t why e =
      let one : transition_at s (n_of s) (k_of s) t.start ≡ no why = t.is ∙ e in
      let b = t.before in
      rw (b.above.header, b.above.read, upto-bad (transition_at s (n_of s) (k_of s)) b.behind i (m_of s) t.fewer b.read one) refl

  within_more : (i : ℕ) (left : Ans Transition) → Within i left → {t : Transition} {next : ℕ} → left ≡ ok t next → Before (i + 1) next
  within_more i left t e =
      let b = t.before in
      record { behind = b.behind; above = b.above; lines = _; read = upto-more (transition_at s (n_of s) (k_of s)) b.behind i b.read (t.is ∙ e) }

  within_on : (i : ℕ) {x y : Ans Transition} → Within i x → x ≡ y → Within i y
  within_on i t e = record { start = t.start; before = t.before; fewer = t.fewer; is = t.is ∙ e }

  -- reading has come to this field: what is read before it, and what is left; of a condition, that its refusal is one of the sheet
  abbrev Reached : Field → ℕ → Type 0
  Reached states at = at ≡ 0
  Reached inputs at = read_header s ≡ from-inputs (n_of s) at
  Reached outputs at = read_header s ≡ from-outputs (n_of s) (k_of s) at
  Reached transitions at = read_header s ≡ from-transitions (n_of s) (k_of s) (l_of s) at
  Reached (row i) at = Rows i at × (i < n_of s)
  Reached (source i) at = Within i (transition_at s (n_of s) (k_of s) at)
  Reached (destination i) at = (from : ℕ) × Within i (from-destination from at)
  Reached (priority i) at = (from to : ℕ) × Within i (from-priority from to at)
  Reached (wait i) at = (from to rank : ℕ) × Within i (from-wait from to rank at)
  Reached (tag i seen depth) at = (depth ≤ 9) × Passes (cond_at (9 - depth) s (k_of s) seen at)
  Reached (input i) at = (seen : ℕ) × Passes (input_at s (k_of s) seen at)
  Reached rest at = Before (m_of s) at × (at ≤ length s * 8)

  -- one step: from a field that is there and judged well to the one behind it
  start-source : (i at : ℕ) → Before i at → i < m_of s → Reached (source i) at
  start-source i at b l = record { start = at; before = b; fewer = l; is = refl }

  to-inputs : Whole s states 0 → 0 < num_at s 0 5 → Reached inputs 5
  unfolding read_header
  to-inputs w some = rw (read_here s 5 0 w, ne_eqb (num_at s 0 5) 0 (λ e. omega arith)) refl

  to-destination : (i at : ℕ) → Reached (source i) at → Whole s (source i) at → num_at s at 5 < n_of s → Reached (destination i) (at + 5)
  unfolding transition_at
  to-destination i at t w l = (num_at s at 5, within_on i t (rw (read_here s 5 at w, lt-ltb (num_at s at 5) (n_of s) l) refl))

  to-priority : (i at : ℕ) → Reached (destination i) at → Whole s (destination i) at → num_at s at 5 < n_of s → Reached (priority i) (at + 5)
  to-priority i at t w l = (t.0, num_at s at 5, within_on i t.1 (rw (read_here s 5 at w, lt-ltb (num_at s at 5) (n_of s) l) refl))

  to-wait : (i at : ℕ) → Reached (priority i) at → Whole s (priority i) at → Reached (wait i) (at + 7)
  to-wait i at t w = (t.0, t.1, num_at s at 7, within_on i t.2 (rw (read_here s 7 at w) refl))

  to-condition : (i at : ℕ) → Reached (wait i) at → Whole s (wait i) at → Reached (tag i 0 1) (at + 24)
  to-condition i at t w = (omega arith, λ why e. within-passes i _ t.3 why (rw (read_here s 24 at w, e) refl))

  -- a transition whose condition was read
  transition-more : (i at : ℕ) → Reached (wait i) at → Whole s (wait i) at → (c : Counted) (next : ℕ) → condition_at s (k_of s) (at + 24) ≡ ok c next
      → Before (i + 1) next
  transition-more i at t w c next e =
      let one : from-wait t.0 t.1 t.2 at
      ≡ ok (record { source = t.0; destination = t.1; priority = t.2; wait = num_at s at 24; condition = c.tree }) next =
      rw (read_here s 24 at w, e) refl in
      within_more i _ t.3 one

  -- a node whose tag is wholly there and judged well
  module _ (seen depth at : ℕ) (w : at + 2 ≤ length s * 8) (few : seen < 31) (deep : depth < 9) where
    node-is : cond_at (9 - depth) s (k_of s) seen at
        ≡ node_at false (eqb (num_at s at 2) 0) (cond_at (8 - depth) s (k_of s)) s (k_of s) (num_at s at 2) seen at (at + 2)
    unfolding cond_at
    node-is =
        let levels : 9 - depth ≡ suc (8 - depth) = omega arith in
        rw (levels, read_here s 2 at w, lt-leb 31 seen few) refl

    input-is : num_at s at 2 ≡ 0 → cond_at (9 - depth) s (k_of s) seen at ≡ input_at s (k_of s) seen (at + 2)
    input-is e = rw (node-is, e) refl

    operands-are : 1 ≤ num_at s at 2
        → cond_at (9 - depth) s (k_of s) seen at ≡ operands_at (cond_at (8 - depth) s (k_of s)) (num_at s at 2) (seen + 1) (at + 2)
    operands-are some = rw (node-is, ne_eqb (num_at s at 2) 0 (λ e. omega arith)) refl

    first-bad : (why : Refusal) → 1 ≤ num_at s at 2 → cond_at (9 - (depth + 1)) s (k_of s) (seen + 1) (at + 2) ≡ no why
        → cond_at (9 - depth) s (k_of s) seen at ≡ no why
    unfolding operands_at
    first-bad why some e =
        let levels : 9 - (depth + 1) ≡ 8 - depth = omega arith in
        let it : cond_at (8 - depth) s (k_of s) (seen + 1) (at + 2) ≡ no why = rw levels at e in
        rw (operands-are some, it) refl

    second-bad : (why : Refusal) → 2 ≤ num_at s at 2 → (first : Counted) (next : ℕ) → cond_at (8 - depth) s (k_of s) (seen + 1) (at + 2) ≡ ok first next
        → cond_at (9 - (depth + 1)) s (k_of s) first.count next ≡ no why → cond_at (9 - depth) s (k_of s) seen at ≡ no why
    unfolding operands_at
    second-bad why two first next f e =
        let levels : 9 - (depth + 1) ≡ 8 - depth = omega arith in
        let it : cond_at (8 - depth) s (k_of s) first.count next ≡ no why = rw levels at e in
        rw (operands-are (omega arith), f, ne_eqb (num_at s at 2) 1 (λ e. omega arith), it) refl

  -- where a field begins, reading comes to it
  reached : (f : Field) (at : ℕ) → Begins s f at → Reached f at
  unfolding upto
  reached f at at_states = refl
  reached f at (at_inputs w some) = to-inputs w some
  reached f at (at_outputs b w) = reached inputs 5 b ∙ rw (read_here s 4 5 w) refl
  reached f at (at_transitions b w) = reached outputs 9 b ∙ rw (read_here s 4 9 w) refl
  reached f at (first_row b w) =
      (record { header = reached transitions 13 b ∙ rw (read_here s 7 13 w) refl; rows = []; read = refl }, omega arith)
  reached f at (next_row {i} {at = a} b w l) = (row_more i a (reached (row i) a b).0 w, l)
  reached f at (first_source {i} {at = a} b w e) =
      let r : Rows (n_of s) (a + l_of s) = rw e at (row_more i a (reached (row i) a b).0 w) in
      start-source 0 (a + l_of s) (record { behind = a + l_of s; above = r; lines = []; read = refl }) (omega arith)
  reached f at (at_destination {i} {at = a} b w l) = to-destination i a (reached (source i) a b) w l
  reached f at (at_priority {i} {at = a} b w l) = to-priority i a (reached (destination i) a b) w l
  reached f at (at_wait {i} {at = a} b w) = to-wait i a (reached (priority i) a b) w
  reached f at (at_condition {i} {at = a} b w) = to-condition i a (reached (wait i) a b) w
  reached f at (at_input {i} {seen} {depth} {at = a} b w few deep e) =
      (seen, λ why q. (reached (tag i seen depth) a b).1 why (input-is seen depth a w few deep e ∙ q))
  reached f at (at_operand {i} {seen} {depth} {at = a} b w few deep some) =
      (omega arith, λ why q. (reached (tag i seen depth) a b).1 why (first-bad seen depth a w few deep why some q))
  reached f at (at_second {i} {seen} {depth} {at = a} b w few deep two first {next} e) =
      (omega arith, λ why q. (reached (tag i seen depth) a b).1 why (second-bad seen depth a w few deep why two first next e q))
  reached f at (next_source {i} {at = a} b w c {next} e l) = start-source (i + 1) next (transition-more i a (reached (wait i) a b) w c next e) l
  reached f at (at_rest {i} {at = a} b w c {next} e l) =
      (rw l at (transition-more i a (reached (wait i) a b) w c next e), (cond-went 8 s (k_of s) 0 (a + 24) c next e).inside)

  -- 1: the field isn't wholly there
  short : (f : Field) (at : ℕ) → Reached f at → length s * 8 < at + width s f → read_sheet s ≡ no (refuse.Short at)
  unfolding read_header transition_at cond_at input_at
  short states at r l =
      let e : read_field s 5 0 ≡ no (refuse.Short 0) = read_short s 5 0 (omega arith) in
      rw r (header-passes (refuse.Short 0) (rw e refl))
  short inputs at r l = header-passes (refuse.Short at) (r ∙ rw (read_short s 4 at l) refl)
  short outputs at r l = header-passes (refuse.Short at) (r ∙ rw (read_short s 4 at l) refl)
  short transitions at r l = header-passes (refuse.Short at) (r ∙ rw (read_short s 7 at l) refl)
  short (row i) at r l = row-passes i at r.0 r.1 (refuse.Short at) (read_short s (l_of s) at l)
  short (source i) at r l = within-passes i _ r (refuse.Short at) (rw (read_short s 5 at l) refl)
  short (destination i) at r l = within-passes i _ r.1 (refuse.Short at) (rw (read_short s 5 at l) refl)
  short (priority i) at r l = within-passes i _ r.2 (refuse.Short at) (rw (read_short s 7 at l) refl)
  short (wait i) at r l = within-passes i _ r.3 (refuse.Short at) (rw (read_short s 24 at l) refl)
  short (tag i seen depth) at r l = r.1 (refuse.Short at) (go (9 - depth))
    where
      go : (room : ℕ) → cond_at room s (k_of s) seen at ≡ no (refuse.Short at)
      go zero = rw (read_short s 2 at l) refl
      go (suc room) = rw (read_short s 2 at l) refl
  short (input i) at r l = r.1 (refuse.Short at) (rw (read_short s 4 at l) refl)
  short rest at r l = absurd (omega (arith, r.1))

  -- 2: the states field is 0
  one_state : Whole s states 0 → num_at s 0 5 ≡ 0 → read_sheet s ≡ no refuse.OneState
  unfolding read_header
  one_state w e = header-passes refuse.OneState (rw (read_here s 5 0 w, e) refl)

  -- 3: a state n or above
  state_no : (i at : ℕ) → Reached (source i) at ⊎ Reached (destination i) at → at + 5 ≤ length s * 8 → n_of s ≤ num_at s at 5
      → read_sheet s ≡ no (refuse.StateNo at)
  unfolding transition_at
  state_no i at (inl r) w h = within-passes i _ r (refuse.StateNo at) (rw (read_here s 5 at w, le-ltb (num_at s at 5) (n_of s) h) refl)
  state_no i at (inr r) w h = within-passes i _ r.1 (refuse.StateNo at) (rw (read_here s 5 at w, le-ltb (num_at s at 5) (n_of s) h) refl)

  -- 4: an input k or above
  input_no : (i at : ℕ) → Reached (input i) at → Whole s (input i) at → k_of s ≤ num_at s at 4 → read_sheet s ≡ no (refuse.InputNo at)
  unfolding input_at
  input_no i at r w h = r.1 (refuse.InputNo at) (rw (read_here s 4 at w, le-ltb (num_at s at 4) (k_of s) h) refl)

  -- 5: a 32nd node, or a node at depth 9
  big : (i seen depth at : ℕ) → Reached (tag i seen depth) at → Whole s (tag i seen depth) at → (31 ≤ seen) ⊎ (depth ≡ 9) → read_sheet s ≡ no (refuse.Big at)
  unfolding cond_at
  big i seen depth at r w (inl h) = r.1 (refuse.Big at) (go (9 - depth))
    where
      go : (room : ℕ) → cond_at room s (k_of s) seen at ≡ no (refuse.Big at)
      go zero = rw (read_here s 2 at w) refl
      go (suc room) = rw (read_here s 2 at w, le-leb 31 seen h) refl
  big i seen depth at r w (inr e) =
      let levels : 9 - depth ≡ 0 = omega arith in
      r.1 (refuse.Big at) (rw (levels, read_here s 2 at w) refl)

  -- 6: a spare bit is 1, or a further byte follows
  not_end : (at : ℕ) → (length s ≡ (at + 7) / 8 → ⊥) ⊎ (num_at s at ((at + 7) / 8 * 8 - at) ≡ 0 → ⊥) → ends_at s at ≡ false
  unfolding ends_at
  not_end at (inl h) = rw (ne_eqb (length s) ((at + 7) / 8) h) refl
  not_end at (inr h) = rw (ne_eqb (num_at s at ((at + 7) / 8 * 8 - at)) 0 h) (go (eqb (length s) ((at + 7) / 8)))
    where
      go : (t : Bool) → t && false ≡ false
      go true = refl
      go false = refl

  tail : (at : ℕ) → Reached rest at → ends_at s at ≡ false → read_sheet s ≡ no (refuse.Tail at)
  unfolding read_sheet
  tail at r e = let b = r.0 in rw (b.above.header, b.above.read, b.read, e) refl

  -- what is unread is refused so
  -- a field that a number names was reached
  named : (i at : ℕ) → Begins s (source i) at ⊎ Begins s (destination i) at → Reached (source i) at ⊎ Reached (destination i) at
  named i at (inl b) = inl (reached (source i) at b)
  named i at (inr b) = inr (reached (destination i) at b)

  -- what is refused in reading where this number is said of this place
  refused : (n p : ℕ) → Unread s n p → (why : Refusal) × (read_sheet s ≡ no why) × (number why ≡ n) × (place why ≡ p)
  refused n p (says.short e f b l) = (refuse.Short p, short f p (reached f p b) l, sym e, refl)
  refused n p (says.one_state e z w h) = (refuse.OneState, one_state w h, sym e, sym z)
  refused n p (says.state_no e i b w h) = (refuse.StateNo p, state_no i p (named i p b) w h, sym e, refl)
  refused n p (says.input_no e i b w h) = (refuse.InputNo p, input_no i p (reached (input i) p b) w h, sym e, refl)
  refused n p (says.big e i seen depth b w h) =
      (refuse.Big p, big i seen depth p (reached (tag i seen depth) p b) w h, sym e, refl)
  refused n p (says.tail e b h) = (refuse.Tail p, tail p (reached rest p b) (not_end p h), sym e, refl)

  pub exactly : (n p : ℕ) → Unread s n p → Numbered (check_sheet s) n p
  unfolding check_sheet
  exactly n p u = let r = refused n p u in rw r.1 (r.2, r.3)
