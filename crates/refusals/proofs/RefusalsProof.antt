-- What each number means: the parts put together.
use Rattle.std.specs.Prelude.{Ok, Err}
use mathlib.Core.Path.{◌≡◌, refl, sym, ap, ◌∙◌}
use mathlib.Core.Bool.{Bool, true, false, cond}
use mathlib.Core.List.{List}
use Prim.Native.Nat.{ℕ, ◌≤◌, ◌<◌}
use native.Mathlib.Omega.{arith}
use borrow.Author.Tests.{leb-false, ltb-false, lt-leb, le-ltb}
use lib.Dec.{leb, ltb}
use lib.ListN.{length}
use Rattle.answer.specs.declared.Refusal.{Refusal}
use Rattle.answer.specs.declared.Refusal.TheVariants as refuse
use Rattle.answer.specs.Checked.{Checked}
use Rattle.answer.specs.Number.{number, place, number_of, place_of}
use Rattle.bits.specs.Read.{Ans, ok, no}
use Rattle.reader.specs.Sheet.{Sheet}
use Rattle.reader.specs.Reading.{read_sheet}
use Rattle.sheet.specs.Judging.{judge, judge_read, check_sheet, judged_or, read_or, with_sheet}
use Rattle.scan.specs.declared.State.{State}
use Rattle.scan.specs.Scan.{accepted, refused, scan_of, scan_sheet, Scanned}
use Rattle.translate.specs.Writing.{Written, code_of, unwritten, written_with, translate_into}
use Rattle.refusals.specs.Refusals as says
use Rattle.refusals.specs.Refusals.{Lowest, SheetFault, Unread, Refusals}
use Rattle.answer.proofs.CheckedLaws.{accepted-refused, refused-is}
use Rattle.same.proofs.AcceptedLaws.{with-sheet, translate-is}
use Rattle.refusals.proofs.NumberLaws.{refusal_of, answer-is}
use Rattle.refusals.proofs.JudgeProof.{to-13, judge-lowest}
use Rattle.refusals.proofs.CodeFaultProof.{code-lowest}
use Rattle.refusals.proofs.ReadProof.{unread}
use Rattle.refusals.proofs.ExactlyProof.{exactly}

-- reading gives 1 to 6
unread-number : (s : List ℕ) (n p : ℕ) → Unread s n p → n ≤ 6
unread-number s n p (says.short e f b l) = omega arith
unread-number s n p (says.one_state e z w h) = omega arith
unread-number s n p (says.state_no e i b w h) = omega arith
unread-number s n p (says.input_no e i b w h) = omega arith
unread-number s n p (says.big e i seen depth b w h) = omega arith
unread-number s n p (says.tail e b h) = omega arith

-- the check of sheets gives none above 13
judge-number : (a : Sheet) (why : Refusal) → judge a ≡ Err why → 14 ≤ number why → ⊥
judge-number a why e h = go (judge a) e (judge-lowest a)
  where
    go : (c : Checked) → c ≡ Err why → Lowest (SheetFault a) c → ⊥
    go (Ok tt) e l = accepted-refused refl e
    go (Err r) e l = let same : r ≡ why = refused-is e in to-13 a _ _ (rw same h) l.0

-- where a public function refuses with a number above 13, the sheet is accepted and what is done with it refuses
high : {B : Type 0} (verdict : B → Checked) (s : List ℕ) (refuse : Refusal → B) (go : Sheet → B) (why : Refusal)
    → ((r : Refusal) → verdict (refuse r) ≡ Err r) → 14 ≤ number why → verdict (with_sheet s refuse go) ≡ Err why
    → (a : Sheet) × (end : ℕ) × (read_sheet s ≡ ok a end) × (check_sheet s ≡ Ok tt) × (verdict (go a) ≡ Err why)
unfolding with_sheet check_sheet
high verdict s refuse go why refuses h e = by (read_sheet s) refl e
  where
    judged : (a : Sheet) (end : ℕ) (c : Checked) → judge a ≡ c → read_sheet s ≡ ok a end → verdict (judged_or c refuse (go a)) ≡ Err why
        → (a : Sheet) × (end : ℕ) × (read_sheet s ≡ ok a end) × (judge_read (read_sheet s) ≡ Ok tt) × (verdict (go a) ≡ Err why)
    judged a end (Ok tt) j r e = (a, end, r, rw r j, e)
    judged a end (Err q) j r e =
        let same : q ≡ why = refused-is (sym (refuses q) ∙ e) in
        absurd (judge-number a why (j ∙ ap Err same) h)

    by : (x : Ans Sheet) → read_sheet s ≡ x → verdict (read_or x refuse go) ≡ Err why
        → (a : Sheet) × (end : ℕ) × (read_sheet s ≡ ok a end) × (judge_read (read_sheet s) ≡ Ok tt) × (verdict (go a) ≡ Err why)
    by (ok a end) r e = judged a end (judge a) refl r e
    by (no q) r e =
        let same : q ≡ why = refused-is (sym (refuses q) ∙ e) in
        absurd (let low : number q ≤ 6 = unread-number s (number q) (place q) (unread s q r) in omega (arith, ap number same))

pub refusals : Refusals
unfolding check_sheet translate_into scan_sheet refusal_of
refusals = record {
  unread = λ s why e. (unread s why e, rw e refl);
  exactly = exactly;
  read = λ s a end e. rw e (judge-lowest a);
  code = code-lowest;
  room = λ s buffer bytes. (
    λ n.
        let e : (translate_into s buffer).answer.verdict ≡ Err (refuse.Room bytes) = answer-is _ 14 bytes (omega arith) n.0 n.1 in
        let h = high (λ (w : Written). w.answer.verdict) s (unwritten buffer) _ (refuse.Room bytes) (λ r. refl) (omega arith) e in
        let r = room_of buffer h.0 bytes (leb (length (code_of h.0)) (length buffer)) refl h.4 in
        (h.0, h.1, h.2, h.3, r.0, r.1),
    λ h.
        let e : (translate_into s buffer).answer.verdict ≡ Err (refuse.Room bytes) =
        ap (λ (w : Written). w.answer.verdict) (translate-is s h.0 h.1 h.2 h.3 buffer)
        ∙ rw (lt-leb (length (code_of h.0)) (length buffer) (omega (arith, h.4, h.5)), h.5) refl in
        (ap number_of e, ap place_of e),
  );
  no_state = λ s q word elapsed state. (
    λ n.
        let e : (scan_sheet s q word elapsed).verdict ≡ Err (refuse.NoState state) = answer-is _ 18 state (omega arith) n.0 n.1 in
        let h = high (λ (v : Scanned). v.verdict) s (refused q) _ (refuse.NoState state) (λ r. refl) (omega arith) e in
        let r = state-of h.0 q word elapsed state (ltb q.state h.0.states) refl h.4 in
        (h.0, h.1, h.2, h.3, r.0, r.1),
    λ h.
        let e : (scan_sheet s q word elapsed).verdict ≡ Err (refuse.NoState state) =
        ap (λ (v : Scanned). v.verdict) (with-sheet s h.0 h.1 h.2 h.3 (refused q) _)
        ∙ rw (le-ltb q.state h.0.states (omega (arith, h.4, h.5)), h.5) refl in
        (ap number_of e, ap place_of e),
  );
}
  where
    room_of : (buffer : List ℕ) (a : Sheet) (bytes : ℕ) (b : Bool) → leb (length (code_of a)) (length buffer) ≡ b
        → (cond b (written_with buffer (code_of a)) (unwritten buffer (refuse.Room (length (code_of a))))).answer.verdict ≡ Err (refuse.Room bytes)
        → (length buffer < bytes) × (bytes ≡ length (code_of a))
    room_of buffer a bytes true f e = absurd (accepted-refused refl e)
    room_of buffer a bytes false f e =
        let same : length (code_of a) ≡ bytes = cc in
        (omega (arith, leb-false (length (code_of a)) (length buffer) f), sym same)

    state-of : (a : Sheet) (q : State) (word elapsed state : ℕ) (b : Bool) → ltb q.state a.states ≡ b
        → (cond b (accepted (scan_of a q word elapsed)) (refused q (refuse.NoState q.state))).verdict ≡ Err (refuse.NoState state)
        → (a.states ≤ state) × (state ≡ q.state)
    state-of a q word elapsed state true f e = absurd (accepted-refused refl e)
    state-of a q word elapsed state false f e =
        let same : q.state ≡ state = cc in
        (omega (arith, ltb-false q.state a.states f), sym same)
