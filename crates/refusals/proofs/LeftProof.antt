-- What a refusal leaves: each call by the sheet's answer.
use Rattle.std.specs.Prelude.{Ok, Err}
use mathlib.Core.Path.{◌≡◌, refl, sym, ap, ◌∙◌}
use mathlib.Core.Logic.{◌⊎◌, inl, inr, ⊎_elim}
use mathlib.Core.Bool.{Bool, true, false, cond}
use mathlib.Core.List.{List, ◌++◌}
use Prim.Native.Nat.{ℕ, ◌+◌, ◌≤◌}
use native.Mathlib.Nat.{zero-add}
use native.Mathlib.Omega.{arith}
use borrow.Author.Tests.{leb-true}
use lib.Dec.{leb, ltb}
use lib.ListN.{length, drop}
use lib.Seq.{sets-eq}
use Rattle.answer.specs.declared.Refusal.{Refusal}
use Rattle.answer.specs.Number.{number, place}
use Rattle.answer.specs.declared.Refusal.TheVariants.{Room, NoState}
use Rattle.answer.specs.Checked.{Checked}
use Rattle.bits.specs.Read.{Ans, ok, no}
use Rattle.reader.specs.Sheet.{Sheet}
use Rattle.reader.specs.Reading.{read_sheet}
use Rattle.sheet.specs.Judging.{judge, check_sheet, judged_or, read_or, with_sheet}
use Rattle.scan.specs.declared.State.{State}
use Rattle.scan.specs.Scan.{accepted, refused, scan_of, cold_of, scan_sheet, cold_scan, zeros, Scanned}
use Rattle.machine.specs.declared.Record.{Record}
use Rattle.faults.specs.Check.{check_code}
use Rattle.machine.specs.Run.{record_with, ran_by, run_code}
use Rattle.translate.specs.Writing.{Written, code_of, unwritten, written_with, translate_into, cold_record, no_record, cold_run, Cold}
use Rattle.refusals.specs.Left.{Left}
use Rattle.answer.proofs.CheckedLaws.{accepted-refused, refused-is}

-- A call goes on with an accepted sheet, or refuses with the check's refusal.
data Called {B : Type 0} (s : List ℕ) (refuse : Refusal → B) (go : Sheet → B) (b : B) : Type 0 where
  went : (a : Sheet) (end : ℕ) → read_sheet s ≡ ok a end → check_sheet s ≡ Ok tt → b ≡ go a → Called s refuse go b
  not_gone : (why : Refusal) → check_sheet s ≡ Err why → b ≡ refuse why → Called s refuse go b

called : {B : Type 0} (s : List ℕ) (refuse : Refusal → B) (go : Sheet → B) → Called s refuse go (with_sheet s refuse go)
unfolding with_sheet check_sheet
called {B} s refuse go = by (read_sheet s) refl
  where
    on : (a : Sheet) (end : ℕ) (c : Checked) → read_sheet s ≡ ok a end → judge a ≡ c → Called s refuse go (judged_or c refuse (go a))
    on a end (Ok tt) e j = went a end e (rw e j) refl
    on a end (Err why) e j = not_gone why (rw e j) refl

    by : (r : Ans Sheet) → read_sheet s ≡ r → Called s refuse go (read_or r refuse go)
    by (ok a end) e = on a end (judge a) e refl
    by (no why) e = not_gone why (rw e refl) refl

-- what a call answers
module _ {B : Type 0} (verdict : B → Checked) (s : List ℕ) (refuse : Refusal → B) (go : Sheet → B)
    (refuses : (why : Refusal) → verdict (refuse why) ≡ Err why) where
  -- where the check refuses, so does it
  sheet-refused : (why : Refusal) → check_sheet s ≡ Err why → verdict (with_sheet s refuse go) ≡ Err why
  sheet-refused why c = by (called s refuse go)
    where
      by : Called s refuse go (with_sheet s refuse go) → verdict (with_sheet s refuse go) ≡ Err why
      by (went a end r acc e) = absurd (accepted-refused acc c)
      by (not_gone q d e) = ap verdict e ∙ refuses q ∙ sym d ∙ c

  -- if it refuses no accepted sheet, it answers as the check does
  same-verdict : ((a : Sheet) → verdict (go a) ≡ Ok tt) → verdict (with_sheet s refuse go) ≡ check_sheet s
  same-verdict goes = by (called s refuse go)
    where
      by : Called s refuse go (with_sheet s refuse go) → verdict (with_sheet s refuse go) ≡ check_sheet s
      by (went a end r acc e) = ap verdict e ∙ goes a ∙ sym acc
      by (not_gone q d e) = ap verdict e ∙ refuses q ∙ sym d

  -- a refusal is that of the sheet or that of what is done with it
  whose : (why : Refusal) → verdict (with_sheet s refuse go) ≡ Err why → (check_sheet s ≡ Err why) ⊎ ((a : Sheet) × (verdict (go a) ≡ Err why))
  whose why v = by (called s refuse go)
    where
      by : Called s refuse go (with_sheet s refuse go) → (check_sheet s ≡ Err why) ⊎ ((a : Sheet) × (verdict (go a) ≡ Err why))
      by (went a end r acc e) = inr (a, sym (ap verdict e) ∙ v)
      by (not_gone q d e) = inl (d ∙ sym (refuses q) ∙ sym (ap verdict e) ∙ v)

  -- what a refusal leaves
  rest-is : {R : Type 0} (rest : B → R) (x : R) → ((why : Refusal) → rest (refuse why) ≡ x) → ((a : Sheet) (why : Refusal) → verdict (go a) ≡ Err why → rest (go a) ≡ x)
      → (why : Refusal) → verdict (with_sheet s refuse go) ≡ Err why → rest (with_sheet s refuse go) ≡ x
  rest-is rest x left gone why v = by (called s refuse go)
    where
      by : Called s refuse go (with_sheet s refuse go) → rest (with_sheet s refuse go) ≡ x
      by (went a end r acc e) = ap rest e ∙ gone a why (sym (ap verdict e) ∙ v)
      by (not_gone q d e) = ap rest e ∙ left q

-- what is done with an accepted sheet, and its refusals
abbrev scanned : State → ℕ → ℕ → Sheet → Scanned
scanned q word elapsed a = cond (ltb q.state a.states) (accepted (scan_of a q word elapsed)) (refused q (NoState q.state))

abbrev wrote : List ℕ → Sheet → Written
wrote buffer a = cond (leb (length (code_of a)) (length buffer)) (written_with buffer (code_of a)) (unwritten buffer (Room (length (code_of a))))

scan-left : (q : State) (word elapsed : ℕ) (a : Sheet) (why : Refusal) → (scanned q word elapsed a).verdict ≡ Err why
    → ((scanned q word elapsed a).«record» ≡ q) × (why ≡ NoState q.state)
scan-left q word elapsed a why = go (ltb q.state a.states)
  where
    go : (b : Bool) → (cond b (accepted (scan_of a q word elapsed)) (refused q (NoState q.state))).verdict ≡ Err why
        → ((cond b (accepted (scan_of a q word elapsed)) (refused q (NoState q.state))).«record» ≡ q) × (why ≡ NoState q.state)
    go true e = absurd (accepted-refused refl e)
    go false e = (refl, sym (refused-is e))

room-left : (buffer : List ℕ) (a : Sheet) (why : Refusal) → (wrote buffer a).answer.verdict ≡ Err why
    → (wrote buffer a ≡ unwritten buffer why) × (why ≡ Room (length (code_of a)))
room-left buffer a why = go (leb (length (code_of a)) (length buffer))
  where
    go : (b : Bool) → (cond b (written_with buffer (code_of a)) (unwritten buffer (Room (length (code_of a))))).answer.verdict ≡ Err why
        → (cond b (written_with buffer (code_of a)) (unwritten buffer (Room (length (code_of a)))) ≡ unwritten buffer why) × (why ≡ Room (length (code_of a)))
    go true e = absurd (accepted-refused refl e)
    go false e = let same : Room (length (code_of a)) ≡ why = refused-is e in (ap (unwritten buffer) same, sym same)

room-written : (buffer : List ℕ) (a : Sheet) → (wrote buffer a).answer.verdict ≡ Ok tt
    → ((wrote buffer a).buffer ≡ code_of a ++ drop (length (code_of a)) buffer) × ((wrote buffer a).answer.length ≡ length (code_of a))
room-written buffer a = go (leb (length (code_of a)) (length buffer)) refl
  where
    go : (b : Bool) → leb (length (code_of a)) (length buffer) ≡ b
        → (cond b (written_with buffer (code_of a)) (unwritten buffer (Room (length (code_of a))))).answer.verdict ≡ Ok tt
        → ((cond b (written_with buffer (code_of a)) (unwritten buffer (Room (length (code_of a))))).buffer ≡ code_of a ++ drop (length (code_of a)) buffer)
        × ((cond b (written_with buffer (code_of a)) (unwritten buffer (Room (length (code_of a))))).answer.length ≡ length (code_of a))
    go true f e =
        let room : 0 + length (code_of a) ≤ length buffer = omega (arith, leb-true (length (code_of a)) (length buffer) f) in
        (sets-eq (code_of a) buffer 0 room ∙ ap (λ n. code_of a ++ drop n buffer) (zero-add (length (code_of a))), refl)
    go false f e = absurd (accepted-refused e refl)

-- code is refused by the check alone
run-left : (c : Checked) (code : List ℕ) (r : Record) (word elapsed : ℕ) → (ran_by c code r word elapsed).verdict ≡ c
run-left (Ok tt) code r word elapsed = refl
run-left (Err why) code r word elapsed = refl

run-back : (c : Checked) (code : List ℕ) (r : Record) (word elapsed : ℕ) (why : Refusal) → (ran_by c code r word elapsed).verdict ≡ Err why
    → (ran_by c code r word elapsed).«record» ≡ r
run-back (Ok tt) code r word elapsed why e = absurd (accepted-refused refl e)
run-back (Err q) code r word elapsed why e = refl

-- an accepted translation
written_is : (s buffer : List ℕ) → (translate_into s buffer).answer.verdict ≡ Ok tt
    → (a : Sheet) × (end : ℕ) × (read_sheet s ≡ ok a end)
    × ((translate_into s buffer).buffer ≡ code_of a ++ drop (length (code_of a)) buffer)
    × ((translate_into s buffer).answer.length ≡ length (code_of a))
unfolding translate_into
written_is s buffer v = by (called s (unwritten buffer) (wrote buffer))
  where
    by : Called s (unwritten buffer) (wrote buffer) (with_sheet s (unwritten buffer) (wrote buffer))
        → (a : Sheet) × (end : ℕ) × (read_sheet s ≡ ok a end)
        × ((with_sheet s (unwritten buffer) (wrote buffer)).buffer ≡ code_of a ++ drop (length (code_of a)) buffer)
        × ((with_sheet s (unwritten buffer) (wrote buffer)).answer.length ≡ length (code_of a))
    by (went a end r acc e) =
        let h = room-written buffer a (sym (ap (λ (w : Written). w.answer.verdict) e) ∙ v) in
        (a, end, r, ap (λ (w : Written). w.buffer) e ∙ h.0, ap (λ (w : Written). w.answer.length) e ∙ h.1)
    by (not_gone why c e) = absurd (accepted-refused v (ap (λ (w : Written). w.answer.verdict) e))

-- the calls' verdicts
abbrev of-scan : Scanned → Checked
of-scan v = v.verdict

abbrev of-cold : Cold → Checked
of-cold v = v.verdict

abbrev of-written : Written → Checked
of-written w = w.answer.verdict

abbrev cold-of : Sheet → Cold
cold-of a = record { verdict = Ok tt; «record» = cold_record a }

pub left : Left
unfolding scan_sheet cold_scan translate_into cold_run run_code
left = record {
  scan = λ s q word elapsed.
      rest-is of-scan s (refused q) (scanned q word elapsed) (λ why. refl) (λ (v : Scanned). v.«record») q (λ why. refl)
      (λ a why e. (scan-left q word elapsed a why e).0);
  run = λ code r word elapsed. run-back (check_code code) code r word elapsed;
  unwritten = λ s buffer why e. (
    rest-is of-written s (unwritten buffer) (wrote buffer) (λ why. refl) (λ (w : Written). w.buffer) buffer (λ why. refl)
        (λ a q f. ap (λ (w : Written). w.buffer) (room-left buffer a q f).0) why e,
    rest-is of-written s (unwritten buffer) (wrote buffer) (λ why. refl) (λ (w : Written). w.answer.length) 0 (λ why. refl)
        (λ a q f. ap (λ (w : Written). w.answer.length) (room-left buffer a q f).0) why e,
  );
  written = written_is;
  for_cold_scan = λ s.
      rest-is of-scan s (refused zeros) (λ a. accepted (cold_of a)) (λ why. refl) (λ (v : Scanned). v.«record») zeros (λ why. refl)
      (λ a why e. absurd (accepted-refused refl e));
  for_cold_run = λ s.
      rest-is of-cold s no_record cold-of (λ why. refl) (λ (v : Cold). v.«record») (record_with 0 0 0) (λ why. refl)
      (λ a why e. absurd (accepted-refused refl e));
  sheet_cold_scan = λ s. same-verdict of-scan s (refused zeros) (λ a. accepted (cold_of a)) (λ why. refl) (λ a. refl);
  sheet_cold_run = λ s. same-verdict of-cold s no_record cold-of (λ why. refl) (λ a. refl);
  sheet_scan = λ s q word elapsed why. (
    sheet-refused of-scan s (refused q) (scanned q word elapsed) (λ why. refl) why,
    λ e. ⊎_elim (λ c. inl c) (λ h. let e = (scan-left q word elapsed h.0 why h.1).1 in inr (ap number e, ap place e))
        (whose of-scan s (refused q) (scanned q word elapsed) (λ why. refl) why e),
  );
  sheet_translate = λ s buffer why. (
    sheet-refused of-written s (unwritten buffer) (wrote buffer) (λ why. refl) why,
    λ e. ⊎_elim (λ c. inl c) (λ h. inr (ap number (room-left buffer h.0 why h.1).1))
        (whose of-written s (unwritten buffer) (wrote buffer) (λ why. refl) why e),
  );
  code_run = λ code r word elapsed. run-left (check_code code) code r word elapsed;
}
