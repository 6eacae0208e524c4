-- Worthless programs fail: each at a sheet, a buffer and a scan.
use Rattle.std.specs.Prelude.{Ok, Err}
use mathlib.Core.Path.{◌≡◌, refl, sym, ap, ◌∙◌}
use mathlib.Core.Bool.{true, ◌||◌, or-true}
use mathlib.Core.List.{List, [], ◌∷◌}
use Prim.Native.Nat.{ℕ, zero, suc, ◌*◌, ◌^◌, ◌-◌, ◌%◌, ◌≤◌}
use native.Mathlib.Omega.{arith}
use lib.Dec.{eqb, ltb}
use lib.ListN.{length, get_or, take, replicate, length-replicate, get_or-replicate}
use Rattle.answer.specs.declared.Refusal.TheVariants.{Short, CodeEnd}
use Rattle.answer.specs.Lowest.{any_below, first_below}
use Rattle.bits.specs.Field.{field_at, num_at, bit_at}
use Rattle.bits.specs.Read.{ok, upto}
use Rattle.bits.specs.Word.{get_bit, word_of, bits_of}
use Rattle.condition.specs.Cond.{eval, is_on, is_off, is_gated, word_count}
use Rattle.condition.specs.Reading.{cond_at, operands_at, input_at}
use Rattle.reader.specs.Sheet.{Sheet}
use Rattle.reader.specs.Reading.{read_header, row_at, transition_at, ends_at, read_sheet}
use Rattle.sheet.specs.Judging.{clashes, lacks_home, judge, check_sheet, with_sheet}
use Rattle.sheet.specs.Table.{sheet_m}
use Rattle.scan.specs.Scan.{can, best, outputs_of, after, scan_of, cold_of, scan_sheet, cold_scan, Scanned}
use Rattle.machine.specs.declared.Record.{Record}
use Rattle.words.specs.Word.{END, code_no, operand, word_no, known, decode, bytes_of, to_bytes, words}
use Rattle.machine.specs.Machine.{exec, run_scan}
use Rattle.faults.specs.Check.{end_fault, opens, faulty, unknown, first_fault, depth_at, lands_open, first_landing, check_code}
use Rattle.machine.specs.Run.{run_code}
use Rattle.words.specs.Worked.{bytes, code11}
use Rattle.translate.specs.Writing.{Written, code_of, translate_into, cold_record, cold_run}
use Rattle.promises.specs.Length.{words_of}
use Rattle.same.specs.Histories.{Tick, Runner, ref_after, run_after, since_change, Follows}
use Rattle.promises.specs.Demand3.{Translator, code_in, Demand3}
use Rattle.promises.specs.Table.{two_contact, two_rows, two_arcs, two_sheet, brings, flag, state}
use Rattle.promises.specs.Worthless.{WritesEnd, WritesNothing, HandsBack, RightAtFirst, Worthless}
use Rattle.translate.proofs.SingleProof.{translates-is}
use Rattle.answer.proofs.CheckedLaws.{accepted-refused}
use Rattle.promises.proofs.Breaking.{demanded}
use Rattle.promises.proofs.TableProof.{two_read, two_accepted, two-words, two-checked, two-scan, cold-state, cold-flag, table}

-- the checkers
no_bytes : check_sheet [] ≡ Err (Short 0)
unfolding check_sheet read_sheet read_header field_at
no_bytes = refl

no_code : check_code [] ≡ Err CodeEnd
unfolding check_code end_fault
no_code = refl

-- M, with room for its code, and what the translator leaves
abbrev M : List ℕ
M = sheet_m 0x08 0x20 0x80

abbrev room : List ℕ
room = replicate 64 0xFF

m-accepted : check_sheet M ≡ Ok tt
unfolding check_sheet sheet_m read_sheet read_header row_at upto transition_at ends_at judge clashes lacks_home any_below first_below cond_at operands_at input_at
    field_at num_at bit_at get_bit bits_of is_on is_off is_gated
m-accepted = refl

m-read : (a : Sheet) × (read_sheet M ≡ ok a 71) × (words_of a ≡ 16)
unfolding sheet_m words_of word_count read_sheet read_header row_at upto transition_at ends_at cond_at operands_at input_at field_at num_at bit_at get_bit bits_of
m-read = (_, refl, refl)

m-fits : 4 * words_of m-read.0 ≤ length room
m-fits = omega (arith, m-read.2)

m-code : code_in (translate_into M room) ≡ bytes code11
unfolding bytes code11 bytes_of
m-code = ap code_in table.p11

-- the first scan of P12, by the reference
two-moves : (ref_after two_contact (brings 1 0 0 10 ∷ [])).state ≡ 1
unfolding ref_after scan_of after best can eval get_bit outputs_of word_of two_sheet two_rows two_arcs
two-moves =
    ap (λ q. (scan_sheet two_contact q 1 10).«record».state) cold-state
    ∙ ap (λ (v : Scanned). v.«record».state) (two-scan (state 0 1 0) (omega arith) 1 10)

-- code that begins with END leaves the flags
idle_code : (code : List ℕ) → (run_code code (flag 1 1 0) 1 10).«record».flags ≡ 1 → (run_after run_code two_contact code (brings 1 0 0 10 ∷ [])).flags ≡ 1
unfolding run_after
idle_code code h = ap (λ r. (run_code code r 1 10).«record».flags) cold-flag ∙ h

end-idle : (run_code (to_bytes (END ∷ [])) (flag 1 1 0) 1 10).«record».flags ≡ 1
unfolding run_code check_code end_fault opens faulty unknown first_fault depth_at lands_open first_landing code_no operand word_no known decode bytes_of to_bytes words
    run_scan exec
end-idle = refl

-- bytes FF are no code, however many of them are taken
abbrev ff : ℕ → List ℕ
ff m = replicate m 0xFF

all-ff : (n m : ℕ) → (k : ℕ) × (take n (ff m) ≡ ff k)
all-ff zero m = (0, refl)
all-ff (suc n) zero = (0, refl)
all-ff (suc n) (suc m) = let h = all-ff n m in (suc h.0, ap (λ (l : List ℕ). 0xFF ∷ l) h.1)

ff-end : (n : ℕ) → end_fault (ff n) ≡ true
unfolding end_fault
ff-end zero = refl
ff-end (suc n) =
    let last : get_or (ff (suc n)) (length (ff (suc n)) - 4) 0 ≡ 0xFF =
    get_or-replicate (suc n) (length (ff (suc n)) - 4) 0xFF 0 (omega (arith, length-replicate {A = ℕ} n 0xFF)) in
    rw last (or-true (eqb (length (ff (suc n))) 0 || ltb 32768 (length (ff (suc n))) || ltb 0 (length (ff (suc n)) % 4)))

ff-refused : (n m : ℕ) → check_code (take n (ff m)) ≡ Ok tt → ⊥
unfolding check_code
ff-refused n m h = accepted-refused {r = CodeEnd} h (rw ((all-ff n m).1, ff-end (all-ff n m).0) refl)

-- demand 3 fails with a translator that leaves one of these
never-moves : (f : Translator) → Demand3 f run_code → WritesEnd f → ⊥
never-moves f d h =
    let room : List ℕ = replicate 1084 0 in
    let at = demanded two_contact two_sheet 1319 two_read two_accepted f run_code d room (omega (arith, two-words)) in
    let flag : (run_after run_code two_contact (code_in (f two_contact room)) (brings 1 0 0 10 ∷ [])).flags ≡ 2 =
    (at.3 (brings 1 0 0 10 ∷ [])).flag ∙ ap (λ n. 2 ^ n) two-moves in
    let z : ◌≡◌ {A = ℕ} 1 2 =
    sym (idle_code (to_bytes (END ∷ [])) end-idle)
    ∙ ap (λ c. (run_after run_code two_contact c (brings 1 0 0 10 ∷ [])).flags) (sym (h two_contact room at.1)) ∙ flag in
    omega arith

no-code-left : (f : Translator) → Demand3 f run_code → WritesNothing f → ⊥
no-code-left f d h =
    let at = demanded M m-read.0 71 m-read.1 m-accepted f run_code d room m-fits in
    ff-refused (f M room).answer.length 64 (rw (h M room) at at.2)

-- the runner: M from cold, 10 ms with activation on
tick : Tick
tick = record { word = 1; elapsed = 10 }

m-cold : (cold_run M).«record» ≡ flag 1 1 0
unfolding sheet_m cold_run cold_record outputs_of word_of with_sheet read_sheet read_header row_at upto transition_at ends_at judge clashes lacks_home any_below first_below
    cond_at operands_at input_at field_at num_at bit_at get_bit bits_of is_on is_off is_gated
m-cold = refl

m-since : (since_change M (tick ∷ []) ≡ 10) × (since_change M (tick ∷ tick ∷ []) ≡ 20)
unfolding sheet_m tick since_change ref_after cold_scan cold_of scan_sheet scan_of after best can eval outputs_of word_of with_sheet read_sheet read_header row_at upto
    transition_at ends_at judge clashes lacks_home any_below first_below cond_at operands_at input_at field_at num_at bit_at get_bit bits_of is_on is_off is_gated
m-since = (refl, refl)

module _ (f : Runner) (d : Demand3 translate_into f) where
  code : List ℕ
  code = code_in (translate_into M room)

  follows : (ticks : List Tick) → (a : Sheet) × Follows f M a code ticks
  unfolding code
  follows ticks =
      let at = demanded M m-read.0 71 m-read.1 m-accepted translate_into f d room m-fits in
      (at.0, at.3 ticks)

  clock-10 : (run_after f M code (tick ∷ [])).clock ≡ 10
  unfolding code
  clock-10 = (follows (tick ∷ [])).1.clock ∙ rw m-since.0 refl

  clock-20 : (run_after f M code (tick ∷ tick ∷ [])).clock ≡ 20
  unfolding code
  clock-20 = (follows (tick ∷ tick ∷ [])).1.clock ∙ rw m-since.1 refl

  back : HandsBack f → ⊥
  unfolding run_after
  back h =
      let z : ◌≡◌ {A = ℕ} 0 10 = sym (ap (λ (r : Record). r.clock) (h code (cold_run M).«record» tick.word tick.elapsed ∙ m-cold)) ∙ clock-10 in
      omega arith

  once : RightAtFirst f → ⊥
  unfolding run_after
  once h =
      let same : run_after f M code (tick ∷ tick ∷ []) ≡ run_after f M code (tick ∷ []) =
      h code (run_after f M code (tick ∷ [])) tick.word tick.elapsed (omega (arith, clock-10)) in
      omega (arith, ap (λ (r : Record). r.clock) same, clock-10, clock-20)

pub worthless : Worthless
unfolding bytes code11 bytes_of to_bytes
worthless = record {
  sheets_refused = λ f is h. accepted-refused (is two_contact ∙ two_accepted) (h two_contact).1;
  sheets_accepted = λ f is h. accepted-refused (h []) (is [] ∙ no_bytes);
  code_refused = λ f is h. accepted-refused (is (code_of two_sheet) ∙ two-checked) (h (code_of two_sheet)).1;
  code_accepted = λ f is h. accepted-refused (h []) (is [] ∙ no_code);
  only_end = λ f is h.
      let acc : (f M room).answer.verdict ≡ Ok tt = ap (λ (w : Written). w.answer.verdict) (translates-is M room (f M room) (is M room) ∙ table.p11) in
      let z : ◌≡◌ {A = ℕ} 4 64 =
      sym (ap length (h M room acc)) ∙ ap (λ w. length (code_in w)) (translates-is M room (f M room) (is M room)) ∙ ap length m-code in
      omega arith;
  only_end_3 = never-moves;
  nothing = λ f is h.
      let z : ◌≡◌ {A = ℕ} 255 1 =
      ap (λ (b : List ℕ). get_or b 0 0) (sym (h M room) ∙ ap (λ (w : Written). w.buffer) (translates-is M room (f M room) (is M room) ∙ table.p11)) in
      omega arith;
  nothing_3 = no-code-left;
  hands_back = λ f d h. back f d h;
  first_only = λ f d h. once f d h;
}
