-- The mistakes fail: each at one scan behind one history. Assumes nothing.
use Rattle.std.specs.Prelude.{Ok}
use mathlib.Core.Path.{◌≡◌, refl, sym, ap, ◌∙◌}
use mathlib.Core.Bool.{Bool, true, false}
use mathlib.Core.List.{List, [], ◌∷◌, ◌++◌, map}
use Prim.Native.Nat.{ℕ, ◌<◌}
use native.Mathlib.Omega.{arith}
use borrow.Author.Tests.{leb-true}
use lib.Dec.{leb}
use lib.ListN.{length, replicate}
use Rattle.answer.specs.Lowest.{any_below, first_below}
use Rattle.bits.specs.Field.{field_at, num_at, bit_at}
use Rattle.bits.specs.Read.{Ans, ok, no, upto}
use Rattle.bits.specs.Word.{get_bit, put_bit, word_of, bits_of}
use Rattle.bits.proofs.ReadLaws.{ok-is}
use Rattle.condition.specs.Cond.{Cond, inp, neg, eval, is_on, is_off, is_gated, word_count, cond_bits}
use Rattle.condition.specs.Reading.{cond_at, operands_at, input_at}
use Rattle.reader.specs.Sheet.{Transition, Sheet}
use Rattle.reader.specs.Reading.{read_header, row_at, transition_at, ends_at, read_sheet}
use Rattle.format.specs.Writing.{
  header_bits,
  rows_bits,
  transition_bits,
  transitions_bits,
  num_of,
  n_bytes,
  in_bytes,
  sheet_bits,
  sheet_of,
}
use Rattle.sheet.specs.Judging.{clashes, lacks_home, judge, judge_read, check_sheet}
use Rattle.rules.proofs.Acceptance.{accepted-rules}
use Rattle.scan.specs.declared.State.{State}
use Rattle.scan.specs.Scan.{can, best, outputs_of, after, scan_of, cold_of}
use Rattle.words.specs.Word.{Word, code_no, operand, word_no, known, decode, bytes_of, to_bytes, words}
use Rattle.words.proofs.WordLaws.{bytes-length}
use Rattle.machine.specs.declared.Record.{Record}
use Rattle.machine.specs.Machine.{flag_to, out_to, exec, run_scan}
use Rattle.faults.specs.Check.{end_fault, opens, faulty, unknown, first_fault, depth_at, lands_open, first_landing}
use Rattle.faults.specs.Check.{check_code}
use Rattle.machine.specs.Run.{mach_of, record_of, run_code}
use Rattle.translate.specs.Translation.{
  cond_code,
  wait_code,
  block,
  key,
  insert,
  sort,
  blocks,
  row_code,
  state_blocks,
  block_len,
  blocks_len,
  state_at,
  end_at,
  translate,
}
use Rattle.translate.specs.Writing.{code_of, translate_into}
use Rattle.translate.proofs.LengthLaws.{blocks-length, sort-blocks_len}
use Rattle.same.specs.Same.{embed}
use Rattle.same.specs.Histories.{Tick, Runner, ref_after}
use Rattle.refusals.specs.Refusals.{Numbered}
use Rattle.moves.proofs.HomeProof.{off-home}
use Rattle.promises.specs.Length.{words_of}
use Rattle.promises.specs.Demand3.{Translator, code_in, Demand3}
use Rattle.promises.specs.Table.{two_contact, two_rows, two_arcs, two_sheet, brings, state, flag}
use Rattle.promises.specs.Earlier.{
  blocks_by,
  state_by,
  translate_by,
  writing,
  block_one,
  translate_one,
  translate_two,
  block_left,
  translate_left,
  drawn,
  run_three,
  run_zeroing,
  judge_by,
  judge_read_by,
  check_by,
  tried,
  untested,
  out_by,
  OffStays,
  Gives,
  Earlier,
}
use Rattle.promises.proofs.Breaking.{run_of, ref-cold, ref-next, written-by, must-give}
use Rattle.promises.proofs.TableProof.{two_read, two_accepted, two-words, two_run, table}

-- with the paper's parts they are ours
blocks-ours : (to : ℕ → ℕ) (ts : List Transition) → blocks_by block to ts ≡ blocks to ts
unfolding blocks_by blocks
blocks-ours to [] = refl
blocks-ours to (t ∷ ts) = ap (λ (is : List Word). block t (to t.destination) ++ is) (blocks-ours to ts)

our_code : (a : Sheet) → translate_by block sort a ≡ translate a
unfolding translate_by translate state_by state_at end_at
our_code a =
    let ts : List Transition = sort a.transitions in
    let long : length (blocks_by block (λ d. 0) ts) ≡ blocks_len a.transitions =
    ap length (blocks-ours (λ d. 0) ts) ∙ blocks-length (λ d. 0) ts ∙ sort-blocks_len a.transitions in
    rw (long, blocks-ours (state_at a) ts) refl

our_translator : (s buffer : List ℕ) → writing translate s buffer ≡ translate_into s buffer
unfolding writing translate_into code_of
our_translator s buffer = refl

our_check : (s : List ℕ) → check_by is_gated s ≡ check_sheet s
unfolding check_by check_sheet judge_by judge
our_check s = go (read_sheet s)
  where
    go : (x : Ans Sheet) → judge_read_by is_gated x ≡ judge_read x
    go (ok a end) = refl
    go (no why) = refl

-- the two-contact sheet as drawn
drawn-read : read_sheet (sheet_of drawn) ≡ ok drawn 1319
unfolding read_sheet read_header row_at upto transition_at ends_at drawn two_rows two_arcs cond_at operands_at input_at field_at
    num_at bit_at get_bit bits_of header_bits rows_bits transition_bits transitions_bits num_of n_bytes in_bytes sheet_bits sheet_of
    cond_bits
drawn-read = refl

drawn-accepted : check_sheet (sheet_of drawn) ≡ Ok tt
unfolding check_sheet judge clashes lacks_home any_below first_below drawn two_rows two_arcs is_on is_off is_gated
drawn-accepted = rw drawn-read refl

drawn-words : words_of drawn ≡ 271
unfolding words_of word_count drawn two_rows two_arcs
drawn-words = refl

-- A version's code passes the check of code, the runner reads it as it was written, and it fits where ours does
pub record Passes (code : List Word) : Type 0 where
  pub checked : check_code (to_bytes code) ≡ Ok tt
  pub decoded : map decode (words (to_bytes code)) ≡ code
  pub fits : leb (length code) 271 ≡ true

run_by : (code : List Word) → Passes code → (r : Record) (word elapsed : ℕ)
    → run_code (to_bytes code) r word elapsed
    ≡ record { verdict = Ok tt; «record» = record_of (run_scan code (mach_of r) word elapsed).mach }
run_by code p = run_of code p.checked p.decoded

one_passes : Passes (translate_one two_sheet)
unfolding check_code end_fault opens faulty unknown first_fault depth_at lands_open first_landing code_no operand word_no known
    decode bytes_of to_bytes words translate_one translate_by blocks_by state_by block_one cond_code wait_code key insert sort
    row_code state_blocks two_sheet two_rows two_arcs
one_passes = record { checked = refl; decoded = refl; fits = refl }

two-passes : Passes (translate_two drawn)
unfolding check_code end_fault opens faulty unknown first_fault depth_at lands_open first_landing code_no operand word_no known
    decode bytes_of to_bytes words translate_two translate_by blocks_by state_by block cond_code wait_code key insert sort
    row_code state_blocks drawn two_rows two_arcs
two-passes = record { checked = refl; decoded = refl; fits = refl }

left-passes : Passes (translate_left two_sheet)
unfolding check_code end_fault opens faulty unknown first_fault depth_at lands_open first_landing code_no operand word_no known
    decode bytes_of to_bytes words translate_left translate_by blocks_by state_by block_left cond_code wait_code key insert sort
    row_code state_blocks two_sheet two_rows two_arcs
left-passes = record { checked = refl; decoded = refl; fits = refl }

-- the scans
one_gives : Gives two_sheet translate_one run_code (state 0 1 0) (brings 1 1 1 10) (state 1 2 0) (flag 256 1 10)
unfolding embed scan_of after best can eval get_bit put_bit outputs_of word_of run_scan exec flag_to out_to translate_one
    translate_by blocks_by state_by block_one cond_code wait_code key insert sort row_code state_blocks two_sheet two_rows two_arcs
one_gives = (refl, run_by (translate_one two_sheet) one_passes (flag 1 1 0) 7 10)

two_gives : Gives drawn translate_two run_code (state 3 2 99) (brings 1 1 1 1) (state 5 10 0) (flag 256 6 0)
unfolding embed scan_of after best can eval get_bit put_bit outputs_of word_of run_scan exec flag_to out_to translate_two
    translate_by blocks_by state_by block cond_code wait_code key insert sort row_code state_blocks drawn two_rows two_arcs
two_gives = (refl, run_by (translate_two drawn) two-passes (flag 8 2 99) 7 1)

left_gives : Gives two_sheet translate_left run_code (state 0 1 0) (brings 1 0 0 10) (state 1 2 0) (flag 3 2 0)
unfolding embed scan_of after best can eval get_bit put_bit outputs_of word_of run_scan exec flag_to out_to translate_left
    translate_by blocks_by state_by block_left cond_code wait_code key insert sort row_code state_blocks two_sheet two_rows
    two_arcs
left_gives = (refl, run_by (translate_left two_sheet) left-passes (flag 1 1 0) 1 10)

-- and over our code
our-run : (r : Record) (word elapsed : ℕ)
    → run_code (to_bytes (translate two_sheet)) r word elapsed
    ≡ record { verdict = Ok tt; «record» = record_of (run_scan (translate two_sheet) (mach_of r) word elapsed).mach }
unfolding code_of
our-run = two_run

three_gives : Gives two_sheet translate run_three (state 3 2 99) (brings 1 1 0 1) (state 5 10 0) (flag 8 2 100)
unfolding embed scan_of after best can eval get_bit put_bit outputs_of word_of run_scan exec flag_to out_to run_three translate
    cond_code wait_code block key insert sort blocks row_code state_blocks block_len blocks_len word_count state_at end_at
    two_sheet two_rows two_arcs
three_gives = (refl, rw our-run refl)

three_late : Gives two_sheet translate run_three (state 3 2 100) (brings 1 1 0 0) (state 5 10 0) (flag 32 10 0)
unfolding embed scan_of after best can eval get_bit put_bit outputs_of word_of run_scan exec flag_to out_to run_three translate
    cond_code wait_code block key insert sort blocks row_code state_blocks block_len blocks_len word_count state_at end_at
    two_sheet two_rows two_arcs
three_late = (refl, rw our-run refl)

zeroing_gives : Gives two_sheet translate run_zeroing (state 0 1 0) (brings 0 1 1 50) (state 0 1 50) (flag 1 1 0)
unfolding embed scan_of after best can eval get_bit put_bit outputs_of word_of run_scan exec flag_to out_to run_zeroing translate
    cond_code wait_code block key insert sort blocks row_code state_blocks block_len blocks_len word_count state_at end_at
    two_sheet two_rows two_arcs
zeroing_gives = (refl, rw our-run refl)

-- The histories before them: a cold start; and P12's first three scans, by which a sheet goes from 0 to 1 and to 3 and
-- waits there
pub record Stage (s : List ℕ) (a : Sheet) : Type 0 where
  pub read : read_sheet s ≡ ok a 1319
  pub accepted : check_sheet s ≡ Ok tt
  pub many : words_of a ≡ 271
  pub nine : a.states ≡ 9
  pub idle : cold_of a ≡ state 0 1 0
  pub first : scan_of a (state 0 1 0) 1 10 ≡ state 1 2 0
  pub second : scan_of a (state 1 2 0) 3 10 ≡ state 3 2 0
  pub third : scan_of a (state 3 2 0) 3 99 ≡ state 3 2 99

two-stage : Stage two_contact two_sheet
unfolding scan_of cold_of after best can eval get_bit outputs_of word_of two_sheet two_rows two_arcs
two-stage = record {
  read = two_read;
  accepted = two_accepted;
  many = two-words;
  nine = refl;
  idle = refl;
  first = refl;
  second = refl;
  third = refl;
}

drawn-stage : Stage (sheet_of drawn) drawn
unfolding scan_of cold_of after best can eval get_bit outputs_of word_of drawn two_rows two_arcs
drawn-stage = record {
  read = drawn-read;
  accepted = drawn-accepted;
  many = drawn-words;
  nine = refl;
  idle = refl;
  first = refl;
  second = refl;
  third = refl;
}

abbrev waited : List Tick
waited = brings 1 1 0 99 ∷ brings 1 1 0 10 ∷ brings 1 0 0 10 ∷ []

abbrev room : List ℕ
room = replicate 1084 0

module _ (s : List ℕ) (a : Sheet) (w : Stage s a) where
  cold : ref_after s [] ≡ state 0 1 0
  cold = ref-cold s a 1319 w.read w.accepted ∙ w.idle

  next : (before : List Tick) (t : Tick) (q p : State) → ref_after s before ≡ q → q.state < 9
      → scan_of a q t.word t.elapsed ≡ p → ref_after s (t ∷ before) ≡ p
  next before t q p e lt f = ref-next s a 1319 w.read w.accepted before t q p e (omega (arith, w.nine)) f

  waiting : ref_after s waited ≡ state 3 2 99
  waiting =
      let one : ref_after s (brings 1 0 0 10 ∷ []) ≡ state 1 2 0 =
      next [] (brings 1 0 0 10) (state 0 1 0) (state 1 2 0) cold (omega arith) w.first in
      let two : ref_after s (brings 1 1 0 10 ∷ brings 1 0 0 10 ∷ []) ≡ state 3 2 0 =
      next (brings 1 0 0 10 ∷ []) (brings 1 1 0 10) (state 1 2 0) (state 3 2 0) one (omega arith) w.second in
      next (brings 1 1 0 10 ∷ brings 1 0 0 10 ∷ []) (brings 1 1 0 99) (state 3 2 0) (state 3 2 99) two (omega arith)
      w.third

  -- a version's code that fits is left whole, and a scan of it behind such a history gives what it must
  left_by : (make : Sheet → List Word) → leb (length (make a)) 271 ≡ true
      → code_in (writing make s room) ≡ to_bytes (make a)
  left_by make few =
      written-by s a 1319 w.read w.accepted make room
      (omega (arith, leb-true (length (make a)) 271 few, bytes-length (make a)))

  given : (f : Translator) (run : Runner) → Demand3 f run → (make : Sheet → List Word)
      → code_in (f s room) ≡ to_bytes (make a) → (before : List Tick) (t : Tick) (q p : State) (u : Record)
      → ref_after s before ≡ q → q.state < 9 → Gives a make run q t p u → u ≡ embed p
  given f run d make e before t q p u at lt gives =
      must-give s a 1319 w.read w.accepted f run d room (omega (arith, w.many)) make e before t q p u at
      (omega (arith, w.nine)) gives

-- each of them: the flags differ, or the clock
differ : (m n : ℕ) → m < n → n ≡ m → ⊥
differ m n lt e = omega arith

two-cold : ref_after two_contact [] ≡ state 0 1 0
two-cold = cold two_contact two_sheet two-stage

one : Demand3 (writing translate_one) run_code → ⊥
unfolding embed
one d =
    let e : flag 256 1 10 ≡ embed (state 1 2 0) =
    given two_contact two_sheet two-stage (writing translate_one) run_code d translate_one
    (left_by two_contact two_sheet two-stage translate_one one_passes.fits)
    [] (brings 1 1 1 10) (state 0 1 0) (state 1 2 0) (flag 256 1 10) two-cold (omega arith) one_gives in
    differ 2 256 (omega arith) (ap (λ (r : Record). r.flags) e)

two : Demand3 (writing translate_two) run_code → ⊥
unfolding embed
two d =
    let e : flag 256 6 0 ≡ embed (state 5 10 0) =
    given (sheet_of drawn) drawn drawn-stage (writing translate_two) run_code d translate_two
    (left_by (sheet_of drawn) drawn drawn-stage translate_two two-passes.fits)
    waited (brings 1 1 1 1) (state 3 2 99) (state 5 10 0) (flag 256 6 0) (waiting (sheet_of drawn) drawn drawn-stage)
    (omega arith) two_gives in
    differ 32 256 (omega arith) (ap (λ (r : Record). r.flags) e)

ours-left : code_in (translate_into two_contact room) ≡ to_bytes (translate two_sheet)
ours-left =
    ap code_in (sym (our_translator two_contact room))
    ∙ left_by two_contact two_sheet two-stage translate (rw table.two_sizes.2 refl)

three : Demand3 translate_into run_three → ⊥
unfolding embed
three d =
    let e : flag 8 2 100 ≡ embed (state 5 10 0) =
    given two_contact two_sheet two-stage translate_into run_three d translate ours-left
    waited (brings 1 1 0 1) (state 3 2 99) (state 5 10 0) (flag 8 2 100) (waiting two_contact two_sheet two-stage)
    (omega arith) three_gives in
    differ 8 32 (omega arith) (ap (λ (r : Record). r.flags) (sym e))

zeroing : Demand3 translate_into run_zeroing → ⊥
unfolding embed
zeroing d =
    let e : flag 1 1 0 ≡ embed (state 0 1 50) =
    given two_contact two_sheet two-stage translate_into run_zeroing d translate ours-left
    [] (brings 0 1 1 50) (state 0 1 0) (state 0 1 50) (flag 1 1 0) two-cold (omega arith) zeroing_gives in
    differ 0 50 (omega arith) (ap (λ (r : Record). r.clock) (sym e))

left : Demand3 (writing translate_left) run_code → ⊥
unfolding embed
left d =
    let e : flag 3 2 0 ≡ embed (state 1 2 0) =
    given two_contact two_sheet two-stage (writing translate_left) run_code d translate_left
    (left_by two_contact two_sheet two-stage translate_left left-passes.fits)
    [] (brings 1 0 0 10) (state 0 1 0) (state 1 2 0) (flag 3 2 0) two-cold (omega arith) left_gives in
    differ 2 3 (omega arith) (ap (λ (r : Record). r.flags) e)

-- GATE: the sheets whose way out of state 0 is by input 1, and by its negation
out-read : read_sheet (sheet_of (out_by (inp 1))) ≡ ok (out_by (inp 1)) 118
unfolding read_sheet read_header row_at upto transition_at ends_at out_by cond_at operands_at input_at field_at num_at bit_at get_bit
    bits_of header_bits rows_bits transition_bits transitions_bits num_of n_bytes in_bytes sheet_bits sheet_of cond_bits
out-read = refl

out-not-read : read_sheet (sheet_of (out_by (neg (inp 1)))) ≡ ok (out_by (neg (inp 1))) 120
unfolding read_sheet read_header row_at upto transition_at ends_at out_by cond_at operands_at input_at field_at num_at bit_at get_bit
    bits_of header_bits rows_bits transition_bits transitions_bits num_of n_bytes in_bytes sheet_bits sheet_of cond_bits
out-not-read = refl

-- a test that they pass accepts them
judged-by : (gated : Cond → Bool) (c : Cond) → gated c ≡ true → judge_by gated (out_by c) ≡ Ok tt
unfolding judge_by clashes lacks_home any_below first_below out_by is_on is_off
judged-by gated c e = rw e refl

passes : (gated : Cond → Bool) (c : Cond) (end : ℕ) → read_sheet (sheet_of (out_by c)) ≡ ok (out_by c) end → gated c ≡ true
    → check_by gated (sheet_of (out_by c)) ≡ Ok tt
unfolding check_by
passes gated c end read e = rw read (judged-by gated c e)

-- and they leave state 0 at an input word that makes the condition true
walks : (c : Cond) (word : ℕ) → eval word c ≡ true → (scan_of (out_by c) (cold_of (out_by c)) word 10).state ≡ 1
unfolding scan_of cold_of after best can out_by outputs_of word_of
walks c word e = rw e refl

strays : (gated : Cond → Bool) (c : Cond) (end : ℕ) → read_sheet (sheet_of (out_by c)) ≡ ok (out_by c) end → gated c ≡ true
    → (word : ℕ) → get_bit word 0 ≡ false → eval word c ≡ true → OffStays (check_by gated) → ⊥
strays gated c end read e word off on h =
    let z : ◌≡◌ {A = ℕ} 1 0 =
    sym (walks c word on) ∙ h (sheet_of (out_by c)) (passes gated c end read e) (out_by c) end read word 10 off in
    omega arith

at-2 : (get_bit 2 0 ≡ false) × (eval 2 (inp 1) ≡ true)
unfolding eval get_bit
at-2 = (refl, refl)

at-0 : (get_bit 0 0 ≡ false) × (eval 0 (neg (inp 1)) ≡ true)
unfolding eval get_bit
at-0 = (refl, refl)

-- one of the two is false at the word tried
one-try : (word : ℕ) → OffStays (check_by (tried word)) → ⊥
unfolding eval
one-try word = go (get_bit word 1) refl
  where
    go : (b : Bool) → get_bit word 1 ≡ b → OffStays (check_by (tried word)) → ⊥
    go false e = strays (tried word) (inp 1) 118 out-read (rw e refl) 2 at-2.0 at-2.1
    go true e = strays (tried word) (neg (inp 1)) 120 out-not-read (rw e refl) 0 at-0.0 at-0.1

out-tried : eval 0 (inp 1) ≡ false
unfolding eval get_bit
out-tried = refl

out-refused : Numbered (check_sheet (sheet_of (out_by (inp 1)))) 12 1
unfolding check_sheet judge clashes lacks_home any_below first_below out_by is_on is_off is_gated
out-refused = rw out-read (refl, refl)

out-leaves : scan_of (out_by (inp 1)) (state 0 1 0) 2 10 ≡ state 1 0 0
unfolding scan_of after best can eval get_bit out_by outputs_of word_of
out-leaves = refl

-- by its form none leaves
gated-stays : OffStays check_sheet
unfolding cold_of
gated-stays s acc a end read word elapsed off =
    let r = accepted-rules s acc in
    let same : r.0 ≡ a = ok-is (sym r.2 ∙ read) in
    let home : (scan_of r.0 (cold_of r.0) word elapsed).state ≡ 0 =
    off-home r.0 r.3 (cold_of r.0) (omega (arith, r.3.states.0)) word elapsed off in
    ap (λ (b : Sheet). (scan_of b (cold_of b) word elapsed).state) (sym same) ∙ home

pub earlier : Earlier
earlier = record {
  our_code = our_code;
  our_translator = our_translator;
  our_check = our_check;
  one = one;
  one_gives = one_gives;
  two = two;
  two_drawn = drawn-accepted;
  two_gives = two_gives;
  three = three;
  three_gives = three_gives;
  three_late = three_late;
  zeroing = zeroing;
  zeroing_gives = zeroing_gives;
  left = left;
  left_gives = left_gives;
  gate = gated-stays;
  gate_tried = one-try;
  gate_untested = strays untested (inp 1) 118 out-read refl 2 at-2.0 at-2.1;
  gate_accepts = passes (tried 0) (inp 1) 118 out-read (rw out-tried refl);
  gate_leaves = out-leaves;
  gate_refuses = out-refused;
}
