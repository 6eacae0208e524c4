-- The table, by computing: the two-contact sheet is read and judged once, its code is checked once, and the scans are computed over the tree and the
-- words.
use Rattle.std.specs.Prelude.{Ok}
use mathlib.Core.Path.{◌≡◌, refl, ap}
use mathlib.Core.List.{List, [], ◌∷◌, map}
use Prim.Native.Nat.{ℕ, ◌<◌}
use native.Mathlib.Omega.{arith}
use lib.ListN.{length}
use Rattle.answer.specs.Lowest.{any_below, first_below}
use Rattle.bits.specs.Field.{field_at, num_at, bit_at}
use Rattle.bits.specs.Read.{ok, upto}
use Rattle.bits.specs.Word.{get_bit, put_bit, word_of, bits_of}
use Rattle.condition.specs.Cond.{eval, is_on, is_off, is_gated, word_count}
use Rattle.condition.specs.Reading.{cond_at, operands_at, input_at}
use Rattle.reader.specs.Reading.{read_header, row_at, transition_at, ends_at, read_sheet}
use Rattle.sheet.specs.Judging.{clashes, lacks_home, judge, check_sheet, with_sheet}
use Rattle.sheet.specs.Table as sheets
use Rattle.sheet.specs.Table.{sheet_m}
use Rattle.scan.specs.declared.State.{State}
use Rattle.scan.specs.Scan.{can, best, outputs_of, after, scan_of, cold_of, scan_sheet, cold_scan, Scanned}
use Rattle.machine.specs.declared.Record.{Record}
use Rattle.words.specs.Word.{code_no, operand, word_no, known, decode, bytes_of, to_bytes, words}
use Rattle.machine.specs.Machine.{flag_to, out_to, exec, run_scan}
use Rattle.faults.specs.Check.{end_fault, opens, faulty, unknown, first_fault, depth_at, lands_open, first_landing, check_code}
use Rattle.machine.specs.Run.{mach_of, record_of, run_code}
use Rattle.words.specs.Worked.{bytes, code11}
use Rattle.translate.specs.Translation.{
  cond_code,
  wait_code,
  block,
  key,
  insert,
  sort,
  blocks,
  row_code,
  state_blocks,
  block_len,
  blocks_len,
  state_at,
  end_at,
  translate,
}
use Rattle.translate.specs.Writing.{code_of, translate_into, cold_record, cold_run, Cold}
use Rattle.same.specs.Histories.{Tick}
use Rattle.promises.specs.Length.{words_of}
use Rattle.promises.specs.Table.{two_contact, two_rows, two_arcs, two_sheet, scans, runs, state, flag, Table}
use Rattle.same.proofs.AcceptedLaws.{scan-is, cold-scan-is, cold-run-is}
use Rattle.promises.proofs.Breaking.{run_of}

pub two_read : read_sheet two_contact ≡ ok two_sheet 1319
unfolding read_sheet read_header row_at upto transition_at ends_at two_contact two_sheet two_rows two_arcs cond_at operands_at input_at field_at num_at bit_at get_bit
    bits_of
two_read = refl

pub two_accepted : check_sheet two_contact ≡ Ok tt
unfolding check_sheet judge clashes lacks_home any_below first_below two_sheet two_rows two_arcs is_on is_off is_gated
two_accepted = rw two_read refl

pub two-words : words_of two_sheet ≡ 271
unfolding words_of word_count two_sheet two_rows two_arcs
two-words = refl

two_bytes : length two_contact ≡ 165
unfolding two_contact
two_bytes = refl

-- a scan of the reference, the sheet being read
pub two-scan : (q : State) → q.state < 9 → (word elapsed : ℕ)
    → scan_sheet two_contact q word elapsed ≡ record { verdict = Ok tt; «record» = scan_of two_sheet q word elapsed }
unfolding two_sheet
two-scan q lt word elapsed = scan-is two_contact two_sheet 1319 two_read two_accepted q lt word elapsed

pub two-checked : check_code (code_of two_sheet) ≡ Ok tt
unfolding check_code end_fault opens faulty unknown first_fault depth_at lands_open first_landing code_no operand word_no known decode bytes_of to_bytes words code_of
    translate cond_code wait_code block key insert sort blocks row_code state_blocks block_len blocks_len word_count state_at end_at two_sheet two_rows two_arcs
two-checked = refl

two-decoded : map decode (words (code_of two_sheet)) ≡ translate two_sheet
unfolding code_no operand word_no known decode bytes_of to_bytes words code_of translate cond_code wait_code block key insert sort blocks row_code state_blocks
    block_len blocks_len word_count state_at end_at two_sheet two_rows two_arcs
two-decoded = refl

-- a scan of the code, the code being checked
pub two_run : (r : Record) (word elapsed : ℕ)
    → run_code (code_of two_sheet) r word elapsed
    ≡ record { verdict = Ok tt; «record» = record_of (run_scan (translate two_sheet) (mach_of r) word elapsed).mach }
unfolding code_of
two_run = run_of (translate two_sheet) two-checked two-decoded

-- scans one after the other
scan_step : (q p : State) (t : Tick) (ts : List Tick) (rest : List State) → q.state < 9 → scan_of two_sheet q t.word t.elapsed ≡ p
    → scans two_contact p ts ≡ rest → scans two_contact q (t ∷ ts) ≡ p ∷ rest
unfolding scans
scan_step q p t ts rest lt e f = rw (two-scan q lt t.word t.elapsed, e, f) refl

run_step : (r u : Record) (t : Tick) (ts : List Tick) (rest : List Record)
    → record_of (run_scan (translate two_sheet) (mach_of r) t.word t.elapsed).mach ≡ u
    → runs (code_of two_sheet) u ts ≡ rest → runs (code_of two_sheet) r (t ∷ ts) ≡ u ∷ rest
unfolding runs
run_step r u t ts rest e f = rw (two_run r t.word t.elapsed, e, f) refl

no-scan : (q : State) → scans two_contact q [] ≡ []
unfolding scans
no-scan q = refl

no_run : (r : Record) → runs (code_of two_sheet) r [] ≡ []
unfolding runs
no_run r = refl

pub cold-state : (cold_scan two_contact).«record» ≡ state 0 1 0
unfolding cold_of outputs_of word_of two_sheet two_rows
cold-state = ap (λ (v : Scanned). v.«record») (cold-scan-is two_contact two_sheet 1319 two_read two_accepted)

pub cold-flag : (cold_run two_contact).«record» ≡ flag 1 1 0
unfolding cold_record outputs_of word_of two_sheet two_rows
cold-flag = ap (λ (v : Cold). v.«record») (cold-run-is two_contact two_sheet 1319 two_read two_accepted)

pub table : Table
unfolding sheet_m bytes code11 translate_into with_sheet read_sheet read_header row_at upto transition_at ends_at judge clashes lacks_home any_below first_below cond_at
    operands_at input_at field_at num_at bit_at get_bit put_bit word_of bits_of is_on is_off is_gated code_no operand word_no bytes_of to_bytes code_of translate cond_code
    wait_code block key insert sort blocks row_code state_blocks block_len blocks_len word_count state_at end_at two_sheet two_rows two_arcs scan_of after best can eval
    outputs_of run_scan exec flag_to out_to
table = record {
  sheets = sheets.table;
  p3_bits = (_, refl);
  p11 = refl;
  p11_room = (refl, refl);
  p11_untouched = refl;
  two_read = two_read;
  two_accepted = two_accepted;
  two_sizes = (refl, two_bytes, refl);
  p12 = rw cold-state (scan_step _ _ _ _ _ (omega arith) refl (
      scan_step _ _ _ _ _ (omega arith) refl (
      scan_step _ _ _ _ _ (omega arith) refl (
      scan_step _ _ _ _ _ (omega arith) refl (
      scan_step _ _ _ _ _ (omega arith) refl (
      scan_step _ _ _ _ _ (omega arith) refl (
      scan_step _ _ _ _ _ (omega arith) refl (
      scan_step _ _ _ _ _ (omega arith) refl (no-scan _)))))))));
  p12_code = rw cold-flag (run_step _ _ _ _ _ refl (
      run_step _ _ _ _ _ refl (
      run_step _ _ _ _ _ refl (
      run_step _ _ _ _ _ refl (
      run_step _ _ _ _ _ refl (
      run_step _ _ _ _ _ refl (
      run_step _ _ _ _ _ refl (
      run_step _ _ _ _ _ refl (no_run _)))))))));
  p13 = (two-scan _ (omega arith) _ _, two_run _ _ _);
  p14 = (two-scan _ (omega arith) _ _, two_run _ _ _);
  cold_all = (two-scan _ (omega arith) _ _, two_run _ _ _);
  cold_is = (cold-state, cold-flag);
  idle = (two-scan _ (omega arith) _ _, two_run _ _ _);
}
