-- What a refusal leaves behind, and what an accepted translation does; and that a sheet is refused by each call as by the check of sheets, and code
-- by the runner as by the check of code.
use Rattle.std.specs.Prelude.{◌≡◌, ◌⊎◌, List, ◌++◌, ℕ, length, drop, Ok, Err}
use Rattle.answer.specs.declared.Refusal.{Refusal}
use Rattle.answer.specs.Number.{number, place}
use Rattle.bits.specs.Read.{ok}
use Rattle.reader.specs.Sheet.{Sheet}
use Rattle.reader.specs.Reading.{read_sheet}
use Rattle.sheet.specs.Judging.{check_sheet}
use Rattle.scan.specs.declared.State.{State}
use Rattle.scan.specs.Scan.{zeros, scan_sheet, cold_scan}
use Rattle.machine.specs.declared.Record.{Record}
use Rattle.faults.specs.Check.{check_code}
use Rattle.machine.specs.Run.{record_with, run_code}
use Rattle.translate.specs.Writing.{code_of, translate_into, cold_run}

pub record Left : Type 0 where
  -- "A refused scan returns the record it was given"
  pub scan : (s : List ℕ) (q : State) (word elapsed : ℕ) (why : Refusal) → (scan_sheet s q word elapsed).verdict ≡ Err why
      → (scan_sheet s q word elapsed).«record» ≡ q
  pub run : (code : List ℕ) (r : Record) (word elapsed : ℕ) (why : Refusal) → (run_code code r word elapsed).verdict ≡ Err why
      → (run_code code r word elapsed).«record» ≡ r
  -- "a refused translation writes no byte"
  pub unwritten : (s buffer : List ℕ) (why : Refusal) → (translate_into s buffer).answer.verdict ≡ Err why
      → ((translate_into s buffer).buffer ≡ buffer) × ((translate_into s buffer).answer.length ≡ 0)
  -- "Accepted translation writes the code from the buffer's start and no byte after it, and returns its length in bytes."
  pub written : (s buffer : List ℕ) → (translate_into s buffer).answer.verdict ≡ Ok tt
      → (a : Sheet) × (end : ℕ) × (read_sheet s ≡ ok a end)
      × ((translate_into s buffer).buffer ≡ code_of a ++ drop (length (code_of a)) buffer)
      × ((translate_into s buffer).answer.length ≡ length (code_of a))
  -- "A cold start refused for its sheet returns a record of zeros."
  pub for_cold_scan : (s : List ℕ) (why : Refusal) → (cold_scan s).verdict ≡ Err why
      → (cold_scan s).«record» ≡ zeros
  pub for_cold_run : (s : List ℕ) (why : Refusal) → (cold_run s).verdict ≡ Err why
      → (cold_run s).«record» ≡ record_with 0 0 0
  -- a refused sheet gets the same number and place from all; the cold starts answer as the check does, and the other two have 18 and 14 besides
  pub sheet_cold_scan : (s : List ℕ) → (cold_scan s).verdict ≡ check_sheet s
  pub sheet_cold_run : (s : List ℕ) → (cold_run s).verdict ≡ check_sheet s
  pub sheet_scan : (s : List ℕ) (q : State) (word elapsed : ℕ) (why : Refusal)
      → (check_sheet s ≡ Err why → (scan_sheet s q word elapsed).verdict ≡ Err why)
      × ((scan_sheet s q word elapsed).verdict ≡ Err why → (check_sheet s ≡ Err why) ⊎ ((number why ≡ 18) × (place why ≡ q.state)))
  pub sheet_translate : (s buffer : List ℕ) (why : Refusal)
      → (check_sheet s ≡ Err why → (translate_into s buffer).answer.verdict ≡ Err why)
      × ((translate_into s buffer).answer.verdict ≡ Err why → (check_sheet s ≡ Err why) ⊎ (number why ≡ 14))
  -- and faulty code the check's from the runner
  pub code_run : (code : List ℕ) (r : Record) (word elapsed : ℕ) → (run_code code r word elapsed).verdict ≡ check_code code
