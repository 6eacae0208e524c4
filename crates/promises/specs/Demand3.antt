-- Demand 3: any accepted sheet, its code, a cold start, and any scans after it. It is said of a translator and of a runner, as functions on bytes; the
-- theorem says it of `translate_into` and `run_code`, which are what the code's contracts settle.
use Rattle.std.specs.Prelude.{◌≡◌, List, ℕ, ◌*◌, ◌≤◌, length, take, Ok}
use Rattle.bits.specs.Read.{ok}
use Rattle.reader.specs.Sheet.{Sheet}
use Rattle.reader.specs.Reading.{read_sheet}
use Rattle.sheet.specs.Judging.{check_sheet}
use Rattle.scan.specs.Scan.{cold_scan}
use Rattle.faults.specs.Check.{check_code}
use Rattle.translate.specs.Writing.{Written, cold_run}
use Rattle.same.specs.Histories.{Tick, Runner, Follows}
use Rattle.promises.specs.Length.{words_of}

abbrev pub Translator : Type 0
Translator = List ℕ → List ℕ → Written

-- what the translator left in the buffer: the code, of the length that it answered
abbrev pub code_in : Written → List ℕ
code_in w = take w.answer.length w.buffer

-- any accepted sheet: it can be read and both cold starts are accepted; and with any buffer that has room for its code, the translator accepts it,
-- the code that it leaves passes the check of code, and the two go together for ever
abbrev pub Demand3 : Translator → Runner → Type 0
Demand3 translator run =
    (s : List ℕ) → check_sheet s ≡ Ok tt
    → (a : Sheet) × (end : ℕ) × (read_sheet s ≡ ok a end)
    × ((cold_scan s).verdict ≡ Ok tt)
    × ((cold_run s).verdict ≡ Ok tt)
    × ((buffer : List ℕ) → 4 * words_of a ≤ length buffer
    → ((translator s buffer).answer.verdict ≡ Ok tt)
    × (check_code (code_in (translator s buffer)) ≡ Ok tt)
    × ((ticks : List Tick) → Follows run s a (code_in (translator s buffer)) ticks))
