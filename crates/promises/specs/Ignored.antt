-- "input i has weight 2^i; inputs k and above are ignored": words that agree in the inputs below k give the same scans, of the sheet and of its
-- code, from any record.
use Rattle.std.specs.Prelude.{◌≡◌, List, ℕ, ◌<◌, Ok}
use Rattle.bits.specs.Read.{ok}
use Rattle.bits.specs.Word.{get_bit}
use Rattle.reader.specs.Sheet.{Sheet}
use Rattle.reader.specs.Reading.{read_sheet}
use Rattle.sheet.specs.Judging.{check_sheet}
use Rattle.scan.specs.declared.State.{State}
use Rattle.scan.specs.Scan.{scan_sheet}
use Rattle.machine.specs.declared.Record.{Record}
use Rattle.machine.specs.Run.{run_code}
use Rattle.translate.specs.Writing.{code_of}

abbrev pub Agree : ℕ → ℕ → ℕ → Type 0
Agree k word other = (i : ℕ) → i < k → get_bit word i ≡ get_bit other i

abbrev pub InputsIgnored : Type 0
InputsIgnored =
    (s : List ℕ) → check_sheet s ≡ Ok tt
    → (a : Sheet) × (end : ℕ) × (read_sheet s ≡ ok a end)
    × ((word other : ℕ) → Agree a.inputs word other → (elapsed : ℕ)
    → ((q : State) → scan_sheet s q word elapsed ≡ scan_sheet s q other elapsed)
    × ((r : Record) → run_code (code_of a) r word elapsed ≡ run_code (code_of a) r other elapsed))
