-- The code of an accepted sheet passes the check of code, and one scan of it is one scan of the sheet.
use Rattle.std.specs.Prelude.{◌≡◌, List, ℕ, Ok}
use Rattle.bits.specs.Read.{ok}
use Rattle.reader.specs.Sheet.{Sheet}
use Rattle.reader.specs.Reading.{read_sheet}
use Rattle.sheet.specs.Judging.{check_sheet}
use Rattle.faults.specs.Check.{check_code}
use Rattle.translate.specs.Writing.{code_of}
use Rattle.same.specs.Same.{Same}

-- no translation is refused by the runner
abbrev pub TranslationPasses : Type 0
TranslationPasses =
    (s : List ℕ) → check_sheet s ≡ Ok tt
    → (a : Sheet) × (end : ℕ) × (read_sheet s ≡ ok a end) × (check_code (code_of a) ≡ Ok tt)

-- from any record that fits the sheet: the record that the sheet's scan gives, and the number of words executed
abbrev pub OneScan : Type 0
OneScan = (s : List ℕ) → check_sheet s ≡ Ok tt → (a : Sheet) × (end : ℕ) × (read_sheet s ≡ ok a end) × Same a
