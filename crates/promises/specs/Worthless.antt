-- "Try these worthless programs against it": each program that the paper names, and a proof that it can't meet its contract, or the demand.
-- A contract is the relation that the function cites, for all inputs.
use Rattle.std.specs.Prelude.{◌≡◌, List, [], ◌∷◌, ℕ, ◌<◌, Ok, Err}
use Rattle.answer.specs.declared.Refusal.{Refusal}
use Rattle.answer.specs.Checked.{Checked}
use Rattle.bits.specs.Read.{ok}
use Rattle.reader.specs.Sheet.{Sheet}
use Rattle.reader.specs.Reading.{read_sheet}
use Rattle.sheet.specs.Judging.{check_sheet, ChecksSheet}
use Rattle.machine.specs.declared.Record.{Record}
use Rattle.words.specs.Word.{END, to_bytes}
use Rattle.faults.specs.Check.{ChecksCode}
use Rattle.machine.specs.Run.{run_code}
use Rattle.translate.specs.Writing.{code_of, translate_into, Translates}
use Rattle.same.specs.Histories.{Tick, Runner, run_after}
use Rattle.promises.specs.Demand3.{Translator, code_in, Demand3}
use Rattle.refusals.specs.Refusals.{Numbered}
use Rattle.promises.specs.Length.{LengthOf}

-- programs that meet the contracts of the two checkers and of the translator, whatever they are given
abbrev pub ChecksSheets : (List ℕ → Checked) → Type 0
ChecksSheets f = (s : List ℕ) → ChecksSheet s (f s)

abbrev pub ChecksCodes : (List ℕ → Checked) → Type 0
ChecksCodes f = (s : List ℕ) → ChecksCode s (f s)

abbrev pub TranslatesAll : Translator → Type 0
TranslatesAll f = (s buffer : List ℕ) → Translates s buffer (f s buffer).answer (f s buffer).buffer

-- checkers that answer the same to everything
abbrev pub RefusesAll : (List ℕ → Checked) → Type 0
RefusesAll f = (s : List ℕ) → (why : Refusal) × (f s ≡ Err why)

abbrev pub AcceptsAll : (List ℕ → Checked) → Type 0
AcceptsAll f = (s : List ℕ) → f s ≡ Ok tt

-- translators that leave END alone wherever they accept, or no byte at all, whatever they answer
abbrev pub WritesEnd : Translator → Type 0
WritesEnd f = (s buffer : List ℕ) → (f s buffer).answer.verdict ≡ Ok tt → code_in (f s buffer) ≡ to_bytes (END ∷ [])

abbrev pub WritesNothing : Translator → Type 0
WritesNothing f = (s buffer : List ℕ) → (f s buffer).buffer ≡ buffer

-- runners that hand the record back: always, or once time has run, so that they may be right on the first scan after a cold start
abbrev pub HandsBack : Runner → Type 0
HandsBack f = (code : List ℕ) (r : Record) (word elapsed : ℕ) → (f code r word elapsed).«record» ≡ r

abbrev pub RightAtFirst : Runner → Type 0
RightAtFirst f = (code : List ℕ) (r : Record) (word elapsed : ℕ) → 0 < r.clock → (f code r word elapsed).«record» ≡ r

pub record Worthless : Type 0 where
  -- "A checker, of sheets or of code, that refuses everything or accepts everything: demand 2."
  pub sheets_refused : (f : List ℕ → Checked) → ChecksSheets f → RefusesAll f → ⊥
  pub sheets_accepted : (f : List ℕ → Checked) → ChecksSheets f → AcceptsAll f → ⊥
  pub code_refused : (f : List ℕ → Checked) → ChecksCodes f → RefusesAll f → ⊥
  pub code_accepted : (f : List ℕ → Checked) → ChecksCodes f → AcceptsAll f → ⊥
  -- "A translator that writes only END, or nothing: demands 2 and 3."
  pub only_end : (f : Translator) → TranslatesAll f → WritesEnd f → ⊥
  pub only_end_3 : (f : Translator) → Demand3 f run_code → WritesEnd f → ⊥
  pub nothing : (f : Translator) → TranslatesAll f → WritesNothing f → ⊥
  pub nothing_3 : (f : Translator) → Demand3 f run_code → WritesNothing f → ⊥
  -- "A runner that hands its record back: demand 3, by the first scan that adds time."
  pub hands_back : (f : Runner) → Demand3 translate_into f → HandsBack f → ⊥
  -- "A runner right on the first scan only: demand 3."
  pub first_only : (f : Runner) → Demand3 translate_into f → RightAtFirst f → ⊥

-- "ROOM with a place invented: the length rule above, under demand 2": the place is the length by the rule, and no other number
abbrev pub NoInventedRoom : Type 0
NoInventedRoom =
    (f : Translator) → TranslatesAll f → (s buffer : List ℕ) (place : ℕ) → Numbered (f s buffer).answer.verdict 14 place
    → (LengthOf s place → ⊥) → ⊥

-- and every wrong runner: whatever meets demand 3 with the translator has, on any accepted sheet and after any scans, the record that `run_code` has
abbrev pub OneRunner : Type 0
OneRunner =
    (f : Runner) → Demand3 translate_into f → (s : List ℕ) → check_sheet s ≡ Ok tt
    → (a : Sheet) × (end : ℕ) × (read_sheet s ≡ ok a end)
    × ((ticks : List Tick) → run_after f s (code_of a) ticks ≡ run_after run_code s (code_of a) ticks)
