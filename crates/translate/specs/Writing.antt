-- What a translation answers and leaves in the buffer, and the runner's cold start.
use Rattle.std.specs.Prelude.{◌≡◌, cond, List, ℕ, leb, length, Ok, Err}
use Rattle.std.proofs.lemmas.List.Edits.{sets}
use Rattle.answer.specs.declared.Refusal.{Refusal}
use Rattle.answer.specs.declared.Refusal.TheVariants.{Room}
use Rattle.reader.specs.Sheet.{Sheet}
use Rattle.sheet.specs.Judging.{with_sheet}
use Rattle.scan.specs.Scan.{outputs_of}
use Rattle.words.specs.Word.{to_bytes}
use Rattle.machine.specs.Run.{record_with}
use Rattle.machine.specs.declared.Record.{Record}
use Rattle.translate.specs.Translation.{translate}
use Rattle.translate.specs.declared.Translated.{Translated}
use Rattle.answer.specs.declared.Answered.{Answered}

-- the bytes of a sheet's code
unfoldable pub code_of : Sheet → List ℕ
code_of a = to_bytes (translate a)

-- the answer, and every byte of the buffer at exit
pub record Written : Type 0 where
  pub answer : Translated
  pub buffer : List ℕ

-- "a refused translation writes no byte"
abbrev pub unwritten : List ℕ → Refusal → Written
unwritten buffer why = record { answer = record { verdict = Err why; length = 0 }; buffer = buffer }

-- "Accepted translation writes the code from the buffer's start and no byte after it, and returns its length in bytes."
abbrev pub written_with : List ℕ → List ℕ → Written
written_with buffer bytes =
    record { answer = record { verdict = Ok tt; length = length bytes }; buffer = sets buffer 0 bytes }

-- 14 ROOM: "the code needs more bytes than the buffer has", "bytes needed"
unfoldable pub translate_into : List ℕ → List ℕ → Written
translate_into s buffer =
    with_sheet s (unwritten buffer) λ a.
    let written = written_with buffer (code_of a) in
    cond (leb (length (code_of a)) (length buffer)) written (unwritten buffer (Room (length (code_of a))))

-- "Cold start: state 0 active, its outputs, clock 0": flag 0 alone
unfoldable pub cold_record : Sheet → Record
cold_record a = record_with 1 (outputs_of a 0) 0

-- the answer of the runner's cold start
abbrev pub Cold : Type 0
Cold = Answered Record

-- "A cold start refused for its sheet returns a record of zeros."
abbrev pub no_record : Refusal → Cold
no_record why = record { verdict = Err why; «record» = record_with 0 0 0 }

unfoldable pub cold_run : List ℕ → Cold
cold_run s = with_sheet s no_record λ a. record { verdict = Ok tt; «record» = cold_record a }

-- THE CONTRACTS of `translate`, the answer and every byte of the buffer at exit, and of `cold_run`, the verdict and
-- the record
pub record Translates (s old : List ℕ) (r : Translated) (new : List ℕ) : Type 0 where
  pub answer : r ≡ (translate_into s old).answer
  pub buffer : new ≡ (translate_into s old).buffer

abbrev pub ColdRuns : List ℕ → Cold → Type 0
ColdRuns s r = r ≡ cold_run s
