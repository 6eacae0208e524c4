-- The length rule: "If e is the words of a condition and t is 1 with a wait, else 0, the code has the sum of (6 + e + t) over transitions, plus
-- 2 + n(l + 2) words; at most 6,507."
use Rattle.std.specs.Prelude.{◌≡◌, cond, List, ℕ, ◌+◌, ◌*◌, ◌≤◌, leb, length, Ok, Err}
use Rattle.std.proofs.lemmas.List.Edits.{sets}
use Rattle.answer.specs.declared.Refusal.TheVariants.{Room}
use Rattle.bits.specs.Read.{ok}
use Rattle.condition.specs.Cond.{word_count}
use Rattle.reader.specs.Sheet.{Sheet, sum_over}
use Rattle.reader.specs.Reading.{read_sheet}
use Rattle.sheet.specs.Judging.{check_sheet}
use Rattle.translate.specs.Translation.{wait_count}
use Rattle.translate.specs.Writing.{Written, code_of, translate_into}

-- the words that a sheet's code has, told from the sheet alone
unfoldable pub words_of : Sheet → ℕ
words_of a = sum_over (λ t. 6 + word_count t.condition + wait_count t.wait) a.transitions + (2 + a.states * (a.outputs + 2))

-- "at most 6,507"
abbrev pub most_words : ℕ
most_words = 6507

-- what the translator answers with and without room: "14 ROOM: the code needs more bytes than the buffer has", "bytes needed"
abbrev pub fitting : List ℕ → ℕ → List ℕ → Written
fitting buffer bytes code =
    cond (leb bytes (length buffer)) (record { answer = record { verdict = Ok tt; length = bytes }; buffer = sets buffer 0 code })
    (record { answer = record { verdict = Err (Room bytes); length = 0 }; buffer = buffer })

abbrev pub LengthRule : Type 0
LengthRule =
    (s : List ℕ) → check_sheet s ≡ Ok tt
    → (a : Sheet) × (end : ℕ) × (read_sheet s ≡ ok a end)
    × (length (code_of a) ≡ 4 * words_of a)
    × (words_of a ≤ most_words)
    × ((buffer : List ℕ) → translate_into s buffer ≡ fitting buffer (4 * words_of a) (code_of a))

-- the bytes that s needs, by the rule
abbrev pub LengthOf : List ℕ → ℕ → Type 0
LengthOf s bytes = (a : Sheet) × (end : ℕ) × (read_sheet s ≡ ok a end) × (bytes ≡ 4 * words_of a)
