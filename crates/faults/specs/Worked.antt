-- Code refused for each reason, by computation. Words are written in hex, as the paper writes them.
use Rattle.std.specs.Prelude.{◌≡◌, refl, List, [], ◌∷◌, ◌++◌, ℕ, replicate, Err}
use Rattle.answer.specs.declared.Refusal.TheVariants as refuse
use Rattle.answer.specs.Number.{number_of, place_of}
use Rattle.words.specs.Worked.{bytes}
use Rattle.words.specs.Word.{code_no, operand, word_no, known, decode, bytes_of, words}
use Rattle.faults.specs.Check.{end_fault, opens, faulty, unknown, first_fault, depth_at, lands_open, first_landing, check_code}

-- the check's answer to words: the paper's number and place
unfoldable pub answer : List ℕ → List ℕ
answer ws = number_of (check_code (bytes ws)) ∷ place_of (check_code (bytes ws)) ∷ []

-- LDI 0; JMP 3; AND(; ); END: the jump lands with one open
unfoldable pub inside : List ℕ
inside = 0x02000000 ∷ 0x0D000003 ∷ 0x04000000 ∷ 0x06000000 ∷ 0x00000000 ∷ []

-- 15 CODE-END: empty; not a multiple of 4; the code byte of the last word is not 0
pub ends :
    (answer [] ≡ 15 ∷ 0 ∷ [])
    × (check_code (0 ∷ []) ≡ Err refuse.CodeEnd)
    × (check_code (14 ∷ 0 ∷ 0 ∷ 0 ∷ 0 ∷ []) ≡ Err refuse.CodeEnd)
    × (answer (0x0E000000 ∷ []) ≡ 15 ∷ 0 ∷ [])
    × (answer (0x0F000000 ∷ 0x0E000000 ∷ []) ≡ 15 ∷ 0 ∷ [])
unfolding bytes bytes_of answer words decode known word_no code_no operand end_fault opens faulty unknown first_fault depth_at lands_open first_landing
    check_code
ends = (refl, refl, refl, refl, refl)

-- 15 CODE-END: over 32,768 bytes
pub too_long : number_of (check_code (replicate 32772 0)) ≡ 15
unfolding end_fault check_code
too_long = refl

-- 16 WORD and 17 LANDING, by reason
pub faults :
    -- an unknown code; an operand not 0 where none is used, in END too
    (answer (0x0E000000 ∷ 0x0F000000 ∷ 0x00000000 ∷ []) ≡ 16 ∷ 1 ∷ [])
    × (answer (0x03000001 ∷ 0x00000000 ∷ []) ≡ 16 ∷ 0 ∷ [])
    × (answer (0x0E000000 ∷ 0x00000001 ∷ []) ≡ 16 ∷ 1 ∷ [])
    -- flag 32, input 16, output 16; and flag 31, input 15, output 15
    × (answer (0x08000020 ∷ 0x00000000 ∷ []) ≡ 16 ∷ 0 ∷ [])
    × (answer (0x02000010 ∷ 0x00000000 ∷ []) ≡ 16 ∷ 0 ∷ [])
    × (answer (0x0B000010 ∷ 0x00000000 ∷ []) ≡ 16 ∷ 0 ∷ [])
    × (answer (0x0900001F ∷ 0x0200000F ∷ 0x0A00000F ∷ 0x00000000 ∷ []) ≡ 0 ∷ 0 ∷ [])
    -- a jump to its own word, to an earlier one, past the code; and to the last word
    × (answer (0x0D000000 ∷ 0x00000000 ∷ []) ≡ 16 ∷ 0 ∷ [])
    × (answer (0x0E000000 ∷ 0x0C000000 ∷ 0x00000000 ∷ []) ≡ 16 ∷ 1 ∷ [])
    × (answer (0x0D000002 ∷ 0x00000000 ∷ []) ≡ 16 ∷ 0 ∷ [])
    × (answer (0x0D000001 ∷ 0x00000000 ∷ []) ≡ 0 ∷ 0 ∷ [])
    -- ) with nothing open; LDS, JMP and END with one open
    × (answer (0x06000000 ∷ 0x00000000 ∷ []) ≡ 16 ∷ 0 ∷ [])
    × (answer (0x04000000 ∷ 0x01000000 ∷ 0x06000000 ∷ 0x00000000 ∷ []) ≡ 16 ∷ 1 ∷ [])
    × (answer (0x05000000 ∷ 0x0D000003 ∷ 0x06000000 ∷ 0x00000000 ∷ []) ≡ 16 ∷ 1 ∷ [])
    × (answer (0x04000000 ∷ 0x00000000 ∷ []) ≡ 16 ∷ 1 ∷ [])
    -- a landing inside a parenthesis; a faulty word is told before it
    × (answer inside ≡ 17 ∷ 1 ∷ [])
    × (answer (0x0D000002 ∷ 0x04000000 ∷ 0x06000000 ∷ 0x0F000000 ∷ 0x00000000 ∷ []) ≡ 16 ∷ 3 ∷ [])
unfolding bytes bytes_of answer inside words decode known word_no code_no operand end_fault opens faulty unknown first_fault depth_at lands_open
    first_landing check_code
faults = (refl, refl, refl, refl, refl, refl, refl, refl, refl, refl, refl, refl, refl, refl, refl, refl, refl)

-- eight open parentheses, and a ninth
unfoldable pub eight : List ℕ
eight = replicate 8 0x04000000 ++ replicate 8 0x06000000 ++ 0x00000000 ∷ []

pub deep : (answer eight ≡ 0 ∷ 0 ∷ []) × (answer (replicate 8 0x05000000 ++ eight) ≡ 16 ∷ 8 ∷ [])
unfolding bytes bytes_of answer eight words decode known word_no code_no operand end_fault opens faulty unknown first_fault depth_at lands_open
    first_landing check_code
deep = (refl, refl)
