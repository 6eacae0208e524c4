-- The words of P11, written in hex as the paper writes them: in bytes and back, and read.
use Rattle.std.specs.Prelude.{◌≡◌, refl, List, [], ◌∷◌, ◌++◌, map, ℕ}
use Rattle.words.specs.Word.{LDS, ANDP, LDI, NOT, PAR, R, S, JMPC, JMP, SA, RA, TRES, END, known, decode, bytes_of, words}

-- the bytes of words
unfoldable pub bytes : List ℕ → List ℕ
bytes [] = []
bytes (w ∷ ws) = bytes_of w ++ bytes ws

-- the sixteen words of P11
unfoldable pub code11 : List ℕ
code11 =
    0x01000001
    ∷ 0x04000000
    ∷ 0x02000000
    ∷ 0x03000000
    ∷ 0x06000000
    ∷ 0x08000001
    ∷ 0x09000000
    ∷ 0x0C000009
    ∷ 0x0D00000F
    ∷ 0x0B000000
    ∷ 0x0E000000
    ∷ 0x0D00000F
    ∷ 0x0A000000
    ∷ 0x0E000000
    ∷ 0x0D00000F
    ∷ 0x00000000
    ∷ []

pub eleven :
    (words (bytes code11) ≡ code11)
    × (map decode code11
    ≡ LDS 1
    ∷ ANDP
    ∷ LDI 0
    ∷ NOT
    ∷ PAR
    ∷ R 1
    ∷ S 0
    ∷ JMPC 9
    ∷ JMP 15
    ∷ SA 0
    ∷ TRES
    ∷ JMP 15
    ∷ RA 0
    ∷ TRES
    ∷ JMP 15
    ∷ END
    ∷ [])
unfolding bytes bytes_of code11 words decode known
eleven = (refl, refl)
