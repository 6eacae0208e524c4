-- "A word is four bytes, most significant first: 8 bits of code, 24 of operand."
use Rattle.std.specs.Prelude.{ℕ, ◌+◌, ◌*◌, ◌/◌, ◌%◌, List, [], ◌∷◌, ◌++◌, get_or}

-- "0 END; 1 LDS flag; 2 LDI input; 3 NOT; 4 AND(; 5 OR(; 6 ); 7 ANDT ms; 8 R flag; 9 S flag; 10 RA output; 11 SA output; 12 JMPC word;
-- 13 JMP word; 14 TRES."
pub data Word : Type 0 where
  END : Word
  LDS LDI : ℕ → Word
  NOT ANDP ORP PAR : Word
  ANDT R S RA SA JMPC JMP : ℕ → Word
  TRES : Word

-- "8 bits of code"
unfoldable pub code_no : Word → ℕ
code_no END = 0
code_no (LDS flag) = 1
code_no (LDI input) = 2
code_no NOT = 3
code_no ANDP = 4
code_no ORP = 5
code_no PAR = 6
code_no (ANDT ms) = 7
code_no (R flag) = 8
code_no (S flag) = 9
code_no (RA output) = 10
code_no (SA output) = 11
code_no (JMPC word) = 12
code_no (JMP word) = 13
code_no TRES = 14

-- "24 of operand": 0 where none is used
unfoldable pub operand : Word → ℕ
operand END = 0
operand (LDS flag) = flag
operand (LDI input) = input
operand NOT = 0
operand ANDP = 0
operand ORP = 0
operand PAR = 0
operand (ANDT ms) = ms
operand (R flag) = flag
operand (S flag) = flag
operand (RA output) = output
operand (SA output) = output
operand (JMPC word) = word
operand (JMP word) = word
operand TRES = 0

-- a word as a number: its code above its operand
unfoldable pub word_no : Word → ℕ
word_no i = code_no i * 16777216 + operand i

-- the word of a code and an operand; an unknown code is read as END, and the check tells it by its number
unfoldable pub known : ℕ → ℕ → Word
known c o = get_or (END ∷ LDS o ∷ LDI o ∷ NOT ∷ ANDP ∷ ORP ∷ PAR ∷ ANDT o ∷ R o ∷ S o ∷ RA o ∷ SA o ∷ JMPC o ∷ JMP o ∷ TRES ∷ []) c END

-- the word that a number is read as
unfoldable pub decode : ℕ → Word
decode w = known (w / 16777216) (w % 16777216)

-- "four bytes, most significant first"
unfoldable pub bytes_of : ℕ → List ℕ
bytes_of w = w / 16777216 ∷ w / 65536 % 256 ∷ w / 256 % 256 ∷ w % 256 ∷ []

-- the bytes of words
unfoldable pub to_bytes : List Word → List ℕ
to_bytes [] = []
to_bytes (i ∷ is) = bytes_of (word_no i) ++ to_bytes is

-- the words of bytes as numbers, four bytes at a time; a rest of less than four is no word
unfoldable pub words : List ℕ → List ℕ
words [] = []
words (a ∷ []) = []
words (a ∷ b ∷ []) = []
words (a ∷ b ∷ c ∷ []) = []
words (a ∷ b ∷ c ∷ d ∷ s) = (a * 16777216 + b * 65536 + c * 256 + d) ∷ words s

-- word `at` as a number
abbrev pub word_at : List ℕ → ℕ → ℕ
word_at s at = get_or (words s) at 0
