-- Words as numbers: "input i has weight 2^i", and so flags and outputs.
use Rattle.std.specs.Prelude.{Bool, true, false, List, [], ◌∷◌, ℕ, zero, suc, ◌+◌, ◌*◌, ◌/◌, ◌%◌, eqb}

abbrev pub bit_no : Bool → ℕ
bit_no true = 1
bit_no false = 0

-- bit i of w
unfoldable pub get_bit : ℕ → ℕ → Bool
get_bit w zero = eqb (w % 2) 1
get_bit w (suc i) = get_bit (w / 2) i

-- w with bit i made b
unfoldable pub put_bit : ℕ → ℕ → Bool → ℕ
put_bit w zero b = w / 2 * 2 + bit_no b
put_bit w (suc i) b = w % 2 + 2 * put_bit (w / 2) i b

-- the word whose bit i is element i of the list
unfoldable pub word_of : List Bool → ℕ
word_of [] = 0
word_of (b ∷ bs) = bit_no b + 2 * word_of bs

-- the w bits of a number, most significant first
unfoldable pub bits_of : ℕ → ℕ → List Bool
bits_of zero v = []
bits_of (suc w) v = get_bit v w ∷ bits_of w v
