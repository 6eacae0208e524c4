-- The bytes of a sheet: its fields one behind the other, and zero bits up to the byte.
use Rattle.std.specs.Prelude.{ℕ, zero, suc, ◌+◌, ◌*◌, ◌-◌, ◌/◌, ◌^◌, ◌<◌, List, [], ◌∷◌, ◌++◌, Bool, length, get_or, drop}
use Rattle.bits.specs.Word.{bit_no, bits_of}
use Rattle.condition.specs.Cond.{cond_bits}
use Rattle.reader.specs.Sheet.{Transition, Sheet, count}

-- states n less 1 (5), inputs k less 1 (4), outputs l less 1 (4), transitions m less 1 (7)
unfoldable pub header_bits : Sheet → List Bool
header_bits a = bits_of 5 (a.states - 1) ++ bits_of 4 (a.inputs - 1) ++ bits_of 4 (a.outputs - 1) ++ bits_of 7 (count a - 1)

unfoldable pub rows_bits : List (List Bool) → List Bool
rows_bits [] = []
rows_bits (row ∷ rows) = row ++ rows_bits rows

-- source (5), destination (5), priority (7), wait (24), then its condition
unfoldable pub transition_bits : Transition → List Bool
transition_bits t =
    bits_of 5 t.source ++ bits_of 5 t.destination ++ bits_of 7 t.priority ++ bits_of 24 t.wait ++ cond_bits t.condition

unfoldable pub transitions_bits : List Transition → List Bool
transitions_bits [] = []
transitions_bits (t ∷ ts) = transition_bits t ++ transitions_bits ts

-- the number that the first w bits are, most significant first; bits past the end count as 0
unfoldable pub num_of : ℕ → List Bool → ℕ
num_of zero bs = 0
num_of (suc w) [] = 0
num_of (suc w) (b ∷ bs) = bit_no b * 2 ^ w + num_of w bs

-- n bytes, eight bits to a byte
unfoldable pub n_bytes : ℕ → List Bool → List ℕ
n_bytes zero bs = []
n_bytes (suc n) bs = num_of 8 bs ∷ n_bytes n (drop 8 bs)

-- "zero bits up to the byte, and nothing more"
unfoldable pub in_bytes : List Bool → List ℕ
in_bytes bs = n_bytes ((length bs + 7) / 8) bs

unfoldable pub sheet_bits : Sheet → List Bool
sheet_bits a = header_bits a ++ rows_bits a.rows ++ transitions_bits a.transitions

unfoldable pub sheet_of : Sheet → List ℕ
sheet_of a = in_bytes (sheet_bits a)

-- s is a byte string
abbrev pub Bytes : List ℕ → Type 0
Bytes s = (i : ℕ) → i < length s → get_or s i 0 < 256
