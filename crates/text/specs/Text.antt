-- The texts that the crate shows.
use Rattle.std.specs.Prelude.{ℕ, ◌+◌, ◌/◌, ◌%◌, ◌^◌, ◌==◌, zero, suc, List, [], ◌∷◌, ◌++◌, if◌then◌else◌}
use Rattle.std.specs.Char.{is_ascii_control}
use Rattle.std.specs.Fmt.{decimal}

-- A byte of a name as it is shown: a control character as a question mark.
abbrev pub shown : ℕ → ℕ
shown b = if is_ascii_control b then 63 else b

-- The first bits of a word, bit 0 first: each 0 or 1.
abbrev pub bits_text : ℕ → ℕ → List ℕ
bits_text word zero = []
bits_text word (suc n) = bits_text word n ++ (48 + word / 2 ^ n % 2) ∷ []

-- A number, a blank and its noun, with an s where the number is not 1.
abbrev pub count_text : ℕ → List ℕ → List ℕ
count_text number noun = decimal number ++ 32 ∷ noun ++ (if number == 1 then [] else (115 ∷ []))
