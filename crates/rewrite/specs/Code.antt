-- The code of a sheet.
use Rattle.std.specs.Prelude.{◌≡◌, ℕ, List, Ok, take}
use Rattle.translate.specs.Writing.{translate_into}

-- The bytes are what the translation of the sheet wrote into some buffer, and no more, and it accepted.
abbrev pub IsCodeOf : List ℕ → List ℕ → Type 0
IsCodeOf sheet bytes =
    (room : List ℕ)
    × ((translate_into sheet room).answer.verdict ≡ Ok tt)
    × (bytes ≡ take (translate_into sheet room).answer.length (translate_into sheet room).buffer)
