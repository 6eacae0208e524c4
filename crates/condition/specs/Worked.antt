-- Conditions worked by computation: that of the sheet M, P6's and P10's, a tower of NOTs met at depth 9, and an AND with an OR inside.
use Rattle.std.specs.Prelude.{◌≡◌, refl, List, [], ◌∷◌, ℕ}
use Rattle.answer.specs.declared.Refusal.TheVariants.{Short, InputNo, Big}
use Rattle.bits.specs.Field.{field_at, num_at, bit_at}
use Rattle.bits.specs.Read.{ok, no}
use Rattle.condition.specs.Cond.{inp, neg, conj, disj}
use Rattle.condition.specs.Reading.{counted, cond_at, condition_at, operands_at, input_at}

unfoldable pub sheet_m : ℕ → List ℕ
sheet_m last = 0x08 ∷ 0x00 ∷ 0x08 ∷ 0x20 ∷ 0x00 ∷ 0x00 ∷ 0x00 ∷ 0x00 ∷ last ∷ []

pub worked :
    (condition_at (sheet_m 0x80) 1 63 ≡ ok (counted (neg (inp 0)) 2) 71)
    × (condition_at (sheet_m 0x82) 1 63 ≡ no (InputNo 67))
    × (condition_at (0x08 ∷ 0x00 ∷ 0x08 ∷ 0x20 ∷ 0x00 ∷ 0x00 ∷ 0x00 ∷ 0x00 ∷ []) 1 63 ≡ no (Short 63))
    × (condition_at (0x55 ∷ 0x55 ∷ 0x55 ∷ []) 1 0 ≡ no (Big 16))
    × (condition_at (0b10000000 ∷ 0b11000011 ∷ 0b00001000 ∷ []) 4 0 ≡ ok (counted (conj (inp 0) (disj (inp 3) (inp 2))) 5) 22)
unfolding sheet_m cond_at operands_at input_at field_at num_at bit_at
worked = (refl, refl, refl, refl, refl)
