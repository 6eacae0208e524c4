-- Laws of a state's outputs: output 0 in the list of them and in their word. Assumes nothing.
use mathlib.Core.Path.{◌≡◌, refl, sym, ap, ◌∙◌}
use mathlib.Core.Bool.{Bool, true, false, not, beq}
use mathlib.Core.List.{List, [], ◌∷◌}
use Prim.Native.Nat.{ℕ, ◌+◌, ◌*◌, ◌%◌}
use native.Mathlib.Omega.{arith}
use lib.ListN.{get_or}
use lib.Dec.{eqb}
use Rattle.bits.specs.Word.{get_bit, word_of}
use Rattle.sheet.specs.Judging.{differs}
use Rattle.sheet.specs.inside.Arrows.{activity_row}

-- bit 0 of the word is output 0
pub bit-first : (row : List Bool) → get_bit (word_of row) 0 ≡ get_or row 0 false
unfolding get_bit word_of
bit-first [] = refl
bit-first (true ∷ bs) = let e : (1 + 2 * word_of bs) % 2 ≡ 1 = omega arith in rw e
bit-first (false ∷ bs) = let e : (0 + 2 * word_of bs) % 2 ≡ 0 = omega arith in rw e

differs-is : (a b : Bool) → differs a b ≡ not (beq a b)
differs-is true true = refl
differs-is true false = refl
differs-is false true = refl
differs-is false false = refl

-- the code's test is the rule's
pub activity-is : (rows : List ℕ) (s : ℕ) (active : Bool) → active ≡ get_bit (get_or rows s 0) 0 → activity_row rows s ≡ not (beq active (eqb s 0))
activity-is rows s active e = ap (λ b. differs b (eqb s 0)) (sym e) ∙ differs-is active (eqb s 0)
