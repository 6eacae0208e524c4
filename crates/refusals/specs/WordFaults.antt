-- "WORD faults", in the words of the paper.
use Rattle.std.specs.Prelude.{◌≡◌, ◌⊎◌, List, [], ◌∷◌, ℕ, ◌≤◌, ◌<◌}

-- a code is one of these
abbrev pub OneOf : ℕ → List ℕ → Type 0
OneOf c [] = ⊥
OneOf c (x ∷ xs) = (c ≡ x) ⊎ OneOf c xs

-- "0 END; 1 LDS flag; 2 LDI input; 3 NOT; 4 AND(; 5 OR(; 6 ); 7 ANDT ms; 8 R flag; 9 S flag; 10 RA output; 11 SA output; 12 JMPC word; 13 JMP
-- word; 14 TRES": of word p of n, which has this code and operand, with d parentheses open before it
pub data WordFault (n p d code operand : ℕ) : Type 0 where
  -- "an unknown code"
  no_code : 14 < code → WordFault n p d code operand
  -- "an operand not 0 where none is used"
  spare : OneOf code (0 ∷ 3 ∷ 4 ∷ 5 ∷ 6 ∷ 14 ∷ []) → 0 < operand → WordFault n p d code operand
  -- "a flag over 31, an input or output over 15"
  flag : OneOf code (1 ∷ 8 ∷ 9 ∷ []) → 31 < operand → WordFault n p d code operand
  variable : OneOf code (2 ∷ 10 ∷ 11 ∷ []) → 15 < operand → WordFault n p d code operand
  -- "a jump whose target isn't after its own word and inside the code"
  jump : OneOf code (12 ∷ 13 ∷ []) → (operand ≤ p) ⊎ (n ≤ operand) → WordFault n p d code operand
  -- ") with nothing open"
  closing : code ≡ 6 → d ≡ 0 → WordFault n p d code operand
  -- "a ninth open parenthesis"
  ninth : OneOf code (4 ∷ 5 ∷ []) → 8 ≤ d → WordFault n p d code operand
  -- "LDS, JMP, JMPC or END with one open"
  inside : OneOf code (1 ∷ 13 ∷ 12 ∷ 0 ∷ []) → 0 < d → WordFault n p d code operand
