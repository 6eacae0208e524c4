-- Numbers that are the number of a word. Assumes nothing.
use mathlib.Core.Path.{◌≡◌, refl, sym, ap, ◌∙◌}
use mathlib.Core.Bool.{Bool, true, false}
use Prim.Native.Nat.{ℕ, ◌/◌, ◌%◌, ◌≤◌, ◌<◌}
use native.Mathlib.Omega.{arith}
use borrow.Author.Tests.{eq-eqb, eqb-true, not-false, leb-true, leb-false}
use lib.Dec.{leb}
use Rattle.words.specs.Word.{Word, END, code_no, operand, word_no, decode}
use Rattle.words.proofs.WordLaws.{known-end, decode_is}
use Rattle.faults.specs.Check.{unknown}

-- and so its number is that of a word
pub unknown-not : (i : Word) → operand i < 16777216 → unknown (word_no i) ≡ false
unfolding unknown
unknown-not i h = rw (decode_is i h, eq-eqb (word_no i) (word_no i) refl)

-- a number that is no word's is told; the others are the number of the word they are read as
pub named : (w : ℕ) → unknown w ≡ false → word_no (decode w) ≡ w
unfolding unknown
named w h = eqb-true (word_no (decode w)) w (not-false _ h)

-- its code is one of the fifteen
pub named-code : (w : ℕ) → unknown w ≡ false → w / 16777216 < 15
unfolding decode word_no code_no operand
named-code w h = go (leb 15 (w / 16777216)) refl
  where
    go : (b : Bool) → leb 15 (w / 16777216) ≡ b → w / 16777216 < 15
    go true e =
        let l : 15 ≤ w / 16777216 = leb-true 15 (w / 16777216) e in
        let z : decode w ≡ END = known-end (w / 16777216) (w % 16777216) l in
        let n : word_no END ≡ w = sym (ap word_no z) ∙ named w h in
        absurd (omega arith)
    go false e = leb-false 15 (w / 16777216) e
