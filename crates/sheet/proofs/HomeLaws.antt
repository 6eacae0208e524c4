-- Laws of the word whose bit s says that state s has a transition to 0. Assumes nothing.
use mathlib.Core.Logic.{◌≢◌}
use mathlib.Core.Path.{◌≡◌, refl, sym, ◌∙◌}
use mathlib.Core.Bool.{true, false, ◌||◌, and-true, and-false, or-true, or-false}
use mathlib.Core.List.{List}
use Prim.Native.Nat.{ℕ, zero, suc, ◌+◌, ◌*◌, ◌/◌, ◌%◌, ◌≤◌, ◌<◌}
use native.Mathlib.Numerals.{add-one}
use native.Mathlib.Omega.{arith}
use lib.ListN.{length}
use lib.Dec.{ltb, eqb, eqb-zero-suc, eqb-suc-zero, eqb-suc-suc}
use borrow.Author.Tests.{lt-ltb, ne_eqb, eq-eqb}
use Rattle.answer.specs.Lowest.{any_below, first_below}
use Rattle.answer.proofs.Laws.{first-same}
use Rattle.bits.specs.Word.{get_bit, put_bit}
use Rattle.bits.proofs.WordLaws.{bit-zero}
use Rattle.reader.specs.inside.Packing.{unpack, arrow_at}
use Rattle.sheet.specs.inside.Arrows.{home_arrow, has_home, Homes, lacks_home_arrow, lacks_bit}

-- a source is one of 32
pub source_fits : (w : ℕ) → (unpack w).source < 32
unfolding unpack
source_fits w = omega arith

-- setting bit i sets no other
bit-set : (w i j : ℕ) → get_bit (put_bit w i true) j ≡ get_bit w j || eqb i j
unfolding get_bit put_bit
bit-set w zero zero = eq-eqb ((w / 2 * 2 + 1) % 2) 1 (omega arith) ∙ sym (or-true (eqb (w % 2) 1))
bit-set w zero (suc j) = let e : (w / 2 * 2 + 1) / 2 ≡ w / 2 = omega arith in rw (e, eqb-zero-suc j) (sym (or-false (get_bit (w / 2) j)))
bit-set w (suc i) zero =
    let e : (w % 2 + 2 * put_bit (w / 2) i true) % 2 ≡ w % 2 = omega arith in
    rw (e, eqb-suc-zero) (sym (or-false (eqb (w % 2) 1)))
bit-set w (suc i) (suc j) =
    let e : (w % 2 + 2 * put_bit (w / 2) i true) / 2 ≡ put_bit (w / 2) i true = omega arith in
    rw (e, eqb-suc-suc) (bit-set (w / 2) i j)

module _ (arrows : List ℕ) where
  pub homes-start : Homes arrows 0 0
  unfolding has_home any_below
  homes-start s l = bit-zero s

  more : (i s : ℕ) → has_home arrows (i + 1) s ≡ has_home arrows i s || home_arrow s (arrow_at arrows i)
  unfolding has_home any_below
  more i s = rw add-one

  -- a transition to 0 sets the bit of its source
  pub homes_set : (i w : ℕ) → Homes arrows i w → (arrow_at arrows i).destination ≡ 0 → Homes arrows (i + 1) (put_bit w (arrow_at arrows i).source true)
  homes_set i w h e s l =
      let t = arrow_at arrows i in
      rw (bit-set w t.source s, h s l, more i s, eq-eqb t.destination 0 e, and-true (eqb t.source s))

  -- another one changes nothing
  pub homes-keep : (i w : ℕ) → Homes arrows i w → (arrow_at arrows i).destination ≢ 0 → Homes arrows (i + 1) w
  homes-keep i w h e s l =
      let t = arrow_at arrows i in
      rw (more i s, ne_eqb t.destination 0 e, and-false (eqb t.source s), h s l) (sym (or-false (has_home arrows i s)))

  -- so the search goes by the word
  pub by_word : (word n : ℕ) → Homes arrows (length arrows) word → n ≤ 32 → first_below (lacks_bit word) n ≡ first_below (lacks_home_arrow arrows) n
  by_word word n h l = first-same (lacks_bit word) (lacks_home_arrow arrows) n λ s b. rw (h s (omega arith))

-- from state 1 on the bit decides
pub bit-lacks : (word s : ℕ) → 1 ≤ s → get_bit word s ≡ false → lacks_bit word s ≡ true
bit-lacks word s l e = rw (lt-ltb 0 s l, e)

pub bit-has : (word s : ℕ) → (1 ≤ s → get_bit word s ≡ true) → lacks_bit word s ≡ false
bit-has word zero h = refl
bit-has word (suc s) h = rw (h (omega arith)) (and-false (ltb 0 (suc s)))
