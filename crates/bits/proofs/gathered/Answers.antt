-- `bits::gathered` meets its contract. Assumes nothing.
use mathlib.Core.Path.{◌≡◌, refl, ◌∙◌}
use mathlib.Core.List.{List}
use mathlib.Core.Logic.{◌⊎◌, inl, inr, ⊎_elim}
use Prim.Native.Nat.{ℕ, ◌+◌, ◌*◌, ◌-◌, ◌/◌, ◌^◌, ◌≤◌, ◌<◌}
use native.Mathlib.Omega.{arith}
use native.Mathlib.Nat.{eq-or-lt_of_le}
use lib.ListN.{get_or}
use Rattle.bits.specs.Field.{num_at}
use Rattle.bits.proofs.FieldLaws.{num-byte, num-bytes, num-tail}
use Rattle.bits.proofs.gathered.Goals as goal

-- a field of more than 8 (k - 1) + 1 and at most 8 k + 1 bits begins in the first of the last k bytes, or in the one before
begins : (at w stop k : ℕ) → stop ≡ (at + w + 7) / 8 → 8 * k ≤ w + 7 → w ≤ 8 * k + 1 → k ≤ 3 → (at / 8 ≡ stop - k) ⊎ (at / 8 + 1 ≡ stop - k)
begins at w stop k e l h few =
    let low : at / 8 ≤ stop - k = omega arith in
    ⊎_elim inl (λ (q : at / 8 < stop - k). inr (omega arith)) (eq-or-lt_of_le low)

-- the last one, two and three bytes
module _ (s : List ℕ) (stop : ℕ) where
  one_byte : 1 ≤ stop → get_or s (stop - 1) 0 < 256 → num_at s ((stop - 1) * 8) (1 * 8) ≡ get_or s (stop - 1) 0
  one_byte l x = num-byte s (stop - 1) x

  two_bytes : 2 ≤ stop → get_or s (stop - 1) 0 < 256 → get_or s (stop - 2) 0 < 256
      → num_at s ((stop - 2) * 8) (2 * 8) ≡ get_or s (stop - 2) 0 * 256 + get_or s (stop - 1) 0
  two_bytes l x y =
      let e : stop - 2 + 1 ≡ stop - 1 = omega arith in
      num-bytes s (stop - 2) 1 (rw e x) ∙ rw (num-byte s (stop - 2) y, e) refl

  three-bytes : 3 ≤ stop → get_or s (stop - 1) 0 < 256 → get_or s (stop - 2) 0 < 256 → get_or s (stop - 3) 0 < 256
      → num_at s ((stop - 3) * 8) (3 * 8) ≡ (get_or s (stop - 3) 0 * 256 + get_or s (stop - 2) 0) * 256 + get_or s (stop - 1) 0
  three-bytes l x y z =
      let e : stop - 3 + 1 ≡ stop - 2 = omega arith in
      let f : stop - 3 + 2 ≡ stop - 1 = omega arith in
      let two : num_at s ((stop - 3) * 8) (2 * 8) ≡ get_or s (stop - 3) 0 * 256 + get_or s (stop - 2) 0 =
      num-bytes s (stop - 3) 1 (rw e y) ∙ rw (num-byte s (stop - 3) z, e) refl in
      num-bytes s (stop - 3) 2 (rw f x) ∙ rw (two, f) refl

pub returns-then-width-le9 : goal.returns-then-width-le9
returns-then-width-le9 c =
    let a = c.args in
    let s = a.s.now in
    let tail = num-tail s a.at a.width a.stop 1 _ (omega arith) refl (omega arith) (omega arith) (begins a.at a.width a.stop 1 (omega arith) (omega arith) (omega arith) (omega arith)) (omega (arith, c.type_inv.s (a.at / 8))) in
    rw (c.from-first.ensures, c.from-last.ensures) (rw (one_byte s a.stop (omega arith) (omega (arith, c.type_inv.s (a.stop - 1)))) at tail)

pub returns-then-width-le17 : goal.returns-then-width-le17
returns-then-width-le17 c =
    let a = c.args in
    let s = a.s.now in
    let tail = num-tail s a.at a.width a.stop 2 _ (omega arith) refl (omega arith) (omega arith) (begins a.at a.width a.stop 2 (omega arith) (omega arith) (omega arith) (omega arith)) (omega (arith, c.type_inv.s (a.at / 8))) in
    let two = two_bytes s a.stop (omega arith) (omega (arith, c.type_inv.s (a.stop - 1))) (omega (arith, c.type_inv.s (a.stop - 2))) in
    let sum : get_or s (a.at / 8) 0 * 2 ^ (2 * 8) + num_at s ((a.stop - 2) * 8) (2 * 8) ≡ (get_or s (a.at / 8) 0 * 256 + get_or s (a.stop - 2) 0) * 256 + get_or s (a.stop - 1) 0 = omega (arith, two) in
    rw (c.from-first.ensures, c.from-second.ensures, c.from-last.ensures) (rw sum at tail)

pub returns : goal.returns
returns c =
    let a = c.args in
    let s = a.s.now in
    let tail = num-tail s a.at a.width a.stop 3 _ (omega arith) refl (omega arith) (omega arith) (begins a.at a.width a.stop 3 (omega arith) (omega arith) (omega arith) (omega arith)) (omega (arith, c.type_inv.s (a.at / 8))) in
    let three = three-bytes s a.stop (omega arith) (omega (arith, c.type_inv.s (a.stop - 1))) (omega (arith, c.type_inv.s (a.stop - 2))) (omega (arith, c.type_inv.s (a.stop - 3))) in
    let sum : get_or s (a.at / 8) 0 * 2 ^ (3 * 8) + num_at s ((a.stop - 3) * 8) (3 * 8) ≡ ((get_or s (a.at / 8) 0 * 256 + get_or s (a.stop - 3) 0) * 256 + get_or s (a.stop - 2) 0) * 256 + get_or s (a.stop - 1) 0 = omega (arith, three) in
    rw (c.from-first.ensures, c.from-third.ensures, c.from-second.ensures, c.from-last.ensures) (rw sum at tail)
