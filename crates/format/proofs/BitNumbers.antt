-- Bits and the number that they are, most significant first. Assumes nothing.
use mathlib.Core.Path.{◌≡◌, refl, sym, ap, ◌∙◌, subst}
use mathlib.Core.List.{List, [], ◌∷◌}
use mathlib.Core.Bool.{Bool, true, false}
use Prim.Native.Nat.{ℕ, zero, suc, ◌+◌, ◌*◌, ◌/◌, ◌%◌, ◌^◌, ◌≤◌, ◌<◌}
use native.Mathlib.Omega.{arith}
use native.Mathlib.Nat.{pow-succ', mod-lt}
use lib.ListN.{length, replicate, length-replicate}
use lib.Dec.{eqb}
use lib.Pow.{high, split, pow_pos, shr_lt}
use Rattle.bits.specs.Word.{bit_no, get_bit, bits_of}
use Rattle.bits.proofs.WordLaws.{get-is}
use Rattle.format.specs.Writing.{num_of}

pub bit_is : (n : ℕ) → n < 2 → n ≡ bit_no (eqb n 1)
bit_is zero l = refl
bit_is (suc zero) l = refl
bit_is (suc (suc n)) l = absurd (omega arith)

pub num_of-lt : (w : ℕ) (xs : List Bool) → num_of w xs < 2 ^ w
unfolding num_of
num_of-lt zero xs = omega arith
num_of-lt (suc w) [] = pow_pos (suc w)
num_of-lt (suc w) (true ∷ bs) = omega (arith, num_of-lt w bs, pow-succ' 2 w)
num_of-lt (suc w) (false ∷ bs) = omega (arith, num_of-lt w bs, pow-succ' 2 w)

-- bits below 2^w do not see what stands above
get-low : (i w c r : ℕ) → i < w → get_bit (c * 2 ^ w + r) i ≡ get_bit r i
unfolding get_bit
get-low i zero c r l = absurd (omega arith)
get-low zero (suc w) c r l =
    let e : (c * 2 ^ suc w + r) % 2 ≡ r % 2 = rw pow-succ' (omega arith) in rw e
get-low (suc i) (suc w) c r l =
    let e : (c * 2 ^ suc w + r) / 2 ≡ c * 2 ^ w + r / 2 = rw pow-succ' (omega arith) in
    rw e (get-low i w c (r / 2) (omega arith))

bits-low : (i w c r : ℕ) → i ≤ w → bits_of i (c * 2 ^ w + r) ≡ bits_of i r
unfolding bits_of
bits-low zero w c r l = refl
bits-low (suc i) w c r l = rw (get-low i w c r l, bits-low i w c r (omega arith))

get-high : (w c r : ℕ) → r < 2 ^ w → get_bit (c * 2 ^ w + r) w ≡ eqb (c % 2) 1
get-high w c r l = get-is (c * 2 ^ w + r) w ∙ rw (high c w l)

bit-back : (b : Bool) → eqb (bit_no b % 2) 1 ≡ b
bit-back true = refl
bit-back false = refl

-- bits make a number, and the number has those bits
bits_back : (xs : List Bool) → bits_of (length xs) (num_of (length xs) xs) ≡ xs
unfolding bits_of num_of
bits_back [] = refl
bits_back (b ∷ bs) =
    let w = length bs in
    let n = num_of w bs in
    rw (get-high w (bit_no b) n (num_of-lt w bs), bits-low w w (bit_no b) n (omega arith), bit-back b, bits_back bs)

pub bits-num : (w : ℕ) (xs : List Bool) → length xs ≡ w → bits_of w (num_of w xs) ≡ xs
bits-num w xs e = rw e at (bits_back xs)

-- a number's highest bit, and what is below it
num-step : (w c r : ℕ) → c < 2 → r < 2 ^ w → num_of w (bits_of w r) ≡ r → num_of (suc w) (bits_of (suc w) (c * 2 ^ w + r)) ≡ c * 2 ^ w + r
unfolding bits_of num_of
num-step w c r l m ih =
    let top : bit_no (eqb (c % 2) 1) ≡ c = (let e : c % 2 ≡ c = omega arith in rw e (sym (bit_is c l))) in
    rw (get-high w c r m, bits-low w w c r (omega arith), top, ih)

-- a number below 2^w is that of its w bits
pub num-bits : (w v : ℕ) → v < 2 ^ w → num_of w (bits_of w v) ≡ v
unfolding bits_of num_of
num-bits zero v l = omega arith
num-bits (suc w) v l =
    let c : v / 2 ^ w < 2 = shr_lt 1 w (subst (λ (n : ℕ). v < 2 ^ n) (let e : suc w ≡ 1 + w = omega arith in e) l) in
    let r : v % 2 ^ w < 2 ^ w = mod-lt v (pow_pos w) in
    subst (λ (n : ℕ). num_of (suc w) (bits_of (suc w) n) ≡ n) (split v w) (num-step w (v / 2 ^ w) (v % 2 ^ w) c r (num-bits w (v % 2 ^ w) r))

-- zero bits
pub num_of-zeros : (w m : ℕ) → num_of w (replicate m false) ≡ 0
unfolding num_of
num_of-zeros zero m = refl
num_of-zeros (suc w) zero = refl
num_of-zeros (suc w) (suc m) = omega (arith, num_of-zeros w m)

pub bits-zero : (w : ℕ) → bits_of w 0 ≡ replicate w false
bits-zero w = ap (bits_of w) (sym (num_of-zeros w w)) ∙ bits-num w (replicate w false) (length-replicate w false)
