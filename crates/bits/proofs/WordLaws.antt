-- Laws of words and their bits. Assumes nothing.
use mathlib.Core.Path.{◌≡◌, refl, ap, ◌∙◌}
use mathlib.Core.Logic.{◌≢◌}
use mathlib.Core.Bool.{Bool, true, false}
use mathlib.Core.List.{List, [], ◌∷◌}
use Prim.Native.Nat.{ℕ, zero, suc, ◌+◌, ◌*◌, ◌/◌, ◌%◌, ◌^◌, ◌<◌}
use native.Mathlib.Omega.{arith}
use native.Mathlib.Nat.{pow-succ', one-mul}
use borrow.Author.Tests.{eqb-true, eqb-false}
use lib.Dec.{eqb, eqb-zero-suc, eqb-suc-zero, eqb-suc-suc}
use lib.ListN.{length}
use lib.Pow.{shr-shr, shl_exact}
use Rattle.bits.specs.Word.{bit_no, get_bit, put_bit, word_of, bits_of}

-- a bit as a shift finds it
pub get-is : (w i : ℕ) → get_bit w i ≡ eqb (w / 2 ^ i % 2) 1
unfolding get_bit
get-is w zero = let e : w / 1 ≡ w = omega arith in rw e refl
get-is w (suc i) = let e : suc i ≡ 1 + i = omega arith in rw (e, get-is (w / 2) i, shr-shr w 1 i) refl

half_pow : (s : ℕ) → 2 ^ suc s / 2 ≡ 2 ^ s
half_pow s = rw pow-succ' (omega arith)

odd_pow : (s : ℕ) → 2 ^ suc s % 2 ≡ 0
odd_pow s = rw pow-succ' (omega arith)

pub bit-zero : (i : ℕ) → get_bit 0 i ≡ false
unfolding get_bit
bit-zero zero = refl
bit-zero (suc i) = bit-zero i

-- the word 2^s has bit s alone
pub bit-pow : (s i : ℕ) → get_bit (2 ^ s) i ≡ eqb i s
unfolding get_bit
bit-pow zero zero = refl
bit-pow zero (suc i) = rw eqb-suc-zero (bit-zero i)
bit-pow (suc s) zero = rw (odd_pow s, eqb-zero-suc s) refl
bit-pow (suc s) (suc i) = rw (half_pow s, eqb-suc-suc) (bit-pow s i)

pub clear-pow : (s : ℕ) → put_bit (2 ^ s) s false ≡ 0
unfolding put_bit
clear-pow zero = refl
clear-pow (suc s) = rw (half_pow s, odd_pow s, clear-pow s) refl

pub set-zero : (s : ℕ) → put_bit 0 s true ≡ 2 ^ s
unfolding put_bit
set-zero zero = refl
set-zero (suc s) = omega (arith, set-zero s, pow-succ' 2 s)

-- bits i, i + 1, .. made those of the list
unfoldable pub put_all : ℕ → ℕ → List Bool → ℕ
put_all w i [] = w
put_all w i (b ∷ bs) = put_all (put_bit w i b) (suc i) bs

put_up : (w i : ℕ) (bs : List Bool) → put_all w (suc i) bs ≡ w % 2 + 2 * put_all (w / 2) i bs
unfolding put_all put_bit
put_up w i [] = omega arith
put_up w i (b ∷ bs) =
    put_up (w % 2 + 2 * put_bit (w / 2) i b) (suc i) bs ∙ rw (low w (put_bit (w / 2) i b), high w (put_bit (w / 2) i b)) refl
  where
    low : (w y : ℕ) → (w % 2 + 2 * y) % 2 ≡ w % 2
    low w y = omega arith

    high : (w y : ℕ) → (w % 2 + 2 * y) / 2 ≡ y
    high w y = omega arith

bit_no-lt : (b : Bool) → bit_no b < 2
bit_no-lt true = omega arith
bit_no-lt false = omega arith

pub put-all : (w : ℕ) (bs : List Bool) → w < 2 ^ length bs → put_all w 0 bs ≡ word_of bs
unfolding put_all put_bit word_of
put-all w [] h = omega (arith, h)
put-all w (b ∷ bs) h =
    put_up (w / 2 * 2 + bit_no b) 0 bs ∙ step (bit_no b) (bit_no-lt b) (put-all (w / 2) bs (omega (arith, h, pow-succ' 2 (length bs))))
  where
    step : (v : ℕ) → v < 2 → put_all (w / 2) 0 bs ≡ word_of bs
        → (w / 2 * 2 + v) % 2 + 2 * put_all ((w / 2 * 2 + v) / 2) 0 bs ≡ v + 2 * word_of bs
    step v l e =
        let up : (w / 2 * 2 + v) / 2 ≡ w / 2 = omega arith in
        rw (up, e) (omega arith)

pub word_lt : (bs : List Bool) → word_of bs < 2 ^ length bs
unfolding word_of
word_lt [] = omega arith
word_lt (true ∷ bs) = omega (arith, word_lt bs, pow-succ' 2 (length bs))
word_lt (false ∷ bs) = omega (arith, word_lt bs, pow-succ' 2 (length bs))

-- a bit's weight, if it is there
abbrev pub weight : Bool → ℕ → ℕ
weight true p = p
weight false p = 0

double : (b : Bool) (i : ℕ) → weight b (2 ^ suc i) ≡ 2 * weight b (2 ^ i)
double true i = pow-succ' 2 i
double false i = refl

-- setting and clearing as sums
pub put-sum : (w i : ℕ) (b : Bool) → put_bit w i b + weight (get_bit w i) (2 ^ i) ≡ w + weight b (2 ^ i)
unfolding put_bit get_bit
put-sum w zero b = go (eqb (w % 2) 1) refl b
  where
    go : (g : Bool) → eqb (w % 2) 1 ≡ g → (b : Bool) → w / 2 * 2 + bit_no b + weight g 1 ≡ w + weight b 1
    go true e true = omega (arith, eqb-true (w % 2) 1 e)
    go true e false = omega (arith, eqb-true (w % 2) 1 e)
    go false e true = let n : w % 2 ≢ 1 = eqb-false (w % 2) 1 e in omega arith
    go false e false = let n : w % 2 ≢ 1 = eqb-false (w % 2) 1 e in omega arith
put-sum w (suc i) b = omega (arith, put-sum (w / 2) i b, double (get_bit (w / 2) i) i, double b i)

pub put-lt : (k w i : ℕ) (b : Bool) → w < 2 ^ k → i < k → put_bit w i b < 2 ^ k
unfolding put_bit
put-lt zero w i b h lt = absurd (omega arith)
put-lt (suc k) w zero true h lt = omega (arith, pow-succ' 2 k)
put-lt (suc k) w zero false h lt = omega (arith, pow-succ' 2 k)
put-lt (suc k) w (suc i) b h lt =
    let ih : put_bit (w / 2) i b < 2 ^ k = put-lt k (w / 2) i b (omega (arith, pow-succ' 2 k)) (omega arith) in
    omega (arith, pow-succ' 2 k)

-- the same where the bit is known
pub put-known : (w i : ℕ) (b g : Bool) → get_bit w i ≡ g → put_bit w i b + weight g (2 ^ i) ≡ w + weight b (2 ^ i)
put-known w i b g e = rw e at (put-sum w i b)

-- a weight as the code shifts it
pub one_shl : (i : ℕ) → i < 32 → 1 * 2 ^ i % 4294967296 ≡ 2 ^ i
one_shl i h = shl_exact 1 i 32 (omega arith) (omega arith) ∙ one-mul (2 ^ i)

-- a bit as a number
pub bit-no : (w i : ℕ) → bit_no (get_bit w i) ≡ w / 2 ^ i % 2
bit-no w i = rw (get-is w i) (go (eqb (w / 2 ^ i % 2) 1) refl)
  where
    go : (b : Bool) → eqb (w / 2 ^ i % 2) 1 ≡ b → bit_no b ≡ w / 2 ^ i % 2
    go true e = omega (arith, eqb-true (w / 2 ^ i % 2) 1 e)
    go false e = let n : w / 2 ^ i % 2 ≢ 1 = eqb-false (w / 2 ^ i % 2) 1 e in omega arith

-- w bits, and the word that they make
pub bits-length : (w v : ℕ) → length (bits_of w v) ≡ w
unfolding bits_of
bits-length zero v = refl
bits-length (suc w) v = ap suc (bits-length w v)

pub bits_below : (w v : ℕ) → word_of (bits_of w v) < 2 ^ w
bits_below w v = rw (bits-length w v) at (word_lt (bits_of w v))
