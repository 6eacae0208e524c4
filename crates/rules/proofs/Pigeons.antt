-- Counting the numbers that pass a test: different numbers are counted apart. Assumes nothing.
use mathlib.Core.Path.{◌≡◌, sym}
use mathlib.Core.Logic.{⊎_elim}
use mathlib.Core.Bool.{Bool, true, false, not, ◌&&◌}
use Prim.Native.Nat.{ℕ, zero, suc, ◌+◌, ◌≤◌, ◌<◌}
use native.Mathlib.Omega.{arith}
use native.Mathlib.Nat.{eq-or-lt_of_le, le_of_suc-le-suc}
use lib.Dec.{eqb}
use borrow.Author.Tests.{eq-eqb, ne_eqb}
use Rattle.bits.specs.Word.{bit_no}

-- how many numbers below n pass the test
abbrev pub count_below : (ℕ → Bool) → ℕ → ℕ
count_below p zero = 0
count_below p (suc n) = count_below p n + bit_no (p n)

bit_le : (b : Bool) → bit_no b ≤ 1
bit_le true = omega arith
bit_le false = omega arith

pub count-le : (p : ℕ → Bool) (n : ℕ) → count_below p n ≤ n
count-le p zero = omega arith
count-le p (suc n) = omega (arith, count-le p n, bit_le (p n))

-- the test without one number
abbrev besides : (ℕ → Bool) → ℕ → ℕ → Bool
besides p c i = p i && not (eqb i c)

fewer : (b c : Bool) → bit_no (b && c) ≤ bit_no b
fewer true c = bit_le c
fewer false c = omega arith

besides-le : (p : ℕ → Bool) (c n : ℕ) → count_below (besides p c) n ≤ count_below p n
besides-le p c zero = omega arith
besides-le p c (suc n) = omega (arith, besides-le p c n, fewer (p n) (not (eqb n c)))

besides-one : (p : ℕ → Bool) (c n : ℕ) → c < n → p c ≡ true → count_below (besides p c) n + 1 ≤ count_below p n
besides-one p c zero l e = absurd (omega arith)
besides-one p c (suc n) l e =
    ⊎_elim last (λ (q : c < n). omega (arith, besides-one p c n q e, fewer (p n) (not (eqb n c)))) (eq-or-lt_of_le (le_of_suc-le-suc l))
  where
    last : c ≡ n → count_below (besides p c) (suc n) + 1 ≤ count_below p (suc n)
    last q =
        let here : p n ≡ true = rw q at e in
        rw (here, eq-eqb n c (sym q)) (omega (arith, besides-le p c n))

last : (k : ℕ) → k < suc k
last k = omega arith

up : (k i : ℕ) → i < k → i < suc k
up k i l = omega arith

-- k different numbers below n that pass the test: it is passed at least k times
pub pigeons : (k n : ℕ) (p : ℕ → Bool) (f : (i : ℕ) → i < k → ℕ) → ((i : ℕ) (l : i < k) → (f i l < n) × (p (f i l) ≡ true))
    → ((i j : ℕ) (l : i < k) (m : j < k) → i < j → f i l ≡ f j m → ⊥) → k ≤ count_below p n
pigeons zero n p f into apart = omega arith
pigeons (suc k) n p f into apart =
    let c = f k (last k) in
    let rest : k ≤ count_below (besides p c) n = pigeons k n (besides p c) (λ i l. f i (up k i l)) others (λ i j l m. apart i j (up k i l) (up k j m)) in
    omega (arith, besides-one p c n (into k (last k)).0 (into k (last k)).1)
  where
    others : (i : ℕ) (l : i < k) → (f i (up k i l) < n) × (besides p (f k (last k)) (f i (up k i l)) ≡ true)
    others i l = ((into i (up k i l)).0, rw ((into i (up k i l)).1, ne_eqb _ _ (apart i k (up k i l) (last k) l)))
