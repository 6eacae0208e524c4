-- Counting under the rules: n - 1 transitions at least go home, and no pair is named twice. Assumes nothing.
use mathlib.Core.Path.{◌≡◌, refl, sym, ap, ◌∙◌, subst, subst₂}
use mathlib.Core.List.{List, [], ◌∷◌}
use mathlib.Core.Bool.{Bool, true, false}
use Prim.Native.Nat.{ℕ, zero, suc, ◌+◌, ◌*◌, ◌-◌, ◌/◌, ◌≤◌, ◌<◌}
use native.Mathlib.Omega.{arith}
use native.Mathlib.Nat.{mul-le-mul_right, div-eq_of_lt-le}
use lib.ListN.{length, get_or}
use lib.Dec.{eqb}
use borrow.Author.Tests.{eq-eqb, eqb-true}
use Rattle.bits.specs.Word.{bit_no}
use Rattle.reader.specs.Sheet.{Transition, Sheet, count, transition_of, no_transition, sum_over}
use Rattle.rules.specs.Rules.{Rules}
use Rattle.rules.proofs.Pigeons.{count_below, count-le, pigeons}

-- the weights by place
abbrev sum_below : (ℕ → ℕ) → ℕ → ℕ
sum_below g zero = 0
sum_below g (suc n) = sum_below g n + g n

sum_first : (g : ℕ → ℕ) (n : ℕ) → sum_below g (suc n) ≡ g 0 + sum_below (λ i. g (suc i)) n
sum_first g zero = omega arith
sum_first g (suc n) = omega (arith, sum_first g n)

sum-at : (f : Transition → ℕ) (ts : List Transition) → sum_over f ts ≡ sum_below (λ i. f (get_or ts i no_transition)) (length ts)
sum-at f [] = refl
sum-at f (t ∷ ts) = omega (arith, sum-at f ts, sum_first (λ i. f (get_or (t ∷ ts) i no_transition)) (length ts))

-- weights of at most w, and at most w - d where the test is passed
sum-count : (g : ℕ → ℕ) (p : ℕ → Bool) (w d n : ℕ) → ((i : ℕ) → i < n → g i + bit_no (p i) * d ≤ w) → sum_below g n + count_below p n * d ≤ n * w
sum-count g p w d zero h = omega arith
sum-count g p w d (suc n) h = omega (arith, sum-count g p w d n (λ i l. h i (omega arith)), h n (omega arith))

-- two numbers below n as one number below n * n
key-lt : (n s d : ℕ) → s < n → d < n → s * n + d < n * n
key-lt n s d l m = omega (arith, mul-le-mul_right n l)

key-first : (n s d : ℕ) → d < n → (s * n + d) / n ≡ s
key-first n s d l = div-eq_of_lt-le n (omega arith) (omega arith)

key-same : (n s d u e : ℕ) → d < n → e < n → s * n + d ≡ u * n + e → (s ≡ u) × (d ≡ e)
key-same n s d u e l m h =
    let first : s ≡ u = sym (key-first n s d l) ∙ ap (λ (x : ℕ). x / n) h ∙ key-first n u e m in
    (first, omega (arith, ap (λ (x : ℕ). x * n) first))

-- m weights of at most w, c of them of at most h: n as well, if n is no more than c
shared : (sum k e h d : ℕ) → sum + k * d ≤ (k + e) * (h + d) → sum ≤ k * h + e * (h + d)
shared sum k e h d l = omega arith

share : (sum c n m h w : ℕ) → h ≤ w → n ≤ c → c ≤ m → sum + c * (w - h) ≤ m * w → sum ≤ n * h + (m - n) * w
share sum c n m h w l few many all =
    let p : m ≡ n + (m - n) = omega arith in
    let q : w ≡ h + (w - h) = omega arith in
    let less : sum + n * (w - h) ≤ m * w = omega (arith, mul-le-mul_right (w - h) few) in
    subst (λ (x : ℕ). sum ≤ n * h + (m - n) * x) (sym q)
    (shared sum n (m - n) h (w - h) (subst₂ (λ (x y : ℕ). sum + n * (w - h) ≤ x * y) p q less))

module _ (a : Sheet) (r : Rules a) where
  abbrev home : ℕ → Bool
  home i = eqb (transition_of a i).destination 0

  abbrev own : ℕ → Type 0
  own s = (i : ℕ) × (i < count a) × ((transition_of a i).source ≡ s) × ((transition_of a i).destination ≡ 0)

  -- by NO-HOME each state but 0 has a transition home of its own
  way : (s : ℕ) → s < a.states - 1 → own (suc s)
  way s l = r.home (suc s) (omega arith) (omega arith)

  homes : a.states - 1 ≤ count_below home (count a)
  homes =
      pigeons (a.states - 1) (count a) home (λ s l. (way s l).0) (λ s l. ((way s l).1, eq-eqb _ 0 (way s l).3))
      (λ s t l m lt e.
      let same : suc s ≡ suc t = sym (way s l).2 ∙ ap (λ (i : ℕ). (transition_of a i).source) e ∙ (way t m).2 in
      omega arith)

  pub homes-few : a.states - 1 ≤ count a
  homes-few = omega (arith, homes, count-le home (count a))

  -- by PAIR the keys source * n + destination are different, and all are below n * n
  abbrev key : ℕ → ℕ
  key i = (transition_of a i).source * a.states + (transition_of a i).destination

  keys : count a ≤ count_below (λ c. true) (a.states * a.states)
  keys =
      pigeons (count a) (a.states * a.states) (λ c. true) (λ i l. key i)
      (λ i l. (key-lt a.states _ _ (r.fields i l).source (r.fields i l).destination, refl))
      (λ i j l m lt e.
      let same = key-same a.states _ _ _ _ (r.fields i l).destination (r.fields j m).destination e in
      r.pair i j lt m same.0 same.1)

  pub pairs-few : count a ≤ a.states * a.states
  pairs-few = omega (arith, keys, count-le (λ c. true) (a.states * a.states))

  -- weights of at most h for a transition home and of at most w for any other
  pub weighed : (f : Transition → ℕ) (h w : ℕ) → h ≤ w → ((i : ℕ) → i < count a → (transition_of a i).destination ≡ 0 → f (transition_of a i) ≤ h)
      → ((i : ℕ) → i < count a → f (transition_of a i) ≤ w)
      → sum_over f a.transitions ≤ (a.states - 1) * h + (count a - (a.states - 1)) * w
  weighed f h w l low high =
      let each : (i : ℕ) → i < count a → f (transition_of a i) + bit_no (home i) * (w - h) ≤ w = λ i m. one i m (home i) refl in
      let all = sum-count (λ i. f (transition_of a i)) home w (w - h) (count a) each in
      subst (λ (x : ℕ). x ≤ (a.states - 1) * h + (count a - (a.states - 1)) * w) (sym (sum-at f a.transitions))
      (share _ (count_below home (count a)) (a.states - 1) (count a) h w l homes (count-le home (count a)) all)
    where
      one : (i : ℕ) → i < count a → (b : Bool) → home i ≡ b → f (transition_of a i) + bit_no b * (w - h) ≤ w
      one i m true e = omega (arith, low i m (eqb-true _ 0 e))
      one i m false e = omega (arith, high i m)
