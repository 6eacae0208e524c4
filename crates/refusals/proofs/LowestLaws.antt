-- "the lowest number first, and within it the lowest place": one rule put in front of the later ones.
use Rattle.std.specs.Prelude.{Ok, Err, Some, None}
use mathlib.Core.Path.{◌≡◌, refl}
use mathlib.Core.Logic.{◌⊎◌, inl, inr, ◌≢◌}
use mathlib.Core.Bool.{Bool, true, false, ◌||◌}
use Prim.Native.Nat.{ℕ, zero, suc, ◌≤◌, ◌<◌}
use native.Mathlib.Omega.{arith}
use borrow.Author.Tests.{eqb-true, eqb-false, ltb-true, ltb-false}
use lib.Dec.{eqb, ltb}
use Rattle.answer.specs.declared.Refusal.{Refusal}
use Rattle.answer.specs.Checked.{Checked}
use Rattle.std.specs.declared.option.Option.{Option}
use Rattle.answer.specs.Lowest.{any_below, or_at, first_below, refuse_at}
use Rattle.answer.specs.Number.{number, place}
use Rattle.refusals.specs.Refusals.{Lowest}

pub true-false : {b : Bool} → b ≡ true → b ≡ false → ⊥
true-false e f = let z : ◌≡◌ {A = ℕ} 0 1 = cc in omega arith

-- the lowest of n places where a test holds, or none
abbrev pub FirstOf : (ℕ → Bool) → ℕ → Option ℕ → Type 0
FirstOf test n (Some i) = (i < n) × (test i ≡ true) × ((j : ℕ) → j < i → test j ≡ false)
FirstOf test n None = (j : ℕ) → j < n → test j ≡ false

pub first_of : (test : ℕ → Bool) (n : ℕ) → FirstOf test n (first_below test n)
unfolding first_below
first_of test zero = λ j l. absurd (omega arith)
first_of test (suc n) = go (first_below test n) (first_of test n)
  where
    go : (f : Option ℕ) → FirstOf test n f → FirstOf test (suc n) (or_at f (test n) n)
    go (Some i) h = (omega (arith, h.0), h.1, h.2)
    go None h = here (test n) refl
      where
        here : (b : Bool) → test n ≡ b → FirstOf test (suc n) (or_at None b n)
        here true e = (omega arith, e, h)
        here false e = each
          where
            each : (j : ℕ) → j < suc n → test j ≡ false
            each j l = pick (ltb j n) refl
              where
                pick : (b : Bool) → ltb j n ≡ b → test j ≡ false
                pick true q = h j (ltb-true j n q)
                pick false q = let same : j ≡ n = omega (arith, ltb-false j n q) in rw same e

-- some place where it holds
pub any_of : (test : ℕ → Bool) (n : ℕ) → any_below test n ≡ true → (j : ℕ) × (j < n) × (test j ≡ true)
unfolding any_below
any_of test zero e = absurd (let z : ◌≡◌ {A = ℕ} 0 1 = cc in omega arith)
any_of test (suc n) e = go (any_below test n) refl e (any_of test n)
  where
    go : (b : Bool) → any_below test n ≡ b → b || test n ≡ true → (any_below test n ≡ true → (j : ℕ) × (j < n) × (test j ≡ true))
        → (j : ℕ) × (j < suc n) × (test j ≡ true)
    go true f e ih = let h = ih f in (h.0, omega (arith, h.1), h.2)
    go false f e ih = (n, omega arith, e)

-- the faults from number m on
abbrev pub From : (ℕ → ℕ → Type 0) → ℕ → ℕ → ℕ → Type 0
From Fault m n p = (m ≤ n) × Fault n p

module _ (Fault : ℕ → ℕ → Type 0) where
  -- past the last number nothing is at fault
  pub lowest-end : (m : ℕ) → ((n p : ℕ) → m ≤ n → Fault n p → ⊥) → Lowest (From Fault m) (Ok tt)
  lowest-end m h n p f = h n p f.0 f.1

  -- number m at the lowest place where its test holds; else the later numbers
  pub lowest_step : (m : ℕ) (why : ℕ → Refusal) (test : ℕ → Bool) (size : ℕ)
      → ((i : ℕ) → i < size → test i ≡ true → (number (why i) ≡ m) × (place (why i) ≡ i) × Fault m i)
      → ((i : ℕ) → Fault m i → (i < size) × (test i ≡ true))
      → (found : Option ℕ) → FirstOf test size found → (later : Checked) → Lowest (From Fault (suc m)) later
      → Lowest (From Fault m) (refuse_at why found later)
  lowest_step m why test size sound complete (Some i) h later l =
      let w = sound i h.0 h.1 in
      ((omega (arith, w.0), rw (w.0, w.1) w.2), low)
    where
      low : (n p : ℕ) → From Fault m n p → (number (why i) < n) ⊎ ((number (why i) ≡ n) × (place (why i) ≤ p))
      low n p f = go (eqb m n) refl
        where
          w : (number (why i) ≡ m) × (place (why i) ≡ i) × Fault m i
          w = sound i h.0 h.1

          at : m ≡ n → place (why i) ≤ p
          at e = pick (ltb p i) refl
            where
              c : (p < size) × (test p ≡ true)
              c = complete p (rw e f.1)

              pick : (b : Bool) → ltb p i ≡ b → place (why i) ≤ p
              pick true q = absurd (true-false c.1 (h.2 p (ltb-true p i q)))
              pick false q = omega (arith, ltb-false p i q, w.1)

          go : (b : Bool) → eqb m n ≡ b → (number (why i) < n) ⊎ ((number (why i) ≡ n) × (place (why i) ≤ p))
          go true e = inr (omega (arith, w.0, eqb-true m n e), at (eqb-true m n e))
          go false e = let ne : m ≢ n = eqb-false m n e in inl (omega (arith, w.0, f.0))
  lowest_step m why test size sound complete None h later l = pass later l
    where
      -- nothing has number m
      up : (n p : ℕ) → From Fault m n p → From Fault (suc m) n p
      up n p f = go (eqb m n) refl
        where
          go : (b : Bool) → eqb m n ≡ b → From Fault (suc m) n p
          go true e = let c : (p < size) × (test p ≡ true) = complete p (rw (eqb-true m n e) f.1) in absurd (true-false c.1 (h p c.0))
          go false e = let ne : m ≢ n = eqb-false m n e in (omega (arith, f.0), f.1)

      pass : (c : Checked) → Lowest (From Fault (suc m)) c → Lowest (From Fault m) c
      pass (Ok tt) l = λ n p f. l n p (up n p f)
      pass (Err why) l = ((omega (arith, l.0.0), l.0.1), λ n p f. l.1 n p (up n p f))

  -- the same for a search over the first places
  pub lowest-below : (m : ℕ) (why : ℕ → Refusal) (test : ℕ → Bool) (size : ℕ)
      → ((i : ℕ) → i < size → test i ≡ true → (number (why i) ≡ m) × (place (why i) ≡ i) × Fault m i)
      → ((i : ℕ) → Fault m i → (i < size) × (test i ≡ true))
      → (later : Checked) → Lowest (From Fault (suc m)) later → Lowest (From Fault m) (refuse_at why (first_below test size) later)
  lowest-below m why test size sound complete later l = lowest_step m why test size sound complete (first_below test size) (first_of test size) later l

  -- from the first number on, these are all the faults
  pub lowest-all : (m : ℕ) → ((n p : ℕ) → Fault n p → m ≤ n) → (c : Checked) → Lowest (From Fault m) c → Lowest Fault c
  lowest-all m h (Ok tt) l = λ n p f. l n p (h n p f, f)
  lowest-all m h (Err why) l = (l.0.1, λ n p f. l.1 n p (h n p f, f))
