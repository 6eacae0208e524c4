-- Laws of the search for the lowest place. Assumes nothing.
use Rattle.std.specs.Prelude.{Some, None}
use mathlib.Core.Path.{◌≡◌, refl}
use mathlib.Core.Logic.{⊎_elim}
use mathlib.Core.Bool.{Bool, true, false, ◌||◌}
use Prim.Native.Nat.{ℕ, zero, suc, ◌+◌, ◌<◌}
use native.Mathlib.Nat.{eq-or-lt_of_le, le_of_suc-le-suc}
use native.Mathlib.Numerals.{add-one}
use native.Mathlib.Omega.{arith}
use Rattle.answer.specs.Lowest.{any_below, first_below}

pub or-true : (b : Bool) → b || true ≡ true
or-true true = refl
or-true false = refl

module _ (p : ℕ → Bool) where
  pub any-more : (n : ℕ) → any_below p n ≡ false → p n ≡ false → any_below p (n + 1) ≡ false
  unfolding any_below
  any-more n h e = rw (add-one, h, e)

  pub any-hit : (i n : ℕ) → i < n → p i ≡ true → any_below p n ≡ true
  unfolding any_below
  any-hit i zero l e = absurd (omega arith)
  any-hit i (suc n) l e =
      ⊎_elim (λ (q : i ≡ n). rw (← q, e) (or-true (any_below p i))) (λ (q : i < n). rw (any-hit i n q e))
      (eq-or-lt_of_le (le_of_suc-le-suc l))

  pub first_more : (n : ℕ) → first_below p n ≡ None → p n ≡ false → first_below p (n + 1) ≡ None
  unfolding first_below
  first_more n h e = rw (add-one, h, e)

  pub first-hit : (i n : ℕ) → i < n → first_below p i ≡ None → p i ≡ true → first_below p n ≡ Some i
  unfolding first_below
  first-hit i zero l h e = absurd (omega arith)
  first-hit i (suc n) l h e =
      ⊎_elim (λ (q : i ≡ n). rw (← q, h, e)) (λ (q : i < n). rw (first-hit i n q h e))
      (eq-or-lt_of_le (le_of_suc-le-suc l))

-- tests that agree below n find the same
pub any_same : (p q : ℕ → Bool) (n : ℕ) → ((i : ℕ) → i < n → p i ≡ q i) → any_below p n ≡ any_below q n
unfolding any_below
any_same p q zero h = refl
any_same p q (suc n) h =
    rw (any_same p q n (λ i l. h i (omega arith)), h n (omega arith)) refl

pub first-same : (p q : ℕ → Bool) (n : ℕ) → ((i : ℕ) → i < n → p i ≡ q i) → first_below p n ≡ first_below q n
unfolding first_below
first-same p q zero h = refl
first-same p q (suc n) h =
    rw (first-same p q n (λ i l. h i (omega arith)), h n (omega arith)) refl
