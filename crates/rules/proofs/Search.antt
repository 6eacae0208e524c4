-- What a search for the lowest place says of every place below its end. Assumes nothing.
use Rattle.std.specs.Prelude.{Ok, Some, None}
use mathlib.Core.Path.{◌≡◌, refl, sym}
use mathlib.Core.Logic.{⊎_elim}
use mathlib.Core.Bool.{Bool, true, false, ◌||◌}
use Prim.Native.Nat.{ℕ, zero, suc, ◌<◌}
use native.Mathlib.Nat.{eq-or-lt_of_le, le_of_suc-le-suc}
use native.Mathlib.Omega.{arith}
use Rattle.answer.specs.Lowest.{any_below, first_below, or_at, refuse_at}
use Rattle.answer.specs.declared.Refusal.{Refusal}
use Rattle.std.specs.declared.option.Option.{Option}
use Rattle.answer.specs.Checked.{Checked}
use Rattle.answer.proofs.BoolLaws.{true-false, or-false}

or-at : (f : Option ℕ) (b : Bool) (n : ℕ) → or_at f b n ≡ None → (f ≡ None) × (b ≡ false)
or-at (Some i) b n e = true-false cc
or-at None true n e = true-false cc
or-at None false n e = (refl, refl)

module _ (p : ℕ → Bool) where
  -- a place below suc n is below n or is n
  below : {n i : ℕ} → i < suc n → ((j : ℕ) → j < n → p j ≡ false) → p n ≡ false → p i ≡ false
  below {n} {i} l h e =
      ⊎_elim (λ (q : i ≡ n). rw q e) (λ (q : i < n). h i q) (eq-or-lt_of_le (le_of_suc-le-suc l))

  pub first-none : (n : ℕ) → first_below p n ≡ None → (i : ℕ) → i < n → p i ≡ false
  unfolding first_below
  first-none zero e i l = absurd (omega arith)
  first-none (suc n) e i l = let q = or-at (first_below p n) (p n) n e in below l (first-none n q.0) q.1

  pub none_first : (n : ℕ) → ((i : ℕ) → i < n → p i ≡ false) → first_below p n ≡ None
  unfolding first_below
  none_first zero h = refl
  none_first (suc n) h = rw (none_first n (λ i l. h i (omega arith)), h n (omega arith))

  pub any_none : (n : ℕ) → any_below p n ≡ false → (i : ℕ) → i < n → p i ≡ false
  unfolding any_below
  any_none zero e i l = absurd (omega arith)
  any_none (suc n) e i l = let q = or-false (any_below p n) (p n) e in below l (any_none n q.0) q.1

  pub none_any : (n : ℕ) → ((i : ℕ) → i < n → p i ≡ false) → any_below p n ≡ false
  unfolding any_below
  none_any zero h = refl
  none_any (suc n) h = rw (none_any n (λ i l. h i (omega arith)), h n (omega arith))

  pub any_some : (n : ℕ) → any_below p n ≡ true → (i : ℕ) × (i < n) × (p i ≡ true)
  unfolding any_below
  any_some zero e = true-false (sym e)
  any_some (suc n) e = go (any_below p n) (any_some n) e
    where
      go : (b : Bool) → (b ≡ true → (i : ℕ) × (i < n) × (p i ≡ true)) → b || p n ≡ true → (i : ℕ) × (i < suc n) × (p i ≡ true)
      go true ih e = let q = ih refl in (q.0, omega (arith, q.1), q.2)
      go false ih e = (n, omega arith, e)

-- nothing was found, and the later answer accepts
pub refuse-none : (why : ℕ → Refusal) (f : Option ℕ) (later : Checked) → refuse_at why f later ≡ Ok tt → (f ≡ None) × (later ≡ Ok tt)
refuse-none why (Some i) later e = true-false cc
refuse-none why None later e = (refl, e)

pub none-refuse : (why : ℕ → Refusal) (f : Option ℕ) (later : Checked) → f ≡ None → later ≡ Ok tt → refuse_at why f later ≡ Ok tt
none-refuse why f later e h = rw e h
