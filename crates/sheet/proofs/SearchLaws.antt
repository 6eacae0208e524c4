-- Laws of a search for the first that a test passes, and of refusing at what it finds. Assumes nothing.
use Rattle.std.specs.Prelude.{Ok, Err, Some, None, position}
use mathlib.Core.Path.{◌≡◌, refl, sym}
use mathlib.Core.Bool.{Bool, true, false, cond}
use mathlib.Core.List.{List}
use Prim.Native.Nat.{ℕ, zero, suc, ◌<◌}
use native.Mathlib.Omega.{arith}
use lib.Dec.{ltb}
use lib.ListN.{length, get_or}
use borrow.Author.Tests.{ltb-true, ltb-false}
use Rattle.std.specs.List.{position_or_len}
use Rattle.std.proofs.lemmas.List.Sums.{fails_before_first, passes_at_first}
use Rattle.answer.specs.declared.Refusal.{Refusal}
use Rattle.answer.specs.Checked.{Checked}
use Rattle.answer.specs.Lowest.{any_below, first_below, refuse_at}
use Rattle.answer.proofs.Laws.{first-hit}
use Rattle.std.specs.declared.option.Option.{Option}

module _ (p : ℕ → Bool) where
  pub any-none : (n : ℕ) → ((i : ℕ) → i < n → p i ≡ false) → any_below p n ≡ false
  unfolding any_below
  any-none zero h = refl
  any-none (suc n) h = rw (any-none n (λ i l. h i (omega arith)), h n (omega arith))

  pub first-none : (n : ℕ) → ((i : ℕ) → i < n → p i ≡ false) → first_below p n ≡ None
  unfolding first_below
  first-none zero h = refl
  first-none (suc n) h = rw (first-none n (λ i l. h i (omega arith)), h n (omega arith))

  pub first-at : (i n : ℕ) → i < n → p i ≡ true → ((j : ℕ) → j < i → p j ≡ false) → first_below p n ≡ Some i
  first-at i n l e h = first-hit p i n l (first-none i h) e

-- the first place of a list whose entry passes
pub position-is : {A : Type 0} (p : A → Bool) (xs : List A) (d : A) → position p xs ≡ first_below (λ i. p (get_or xs i d)) (length xs)
position-is {A} p xs d = go (ltb n (length xs)) refl
  where
    n : ℕ
    n = position_or_len p xs

    q : ℕ → Bool
    q i = p (get_or xs i d)

    go : (b : Bool) → ltb n (length xs) ≡ b → cond b (Some n) None ≡ first_below q (length xs)
    go true e =
        let low : n < length xs = ltb-true n (length xs) e in
        sym (first-at q n (length xs) low (passes_at_first p xs d low) (λ k l. fails_before_first p xs k d l))
    go false e =
        let high = ltb-false n (length xs) e in
        sym (first-none q (length xs) (λ k l. fails_before_first p xs k d (omega (arith, l, high))))

module _ (why : ℕ → Refusal) where
  -- where nothing is refused, nothing was found
  pub refuse-none : (f : Option ℕ) → refuse_at why f (Ok tt) ≡ Ok tt → f ≡ None
  refuse-none (Some i) e = cc
  refuse-none None e = refl

  -- and what is refused is refused whatever comes later
  pub refuse-found : (f : Option ℕ) (r : Refusal) → refuse_at why f (Ok tt) ≡ Err r → (later : Checked) → refuse_at why f later ≡ Err r
  refuse-found (Some i) r e later = e
  refuse-found None r e later = cc
