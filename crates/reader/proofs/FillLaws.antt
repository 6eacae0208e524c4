-- One law for a loop that fills an array while a list is read: entry for entry they are related. Assumes nothing.
use mathlib.Core.Path.{◌≡◌, sym, ap, ◌∙◌, subst₂}
use mathlib.Core.Logic.{◌≢◌, ⊎_elim}
use mathlib.Core.List.{List, [], ◌∷◌, ◌++◌}
use Prim.Native.Nat.{ℕ, ◌+◌, ◌<◌}
use native.Mathlib.Nat.{eq-or-lt_of_le, le_of_suc-le-suc}
use native.Mathlib.Numerals.{add-one}
use native.Mathlib.Omega.{arith}
use lib.ListN.{length, get_or, set, get_or-append}
use lib.Seq.{get_or-set_same, get_or-set_other, get_or_at}

module _ {A B : Type 0} (R : A → B → Type 0) (da : A) (db : B) where
  -- entry j of the array is that of the list, for each j below i
  abbrev pub Filled : List A → List B → ℕ → Type 0
  Filled xs ys i = (j : ℕ) → j < i → R (get_or xs j da) (get_or ys j db)

  pub filled_more : (xs : List A) (ys : List B) (i : ℕ) (x : A) (y : B) → i < length xs → length ys ≡ i → Filled xs ys i → R x y
      → Filled (set xs i x) (ys ++ y ∷ []) (i + 1)
  filled_more xs ys i x y l e f r j h =
      ⊎_elim
      (λ (q : j ≡ i). subst₂ R (sym (ap (λ (k : ℕ). get_or (set xs i x) k da) q ∙ get_or-set_same xs i x da l)) (sym (get_or_at ys y [] db j (e ∙ sym q))) r)
      (λ (q : j < i). let n : j ≢ i = (λ (z : j ≡ i). omega arith) in
      let low : j < length ys = omega arith in
      subst₂ R (sym (get_or-set_other xs i j x da n)) (sym (get_or-append ys (y ∷ []) db j low)) (f j q))
      (eq-or-lt_of_le (le_of_suc-le-suc (rw add-one at h)))
