-- How large a place can be: what a search finds lies below the end of the search. Assumes nothing.
use Rattle.std.specs.Prelude.{Some, None}
use mathlib.Core.Path.{◌≡◌, refl}
use mathlib.Core.Bool.{Bool, true, false}
use Prim.Native.Nat.{ℕ, zero, suc, ◌≤◌, ◌<◌}
use native.Mathlib.Omega.{arith}
use Rattle.answer.specs.Number.{place, place_of}
use Rattle.answer.specs.Lowest.{first_below, or_at, refuse_at}
use Rattle.answer.specs.declared.Refusal.{Refusal}
use Rattle.answer.specs.Checked.{Checked}
use Rattle.std.specs.declared.option.Option.{Option}

pub some-is : {i j : ℕ} → Some i ≡ Some j → i ≡ j
some-is e = cc

pub none-some : {B : Type 0} {i : ℕ} → None ≡ Some i → B
none-some e = let z : ◌≡◌ {A = ℕ} 0 1 = cc in absurd (omega arith)

pub found_below : (p : ℕ → Bool) (n i : ℕ) → first_below p n ≡ Some i → i < n
unfolding first_below
found_below p zero i e = none-some e
found_below p (suc n) i e = go (first_below p n) (found_below p n) (p n) e
  where
    go : (f : Option ℕ) → ((j : ℕ) → f ≡ Some j → j < n) → (b : Bool) → or_at f b n ≡ Some i → i < suc n
    go (Some j) ih b e = omega (arith, ih j refl, some-is e)
    go None ih true e = omega (arith, some-is e)
    go None ih false e = none-some e

-- a refusal at what is found, or else the later answer: both within b
pub found-fits : (why : ℕ → Refusal) → ((i : ℕ) → place (why i) ≡ i) → (b : ℕ) (f : Option ℕ) → ((i : ℕ) → f ≡ Some i → i ≤ b)
    → (later : Checked) → place_of later ≤ b → place_of (refuse_at why f later) ≤ b
found-fits why e b (Some i) h later l = omega (arith, e i, h i refl)
found-fits why e b None h later l = l

pub search-fits : (why : ℕ → Refusal) → ((i : ℕ) → place (why i) ≡ i) → (b : ℕ) (p : ℕ → Bool) (n : ℕ) → n ≤ b
    → (later : Checked) → place_of later ≤ b → place_of (refuse_at why (first_below p n) later) ≤ b
search-fits why e b p n h later l = found-fits why e b (first_below p n) (λ i q. omega (arith, found_below p n i q)) later l
