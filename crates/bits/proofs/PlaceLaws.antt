-- How large the place of a refusal in reading can be, step by step. Assumes nothing.
use mathlib.Core.Path.{◌≡◌, refl}
use mathlib.Core.Bool.{Bool, true, false}
use mathlib.Core.List.{List}
use Prim.Native.Nat.{ℕ, zero, suc, ◌+◌, ◌*◌, ◌≤◌}
use native.Mathlib.Nat.{mul-suc}
use native.Mathlib.Omega.{arith}
use Rattle.answer.specs.Number.{place}
use Rattle.answer.specs.declared.Refusal.{Refusal}
use Rattle.answer.specs.declared.Refusal.TheVariants as refuse
use Rattle.bits.specs.Field.{Got, field_at}
use Rattle.bits.specs.Read.{Ans, ok, no, bind, guard, or_short, read_field, upto}
use Rattle.std.specs.Prelude.{Some, None}
use Rattle.bits.proofs.ReadLaws.{ok-no, no-is, upto_next}

-- a refusal, where it is one, has a place of at most n
pub record Within {A : Type 0} (n : ℕ) (x : Ans A) : Type 0 where
  pub fits : (why : Refusal) → x ≡ no why → place why ≤ n

module _ {A : Type 0} (n : ℕ) where
  pub ok-within : (a : A) (next : ℕ) → Within n (ok a next)
  ok-within a next = record { fits = λ why e. ok-no e }

  pub no_within : (r : Refusal) → place r ≤ n → Within {A = A} n (no r)
  no_within r h = record { fits = λ why e. rw (no-is e) at h }

  pub guard-within : (t : Bool) (r : Refusal) (x : Ans A) → place r ≤ n → Within n x → Within n (guard t r x)
  guard-within true r x h w = w
  guard-within false r x h w = no_within r h

  pub bind-within : {B : Type 0} (x : Ans B) (f : B → ℕ → Ans A) → Within n x → ((b : B) (m : ℕ) → x ≡ ok b m → Within n (f b m)) → Within n (bind x f)
  bind-within (ok b m) f w h = h b m refl
  bind-within (no r) f w h = no_within r (w.fits r refl)

short-within : (n at : ℕ) (g : Got) → at ≤ n → Within n (or_short at g)
short-within n at (Some g) h = ok-within n g.0 g.1.at
short-within n at None h = no_within n (refuse.Short at) h

pub field-within : (n : ℕ) (s : List ℕ) (w at : ℕ) → at ≤ n → Within n (read_field s w at)
field-within n s w at h = short-within n at (field_at s at w) h

-- things of at most w bits each, read from `at` on
pub upto-within : {A : Type 0} (n : ℕ) (read : ℕ → Ans A) (w : ℕ) (step : (a : ℕ) (x : A) (b : ℕ) → read a ≡ ok x b → b ≤ a + w) (at i : ℕ)
    → ((a : ℕ) → a ≤ at + w * i → Within n (read a)) → Within n (upto read at i)
unfolding upto
upto-within n read w step at zero h = ok-within n _ at
upto-within n read w step at (suc i) h =
    bind-within n (upto read at i) _ (upto-within n read w step at i (λ a l. h a (omega (arith, mul-suc w i)))) λ xs a e.
    bind-within n (read a) _ (h a (omega (arith, mul-suc w i, upto_next read w step at i e))) λ x b q.
    ok-within n _ b
