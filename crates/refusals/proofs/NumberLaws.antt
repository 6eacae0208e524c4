-- A refusal is its number and its place. Assumes nothing.
use Rattle.std.specs.Prelude.{Ok, Err}
use mathlib.Core.Path.{◌≡◌, refl, sym, ap, ◌∙◌}
use mathlib.Core.List.{List, [], ◌∷◌}
use Prim.Native.Nat.{ℕ, ◌<◌}
use native.Mathlib.Omega.{arith}
use lib.ListN.{get_or}
use Rattle.answer.specs.declared.Refusal.{Refusal}
use Rattle.answer.specs.declared.Refusal.TheVariants as refuse
use Rattle.answer.specs.Checked.{Checked}
use Rattle.answer.specs.Number.{number, place, number_of, place_of}

-- the refusals at a place, by their numbers
abbrev pub by_number : ℕ → List Refusal
by_number p =
    refuse.OneState
    ∷ refuse.Short p
    ∷ refuse.OneState
    ∷ refuse.StateNo p
    ∷ refuse.InputNo p
    ∷ refuse.Big p
    ∷ refuse.Tail p
    ∷ refuse.Loop p
    ∷ refuse.Pair p
    ∷ refuse.Rank p
    ∷ refuse.NoHome p
    ∷ refuse.HomeForm p
    ∷ refuse.Gate p
    ∷ refuse.Activity p
    ∷ refuse.Room p
    ∷ refuse.CodeEnd
    ∷ refuse.Word p
    ∷ refuse.Landing p
    ∷ refuse.NoState p
    ∷ refuse.Text p
    ∷ refuse.Unused p
    ∷ refuse.Weights p
    ∷ refuse.Steps
    ∷ refuse.IdleWait p
    ∷ refuse.Foreign p
    ∷ refuse.Field p
    ∷ []

unfoldable pub refusal_of : ℕ → ℕ → Refusal
refusal_of n p = get_or (by_number p) n refuse.OneState

pub refusal-back : (why : Refusal) → refusal_of (number why) (place why) ≡ why
unfolding refusal_of
refusal-back (refuse.Short p) = refl
refusal-back refuse.OneState = refl
refusal-back (refuse.StateNo p) = refl
refusal-back (refuse.InputNo p) = refl
refusal-back (refuse.Big p) = refl
refusal-back (refuse.Tail p) = refl
refusal-back (refuse.Loop p) = refl
refusal-back (refuse.Pair p) = refl
refusal-back (refuse.Rank p) = refl
refusal-back (refuse.NoHome p) = refl
refusal-back (refuse.HomeForm p) = refl
refusal-back (refuse.Gate p) = refl
refusal-back (refuse.Activity p) = refl
refusal-back (refuse.Room p) = refl
refusal-back refuse.CodeEnd = refl
refusal-back (refuse.Word p) = refl
refusal-back (refuse.Landing p) = refl
refusal-back (refuse.NoState p) = refl
refusal-back (refuse.Text p) = refl
refusal-back (refuse.Unused p) = refl
refusal-back (refuse.Weights p) = refl
refusal-back refuse.Steps = refl
refusal-back (refuse.IdleWait p) = refl
refusal-back (refuse.Foreign p) = refl
refusal-back (refuse.Field p) = refl

pub refusal_is : (why : Refusal) (n p : ℕ) → number why ≡ n → place why ≡ p → why ≡ refusal_of n p
refusal_is why n p e f = sym (refusal-back why) ∙ ap (λ (k : ℕ). refusal_of k (place why)) e ∙ ap (refusal_of n) f

-- an answer with a number is the refusal that has it
pub answer-is : (c : Checked) (n p : ℕ) → 0 < n → number_of c ≡ n → place_of c ≡ p → c ≡ Err (refusal_of n p)
answer-is (Ok tt) n p some e f = absurd (omega arith)
answer-is (Err why) n p some e f = ap Err (refusal_is why n p e f)
