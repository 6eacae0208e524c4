-- The order of the blocks: "a block for each transition, by source and then by priority".
use Rattle.std.specs.Prelude.{◌≡◌, ◌⊎◌, List, [], ◌∷◌, ℕ, ◌<◌, length, get_or}
use Rattle.reader.specs.Sheet.{Transition, Sheet, no_transition, count, transition_of}

-- another order of the numbers below n: n of them, each below n, no two the same
pub record Order (n : ℕ) (order : List ℕ) : Type 0 where
  pub long : length order ≡ n
  pub below : (i : ℕ) → i < n → get_or order i 0 < n
  pub apart : (i j : ℕ) → i < j → j < n → get_or order i 0 ≡ get_or order j 0 → ⊥

-- the sheet's transitions in an order
unfoldable pub ordered : Sheet → List ℕ → List Transition
ordered a [] = []
ordered a (i ∷ order) = transition_of a i ∷ ordered a order

-- "by source and then by priority": a smaller source, or the same source and a smaller priority
abbrev pub Before : Transition → Transition → Type 0
Before t u = (t.source < u.source) ⊎ ((t.source ≡ u.source) × (t.priority < u.priority))

-- these are the sheet's transitions, each of them once, in that order
pub record BlockOrder (a : Sheet) (ts : List Transition) : Type 0 where
  pub order : List ℕ
  pub each : Order (count a) order
  pub are : ts ≡ ordered a order
  pub sorted : (i j : ℕ) → i < j → j < count a → Before (get_or ts i no_transition) (get_or ts j no_transition)
