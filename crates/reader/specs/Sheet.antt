-- What a sheet says, as a tree.
use Rattle.std.specs.Prelude.{ℕ, ◌+◌, Bool, List, [], ◌∷◌, length, get_or}
use Rattle.condition.specs.Cond.{Cond, inp}

-- "Each transition: source (5), destination (5), priority (7, 0 the highest), wait in ms (24, 0 meaning no wait), then its condition."
pub record Transition : Type 0 where
  pub source : ℕ
  pub destination : ℕ
  pub priority : ℕ
  pub wait : ℕ
  pub condition : Cond

-- states n, inputs k, outputs l; "for each state in order" its outputs, output 0 first; the transitions "in any order"
pub record Sheet : Type 0 where
  pub states : ℕ
  pub inputs : ℕ
  pub outputs : ℕ
  pub rows : List (List Bool)
  pub transitions : List Transition

-- m, the number of transitions
abbrev pub count : Sheet → ℕ
count a = length a.transitions

-- stands where a list has no further transition
abbrev pub no_transition : Transition
no_transition = record { source = 0; destination = 0; priority = 0; wait = 0; condition = inp 0 }

-- transition i of the sheet
abbrev pub transition_of : Sheet → ℕ → Transition
transition_of a i = get_or a.transitions i no_transition

-- the outputs of state s
abbrev pub row_of : Sheet → ℕ → List Bool
row_of a s = get_or a.rows s []

-- the sum of a weight over transitions
abbrev pub sum_over : (Transition → ℕ) → List Transition → ℕ
sum_over weight [] = 0
sum_over weight (t ∷ ts) = weight t + sum_over weight ts
