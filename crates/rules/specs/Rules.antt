-- The rules of a safety automaton in the paper's words, apart from any reader: what a sheet must be to be accepted.
use Rattle.std.specs.Prelude.{ℕ, ◌≤◌, ◌<◌, ◌≡◌, ◌⊎◌, true, false, length, get_or}
use Rattle.condition.specs.Cond.{Cond, inp, neg, conj}
use Rattle.reader.specs.Sheet.{Transition, Sheet, count, transition_of, row_of}
-- what a transition's fields may hold is the format's
pub use Rattle.format.specs.Fields.{InputsBelow, Fields}

-- "priority 0, wait 0" and "the condition NOT input 0"
pub record HomeForm (t : Transition) : Type 0 where
  pub priority : t.priority ≡ 0
  pub wait : t.wait ≡ 0
  pub off : t.condition ≡ neg (inp 0)

-- "input 0" or "an AND whose first operand is input 0"
abbrev pub Gated : Cond → Type 0
Gated c = (c ≡ inp 0) ⊎ ((b : Cond) × (c ≡ conj (inp 0) b))

pub record Rules (a : Sheet) : Type 0 where
  -- "n is 2 to 32 (field 0 is refused), k and l are 1 to 16, m is 1 to 128"
  pub states : (2 ≤ a.states) × (a.states ≤ 32)
  pub inputs : (1 ≤ a.inputs) × (a.inputs ≤ 16)
  pub outputs : (1 ≤ a.outputs) × (a.outputs ≤ 16)
  pub transitions : (1 ≤ count a) × (count a ≤ 128)
  -- a row for each state, and in it a bit for each output
  pub rows : length a.rows ≡ a.states
  pub row : (s : ℕ) → s < a.states → length (row_of a s) ≡ a.outputs
  -- each transition names states and inputs that there are; at most 31 nodes, at most 8 deep
  pub fields : (i : ℕ) → i < count a → Fields a.states a.inputs (transition_of a i)
  -- no transition's source is its destination
  pub no_loop : (i : ℕ) → i < count a → (transition_of a i).source ≡ (transition_of a i).destination → ⊥
  -- no two transitions have the same source and destination
  pub pair : (i j : ℕ) → i < j → j < count a → (transition_of a i).source ≡ (transition_of a j).source
      → (transition_of a i).destination ≡ (transition_of a j).destination → ⊥
  -- no two transitions have the same source and priority
  pub rank : (i j : ℕ) → i < j → j < count a → (transition_of a i).source ≡ (transition_of a j).source
      → (transition_of a i).priority ≡ (transition_of a j).priority → ⊥
  -- every state other than 0 has a transition to 0
  pub home : (s : ℕ) → 0 < s → s < a.states → (i : ℕ) × (i < count a) × ((transition_of a i).source ≡ s) × ((transition_of a i).destination ≡ 0)
  -- a transition to 0 has priority 0, wait 0 and the condition NOT input 0
  pub home_form : (i : ℕ) → i < count a → (transition_of a i).destination ≡ 0 → HomeForm (transition_of a i)
  -- a transition from 0 has the condition input 0 or an AND whose first operand is input 0
  pub gate : (i : ℕ) → i < count a → (transition_of a i).source ≡ 0 → Gated (transition_of a i).condition
  -- output 0 is true in state 0 and false in every other
  pub active_idle : get_or (row_of a 0) 0 false ≡ true
  pub active_else : (s : ℕ) → 0 < s → s < a.states → get_or (row_of a s) 0 false ≡ false
