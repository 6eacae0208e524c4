-- What the fields of a sheet may hold, before anything is judged. A sheet that keeps to it can be written, and what is read keeps to it.
use Rattle.std.specs.Prelude.{◌≡◌, ℕ, ◌≤◌, ◌<◌, length}
use Rattle.condition.specs.Cond.{Cond, inp, neg, conj, disj, nodes, depth}
use Rattle.reader.specs.Sheet.{Transition, Sheet, count, transition_of, row_of}

-- every input that a condition names is one of the k inputs
abbrev pub InputsBelow : ℕ → Cond → Type 0
InputsBelow k (inp i) = i < k
InputsBelow k (neg c) = InputsBelow k c
InputsBelow k (conj a b) = InputsBelow k a × InputsBelow k b
InputsBelow k (disj a b) = InputsBelow k a × InputsBelow k b

-- a transition of a sheet with n states and k inputs
pub record Fields (n k : ℕ) (t : Transition) : Type 0 where
  pub source : t.source < n
  pub destination : t.destination < n
  -- "priority (7, 0 the highest), wait in ms (24, 0 meaning no wait)"
  pub priority : t.priority < 128
  pub wait : t.wait < 16777216
  pub inputs : InputsBelow k t.condition
  -- "It has at most 31 nodes and is at most 8 deep"
  pub nodes : nodes t.condition ≤ 31
  pub depth : depth t.condition ≤ 8

pub record WellFormed (a : Sheet) : Type 0 where
  -- "n is 2 to 32 (field 0 is refused), k and l are 1 to 16, m is 1 to 128"
  pub states : (2 ≤ a.states) × (a.states ≤ 32)
  pub inputs : (1 ≤ a.inputs) × (a.inputs ≤ 16)
  pub outputs : (1 ≤ a.outputs) × (a.outputs ≤ 16)
  pub transitions : (1 ≤ count a) × (count a ≤ 128)
  -- a row for each state, and in it a bit for each output
  pub rows : length a.rows ≡ a.states
  pub row : (s : ℕ) → s < a.states → length (row_of a s) ≡ a.outputs
  pub fields : (i : ℕ) → i < count a → Fields a.states a.inputs (transition_of a i)
