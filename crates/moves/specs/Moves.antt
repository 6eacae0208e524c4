-- The published moves: source document 000, section 2.3, execution rules 1 to 4, as a relation between records. It speaks of no reader, no
-- search and no order of the transitions.
use Rattle.std.specs.Prelude.{◌≡◌, true, ℕ, ◌≤◌, ◌<◌}
use Rattle.condition.specs.Cond.{eval}
use Rattle.reader.specs.Sheet.{Transition, Sheet, count, transition_of}
use Rattle.scan.specs.declared.State.{State}
use Rattle.scan.specs.Scan.{outputs_of, state_with}

-- t is a transition of the sheet
abbrev pub Of : Sheet → Transition → Type 0
Of a t = (i : ℕ) × (i < count a) × (transition_of a i ≡ t)

-- 1. "it is checked whether in the active state, under the current setting of input variables, and if applicable the current value of the
-- state timer, a transition can fire (i.e., the transition originates from the current state and its transition condition evaluates to true)"
pub record CanFire (a : Sheet) (active word clock : ℕ) (t : Transition) : Type 0 where
  pub of_sheet : Of a t
  pub origin : t.source ≡ active
  pub holds : eval word t.condition ≡ true
  pub waited : t.wait ≤ clock

-- p comes of q, under this input word and value of the state timer
pub data Moves (a : Sheet) (q : State) (word clock : ℕ) (p : State) : Type 0 where
  -- 2. "If there is one such transition, this transition is fired. If there are several transitions, the one with the highest priority is
  -- fired." (A smaller number is a higher priority.) "In both cases, the automaton is set to the new destination state and the state timer is
  -- reset and restarted. Furthermore, the output variables are set to the values indicated by the new state."
  fires : (t : Transition) → CanFire a q.state word clock t
      → ((u : Transition) → CanFire a q.state word clock u → t.priority ≤ u.priority)
      → p ≡ state_with t.destination (outputs_of a t.destination) 0 → Moves a q word clock p
  -- 3. "If there is no transition that can be fired, the automaton remains in the currently active state."
  stays : ((t : Transition) → CanFire a q.state word clock t → ⊥)
      → p ≡ state_with q.state q.outputs clock → Moves a q word clock p
