-- The fields of a sheet "in reading order", and where each begins: right behind the one before it, which is wholly there and was judged well.
use Rattle.std.specs.Prelude.{◌≡◌, List, ℕ, ◌+◌, ◌*◌, ◌-◌, ◌≤◌, ◌<◌, length}
use Rattle.bits.specs.Field.{num_at}
use Rattle.bits.specs.Read.{ok}
use Rattle.condition.specs.Reading.{Counted, cond_at, condition_at}

-- "states n less 1 (5), inputs k less 1 (4), outputs l less 1 (4), transitions m less 1 (7)"
abbrev pub n_of : List ℕ → ℕ
n_of s = num_at s 0 5 + 1

abbrev pub k_of : List ℕ → ℕ
k_of s = num_at s 5 4 + 1

abbrev pub l_of : List ℕ → ℕ
l_of s = num_at s 9 4 + 1

abbrev pub m_of : List ℕ → ℕ
m_of s = num_at s 13 7 + 1

pub data Field : Type 0 where
  states inputs outputs transitions : Field
  -- of state i
  row : ℕ → Field
  -- of transition i
  source destination priority wait : ℕ → Field
  -- of the condition of transition i: a node's tag, with so many nodes before it and at this depth; and an input's number
  tag : ℕ → ℕ → ℕ → Field
  input : ℕ → Field
  -- what is left, no field
  rest : Field

-- its bits
abbrev pub width : List ℕ → Field → ℕ
width s states = 5
width s inputs = 4
width s outputs = 4
width s transitions = 7
width s (row i) = l_of s
width s (source i) = 5
width s (destination i) = 5
width s (priority i) = 7
width s (wait i) = 24
width s (tag i seen depth) = 2
width s (input i) = 4
width s rest = 0

-- it is wholly there
abbrev pub Whole : List ℕ → Field → ℕ → Type 0
Whole s f at = at + width s f ≤ length s * 8

-- the field begins at this bit
pub data Begins (s : List ℕ) : Field → ℕ → Type 0 where
  -- "Header, 20 bits"; a states field of 0 is refused
  at_states : Begins s states 0
  at_inputs : Whole s states 0 → 0 < num_at s 0 5 → Begins s inputs 5
  at_outputs : Begins s inputs 5 → Whole s inputs 5 → Begins s outputs 9
  at_transitions : Begins s outputs 9 → Whole s outputs 9 → Begins s transitions 13
  -- "For each state in order, one field of l bits"
  first_row : Begins s transitions 13 → Whole s transitions 13 → Begins s (row 0) 20
  next_row : {i at : ℕ} → Begins s (row i) at → Whole s (row i) at → i + 1 < n_of s → Begins s (row (i + 1)) (at + l_of s)
  -- "Each transition: source (5), destination (5), priority (7, 0 the highest), wait in ms (24, 0 meaning no wait), then its condition"; a state n
  -- or above is refused
  first_source : {i at : ℕ} → Begins s (row i) at → Whole s (row i) at → i + 1 ≡ n_of s → Begins s (source 0) (at + l_of s)
  at_destination : {i at : ℕ} → Begins s (source i) at → Whole s (source i) at → num_at s at 5 < n_of s → Begins s (destination i) (at + 5)
  at_priority : {i at : ℕ} → Begins s (destination i) at → Whole s (destination i) at → num_at s at 5 < n_of s → Begins s (priority i) (at + 5)
  at_wait : {i at : ℕ} → Begins s (priority i) at → Whole s (priority i) at → Begins s (wait i) (at + 7)
  -- a condition's first node; "a lone input is 1 deep"
  at_condition : {i at : ℕ} → Begins s (wait i) at → Whole s (wait i) at → Begins s (tag i 0 1) (at + 24)
  -- behind a tag that is neither the 32nd nor at depth 9: an input's number if the tag is 00, else the first operand, and behind that, if the tag is
  -- 10 or 11, the second
  at_input : {i seen depth at : ℕ} → Begins s (tag i seen depth) at → Whole s (tag i seen depth) at → seen < 31 → depth < 9 → num_at s at 2 ≡ 0
      → Begins s (input i) (at + 2)
  at_operand : {i seen depth at : ℕ} → Begins s (tag i seen depth) at → Whole s (tag i seen depth) at → seen < 31 → depth < 9 → 1 ≤ num_at s at 2
      → Begins s (tag i (seen + 1) (depth + 1)) (at + 2)
  at_second : {i seen depth at : ℕ} → Begins s (tag i seen depth) at → Whole s (tag i seen depth) at → seen < 31 → depth < 9 → 2 ≤ num_at s at 2
      → (first : Counted) {next : ℕ} → cond_at (8 - depth) s (k_of s) (seen + 1) (at + 2) ≡ ok first next → Begins s (tag i first.count (depth + 1)) next
  -- behind a condition: the next transition, or behind the last one what is left
  next_source : {i at : ℕ} → Begins s (wait i) at → Whole s (wait i) at → (c : Counted) {next : ℕ} → condition_at s (k_of s) (at + 24) ≡ ok c next
      → i + 1 < m_of s → Begins s (source (i + 1)) next
  at_rest : {i at : ℕ} → Begins s (wait i) at → Whole s (wait i) at → (c : Counted) {next : ℕ} → condition_at s (k_of s) (at + 24) ≡ ok c next
      → i + 1 ≡ m_of s → Begins s rest next
