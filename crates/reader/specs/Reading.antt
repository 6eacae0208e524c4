-- Reading a sheet. "Numbers 1 to 6 come in reading order: a field is judged as soon as it is read, so the first one met is given."
use Rattle.std.specs.Prelude.{ℕ, ◌+◌, ◌*◌, ◌-◌, ◌/◌, List, Bool, not, ◌&&◌, length, ltb, eqb}
use Rattle.answer.specs.declared.Refusal.TheVariants.{OneState, StateNo, Tail}
use Rattle.bits.specs.Field.{num_at}
use Rattle.bits.specs.Word.{bits_of}
use Rattle.bits.specs.Read.{Ans, ok, bind, guard, read_field, upto}
use Rattle.condition.specs.Reading.{condition_at}
use Rattle.reader.specs.Sheet.{Transition, Sheet}
use Rattle.reader.specs.declared.Header.{Header}

-- "Header, 20 bits: states n less 1 (5), inputs k less 1 (4), outputs l less 1 (4), transitions m less 1 (7)."
-- 2 ONE-STATE: "states field is 0"
unfoldable pub read_header : List ℕ → Ans Header
read_header s =
    bind (read_field s 5 0) λ n a1.
    guard (not (eqb n 0)) OneState (
    bind (read_field s 4 a1) λ k a2.
    bind (read_field s 4 a2) λ l a3.
    bind (read_field s 7 a3) λ m a4.
    ok (record { states = n + 1; inputs = k + 1; outputs = l + 1; transitions = m + 1 }) a4)

-- "For each state in order, one field of l bits, output 0 first."
unfoldable pub row_at : List ℕ → ℕ → ℕ → Ans (List Bool)
row_at s l at = bind (read_field s l at) λ v next. ok (bits_of l v) next

-- the transition at `at`, of a sheet with n states and k inputs
-- 3 STATE-NO: "a transition names a state n or above", at the "first bit of that field"
unfoldable pub transition_at : List ℕ → ℕ → ℕ → ℕ → Ans Transition
transition_at s n k at =
    bind (read_field s 5 at) λ source a1.
    guard (ltb source n) (StateNo at) (
    bind (read_field s 5 a1) λ destination a2.
    guard (ltb destination n) (StateNo a1) (
    bind (read_field s 7 a2) λ priority a3.
    bind (read_field s 24 a3) λ wait a4.
    bind (condition_at s k a4) λ t a5.
    ok (record { source = source; destination = destination; priority = priority; wait = wait; condition = t.tree }) a5))

-- "Zero bits up to the byte, and nothing more."
unfoldable pub ends_at : List ℕ → ℕ → Bool
ends_at s at = eqb (length s) ((at + 7) / 8) && eqb (num_at s at ((at + 7) / 8 * 8 - at)) 0

-- the sheet and the bit after its last condition, or the first refusal met
-- 6 TAIL: "a spare bit is 1, or a further byte follows", at the "first bit after the last condition"
unfoldable pub read_sheet : List ℕ → Ans Sheet
read_sheet s =
    bind (read_header s) λ h a1.
    bind (upto (row_at s h.outputs) a1 h.states) λ rows a2.
    bind (upto (transition_at s h.states h.inputs) a2 h.transitions) λ ts a3.
    guard (ends_at s a3) (Tail a3)
    (ok (record { states = h.states; inputs = h.inputs; outputs = h.outputs; rows = rows; transitions = ts }) a3)
