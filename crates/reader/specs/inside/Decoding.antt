-- How the code holds what it has read: not needed to read the promises.
use Rattle.std.specs.Prelude.{ℕ, ◌<◌, ◌≡◌, List, [], Bool, length, get_or, ltb, Ok, Err}
use Rattle.std.specs.declared.result.Result.{Result}
use Rattle.answer.specs.declared.Refusal.{Refusal}
use Rattle.answer.specs.declared.Refusal.TheVariants as refuse
use Rattle.bits.specs.Word.{word_of}
use Rattle.bits.specs.Read.{Ans, ok, no, bind, guard, read_field, upto}
use Rattle.bits.specs.declared.Cursor.{Cursor}
use Rattle.condition.specs.Cond.{word_count}
use Rattle.condition.specs.Reading.{counted, condition_at}
use Rattle.condition.specs.inside.Reach.{cond_reach}
use Rattle.condition.specs.inside.Facts.{form_of}
use Rattle.condition.specs.declared.Facts.{Facts}
use Rattle.reader.specs.Sheet.{Transition, Sheet, count, transition_of, row_of, no_transition}
use Rattle.reader.specs.Reading.{transition_at}
use Rattle.reader.specs.declared.Arrow.{Arrow}
use Rattle.reader.specs.declared.Header.{Header}
use Rattle.reader.specs.inside.Packing.{unpack, arrow_at}
use Rattle.reader.specs.declared.Decoded.{Decoded}

-- a transition in two steps: the states that it names, and the rest
pub record Names : Type 0 where
  pub source : ℕ
  pub destination : ℕ

unfoldable pub names_at : List ℕ → ℕ → ℕ → Ans Names
names_at s n at =
    bind (read_field s 5 at) λ source a1.
    guard (ltb source n) (refuse.StateNo at) (
    bind (read_field s 5 a1) λ destination a2.
    guard (ltb destination n) (refuse.StateNo a1) (ok (record { source = source; destination = destination }) a2))

unfoldable pub rest_at : List ℕ → ℕ → ℕ → ℕ → ℕ → Ans Transition
rest_at s k source destination at =
    bind (read_field s 7 at) λ priority a1.
    bind (read_field s 24 a1) λ wait a2.
    bind (condition_at s k a2) λ t a3.
    ok (record { source = source; destination = destination; priority = priority; wait = wait; condition = t.tree }) a3

-- the first m transitions from `at` on, of a sheet with this header
abbrev pub transitions_at : List ℕ → Header → ℕ → ℕ → Ans (List Transition)
transitions_at s h at m = upto (transition_at s h.states h.inputs) at m

-- the two states, as the code answers them
abbrev pub pair_of : Names → ℕ × ℕ
pair_of x = (x.source, x.destination)

-- the arrow holds the transition, whose condition stands at bit `cond`
pub record Holds (s : List ℕ) (k : ℕ) (arrow : Arrow) (t : Transition) : Type 0 where
  pub source : arrow.source ≡ t.source
  pub destination : arrow.destination ≡ t.destination
  pub priority : arrow.priority ≡ t.priority
  pub wait : arrow.wait ≡ t.wait
  pub form : arrow.form ≡ form_of t.condition
  pub words : arrow.words ≡ word_count t.condition
  pub near : arrow.cond < cond_reach
  pub nodes : ℕ
  pub next : ℕ
  pub there : condition_at s k arrow.cond ≡ ok (counted t.condition nodes) next

-- the code's answer: the cursor after the transition, which the number keeps; or the refusal
abbrev pub ArrowIs : List ℕ → ℕ → Ans Transition → Result (Facts × Cursor) Refusal → ℕ → Type 0
ArrowIs s k (ok t next) r word = (f : Facts) × (r ≡ Ok (f, record { at = next })) × Holds s k (unpack word) t
ArrowIs s k (no why) r word = r ≡ Err why

-- the code's rows and arrows are those of the lists
abbrev pub HoldsRows : Ans (List (List Bool)) → Result Cursor Refusal → List ℕ → Type 0
HoldsRows (ok xs next) r rows =
    (r ≡ Ok (record { at = next })) × ((i : ℕ) → i < length rows → get_or rows i 0 ≡ word_of (get_or xs i []))
HoldsRows (no why) r rows = r ≡ Err why

abbrev pub HoldsArrows : List ℕ → ℕ → Ans (List Transition) → Result Cursor Refusal → List ℕ → Type 0
HoldsArrows s k (ok ts next) r arrows =
    (r ≡ Ok (record { at = next }))
    × ((i : ℕ) → i < length arrows → Holds s k (arrow_at arrows i) (get_or ts i no_transition))
HoldsArrows s k (no why) r arrows = r ≡ Err why

-- the code's copy is that sheet
pub record Copy (s : List ℕ) (d : Decoded) (a : Sheet) : Type 0 where
  pub states : d.header.states ≡ a.states
  pub inputs : d.header.inputs ≡ a.inputs
  pub outputs : d.header.outputs ≡ a.outputs
  pub transitions : d.header.transitions ≡ count a
  pub row : (i : ℕ) → i < a.states → get_or d.rows i 0 ≡ word_of (row_of a i)
  pub long : length d.arrows ≡ 128
  pub arrow : (i : ℕ) → i < count a → Holds s a.inputs (arrow_at d.arrows i) (transition_of a i)

-- the code's answer is that of the reader: the cursor after the last condition, with the copy; or the refusal
abbrev pub Answers : List ℕ → Ans Sheet → Result Cursor Refusal → Decoded → Type 0
Answers s (ok a end) r d = (r ≡ Ok (record { at = end })) × Copy s d a
Answers s (no why) r d = r ≡ Err why
