-- "One scan", and the cold start, from the sheet.
use Rattle.std.specs.Prelude.{ℕ, ◌≡◌, Bool, ◌&&◌, cond, List, [], ◌∷◌, eqb, leb, ltb, Ok, Err}
use Rattle.answer.specs.declared.Refusal.{Refusal}
use Rattle.answer.specs.declared.Refusal.TheVariants.{NoState}
use Rattle.answer.specs.Checked.{Checked}
use Rattle.bits.specs.Word.{word_of}
use Rattle.clock.specs.Onward.{onward}
use Rattle.condition.specs.Cond.{eval}
use Rattle.reader.specs.Sheet.{Transition, Sheet, row_of}
use Rattle.sheet.specs.Judging.{with_sheet}
use Rattle.scan.specs.declared.State.{State}
use Rattle.answer.specs.declared.Answered.{Answered}

-- "A transition of the active state can fire if its condition holds and the clock is at least its wait."
unfoldable pub can : ℕ → ℕ → ℕ → Transition → Bool
can active word clock t = eqb t.source active && eval word t.condition && leb t.wait clock

pub data Choice : Type 0 where
  none : Choice
  some : Transition → Choice

-- of t and what was chosen of the later ones, the one with the smaller priority number
abbrev pub better : Transition → Choice → Choice
better t none = some t
better t (some u) = cond (leb t.priority u.priority) (some t) (some u)

-- "Of those that can, the one with the smallest priority number fires"
unfoldable pub best : ℕ → ℕ → ℕ → List Transition → Choice
best active word clock [] = none
best active word clock (t ∷ ts) =
    let later = best active word clock ts in
    cond (can active word clock t) (better t later) later

-- the outputs of state s as a word: "output a has weight 2^a"
unfoldable pub outputs_of : Sheet → ℕ → ℕ
outputs_of a s = word_of (row_of a s)

-- the one builder of a record: the active state, its outputs and the clock
abbrev pub state_with : ℕ → ℕ → ℕ → State
state_with state outputs clock = record { state = state; outputs = outputs; clock = clock }

-- "the state changes, the clock becomes 0, the outputs are the new state's row"; "If none can, only the clock has changed."
unfoldable pub after : Sheet → State → ℕ → Choice → State
after a q clock none = state_with q.state q.outputs clock
after a q clock (some t) = state_with t.destination (outputs_of a t.destination) 0

-- "The clock first becomes the lesser of clock plus elapsed and 16,777,215."
unfoldable pub scan_of : Sheet → State → ℕ → ℕ → State
scan_of a q word elapsed =
    after a q (onward q.clock elapsed) (best q.state word (onward q.clock elapsed) a.transitions)

-- "Cold start: state 0 active, its outputs, clock 0."
unfoldable pub cold_of : Sheet → State
cold_of a = state_with 0 (outputs_of a 0) 0

-- a scan's answer
abbrev pub Scanned : Type 0
Scanned = Answered State

abbrev pub scanned_with : Checked → State → Scanned
scanned_with verdict q = record { verdict = verdict; «record» = q }

abbrev pub accepted : State → Scanned
accepted q = scanned_with (Ok tt) q

-- "A refused scan returns the record it was given"
abbrev pub refused : State → Refusal → Scanned
refused q why = scanned_with (Err why) q

-- 18 NO-STATE: "the reference scan is given a state n or above", at "the state"
unfoldable pub scan_sheet : List ℕ → State → ℕ → ℕ → Scanned
scan_sheet s q word elapsed =
    with_sheet s (refused q) λ a.
    let moved = accepted (scan_of a q word elapsed) in
    cond (ltb q.state a.states) moved (refused q (NoState q.state))

-- "A cold start refused for its sheet returns a record of zeros."
abbrev pub zeros : State
zeros = state_with 0 0 0

unfoldable pub cold_scan : List ℕ → Scanned
cold_scan s = with_sheet s (refused zeros) λ a. accepted (cold_of a)

-- THE CONTRACTS of `scan` and `cold_scan`: the verdict and the record, for any byte string, record, input word and elapsed time
abbrev pub Scans : List ℕ → State → ℕ → ℕ → Scanned → Type 0
Scans s q word elapsed r = r ≡ scan_sheet s q word elapsed

abbrev pub ColdScans : List ℕ → Scanned → Type 0
ColdScans s r = r ≡ cold_scan s
