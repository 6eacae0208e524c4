-- "Numbers answered, with places": what each number means where it is answered, in the words of the table.
use Rattle.std.specs.Prelude.{◌≡◌, ◌⊎◌, ◌↔◌, false, List, [], ◌∷◌, map, ℕ, ◌+◌, ◌*◌, ◌-◌, ◌/◌, ◌%◌, ◌≤◌, ◌<◌, eqb, length, get_or, Ok, Err}
use Rattle.answer.specs.declared.Refusal.{Refusal}
use Rattle.answer.specs.Checked.{Checked}
use Rattle.answer.specs.Number.{number, place, number_of, place_of}
use Rattle.bits.specs.Field.{num_at}
use Rattle.bits.specs.Read.{ok, no}
use Rattle.reader.specs.Sheet.{Sheet, count, transition_of, row_of}
use Rattle.reader.specs.Reading.{read_sheet}
use Rattle.rules.specs.Rules.{HomeForm, Gated}
use Rattle.sheet.specs.Judging.{check_sheet}
use Rattle.scan.specs.declared.State.{State}
use Rattle.scan.specs.Scan.{scan_sheet}
use Rattle.words.specs.Word.{decode, words}
use Rattle.faults.specs.Check.{depth_at, check_code}
use Rattle.translate.specs.Writing.{code_of, translate_into}
use Rattle.refusals.specs.WordFaults.{OneOf, WordFault}
use Rattle.refusals.specs.Fields.{Field, states, source, destination, tag, input, rest, width, Whole, Begins, n_of, k_of}

-- "the lowest number first, and within it the lowest place": an answer to faults, each with a number and a place
abbrev pub Lowest : (ℕ → ℕ → Type 0) → Checked → Type 0
Lowest Fault (Ok tt) = (n p : ℕ) → Fault n p → ⊥
Lowest Fault (Err why) =
    Fault (number why) (place why) × ((n p : ℕ) → Fault n p → (number why < n) ⊎ ((number why ≡ n) × (place why ≤ p)))

-- 7 to 13, of a sheet read to its end: number n is given at place p
pub data SheetFault (a : Sheet) (n p : ℕ) : Type 0 where
  -- "source equals destination"; the transition
  loop : n ≡ 7 → p < count a → (transition_of a p).source ≡ (transition_of a p).destination → SheetFault a n p
  -- "an earlier transition has the same source and destination"; the later one
  pair : n ≡ 8 → p < count a → (earlier : ℕ) → earlier < p → (transition_of a earlier).source ≡ (transition_of a p).source
      → (transition_of a earlier).destination ≡ (transition_of a p).destination → SheetFault a n p
  -- "an earlier transition has the same source and priority"; the later one
  rank : n ≡ 9 → p < count a → (earlier : ℕ) → earlier < p → (transition_of a earlier).source ≡ (transition_of a p).source
      → (transition_of a earlier).priority ≡ (transition_of a p).priority → SheetFault a n p
  -- "a state other than 0 has no transition to 0"; the state
  no_home : n ≡ 10 → p < a.states → 0 < p
      → ((i : ℕ) → i < count a → (transition_of a i).source ≡ p → (transition_of a i).destination ≡ 0 → ⊥) → SheetFault a n p
  -- "a transition to 0 lacks priority 0, wait 0 or the condition NOT input 0"; the transition
  home_form : n ≡ 11 → p < count a → (transition_of a p).destination ≡ 0 → (HomeForm (transition_of a p) → ⊥) → SheetFault a n p
  -- "a transition from 0 has a condition that is neither input 0 nor an AND whose first operand is input 0"; the transition
  gate : n ≡ 12 → p < count a → (transition_of a p).source ≡ 0 → (Gated (transition_of a p).condition → ⊥) → SheetFault a n p
  -- "output 0 is false in state 0 or true in another"; the state
  activity : n ≡ 13 → p < a.states → (get_or (row_of a p) 0 false ≡ eqb p 0 → ⊥) → SheetFault a n p

-- "8 bits of code, 24 of operand", of a word as a number
abbrev pub code_byte : ℕ → ℕ
code_byte w = w / 16777216

abbrev pub operand_of : ℕ → ℕ
operand_of w = w % 16777216

-- 15 to 17, of code
pub data CodeFault (s : List ℕ) (n p : ℕ) : Type 0 where
  -- "code is empty, over 32,768 bytes, not a multiple of 4, or the code byte of its last word isn't 0"; 0
  code_end : n ≡ 15 → p ≡ 0
      → (length s ≡ 0) ⊎ ((32768 < length s) ⊎ ((0 < length s % 4) ⊎ (0 < get_or s (length s - 4) 0))) → CodeFault s n p
  -- "a word is at fault", with the parentheses open before it; the word
  word : n ≡ 16 → p < length (words s)
      → WordFault (length (words s)) p (depth_at 0 (map decode (words s)) p) (code_byte (get_or (words s) p 0)) (operand_of (get_or (words s) p 0)) → CodeFault s n p
  -- "a parenthesis is open just before a jump's target word"; the word of the jump
  landing : n ≡ 17 → p < length (words s) → OneOf (code_byte (get_or (words s) p 0)) (12 ∷ 13 ∷ [])
      → 0 < depth_at 0 (map decode (words s)) (operand_of (get_or (words s) p 0)) → CodeFault s n p

-- 1 to 6, of bytes that can't be read: the field that begins at the place, and what is found there
pub data Unread (s : List ℕ) (n p : ℕ) : Type 0 where
  -- "a field isn't wholly there"; its first bit
  short : n ≡ 1 → (f : Field) → Begins s f p → length s * 8 < p + width s f → Unread s n p
  -- "states field is 0"; 0
  one_state : n ≡ 2 → p ≡ 0 → Whole s states 0 → num_at s 0 5 ≡ 0 → Unread s n p
  -- "a transition names a state n or above"; first bit of that field
  state_no : n ≡ 3 → (i : ℕ) → Begins s (source i) p ⊎ Begins s (destination i) p → p + 5 ≤ length s * 8 → n_of s ≤ num_at s p 5
      → Unread s n p
  -- "a condition names an input k or above"; first bit of the number
  input_no : n ≡ 4 → (i : ℕ) → Begins s (input i) p → Whole s (input i) p → k_of s ≤ num_at s p 4 → Unread s n p
  -- "a 32nd node, or a node at depth 9"; first bit of its tag
  big : n ≡ 5 → (i seen depth : ℕ) → Begins s (tag i seen depth) p → Whole s (tag i seen depth) p → (31 ≤ seen) ⊎ (depth ≡ 9)
      → Unread s n p
  -- "a spare bit is 1, or a further byte follows"; first bit after the last condition
  tail : n ≡ 6 → Begins s rest p → (length s ≡ (p + 7) / 8 → ⊥) ⊎ (num_at s p ((p + 7) / 8 * 8 - p) ≡ 0 → ⊥) → Unread s n p

-- an answer with this number and this place
abbrev pub Numbered : Checked → ℕ → ℕ → Type 0
Numbered c n p = (number_of c ≡ n) × (place_of c ≡ p)

pub record Refusals : Type 0 where
  -- a sheet that is refused in reading has one of 1 to 6, and the check's answer is that
  pub unread : (s : List ℕ) (why : Refusal) → read_sheet s ≡ no why → Unread s (number why) (place why) × (check_sheet s ≡ Err why)
  -- and 1 to 6 are given exactly there
  pub exactly : (s : List ℕ) (n p : ℕ) → Unread s n p → Numbered (check_sheet s) n p
  -- a sheet that is read to its end is judged by the lowest fault
  pub read : (s : List ℕ) (a : Sheet) (end : ℕ) → read_sheet s ≡ ok a end → Lowest (SheetFault a) (check_sheet s)
  -- code is judged by the lowest fault
  pub code : (s : List ℕ) → Lowest (CodeFault s) (check_code s)
  -- 14 is given exactly where the sheet is accepted and its code needs more bytes than the buffer has: "bytes needed"
  pub room : (s buffer : List ℕ) (bytes : ℕ)
      → Numbered (translate_into s buffer).answer.verdict 14 bytes
      ↔ ((a : Sheet) × (end : ℕ) × (read_sheet s ≡ ok a end) × (check_sheet s ≡ Ok tt) × (length buffer < bytes) × (bytes ≡ length (code_of a)))
  -- 18 is given exactly where the sheet is accepted and the state is n or above: "the state"
  pub no_state : (s : List ℕ) (q : State) (word elapsed state : ℕ)
      → Numbered (scan_sheet s q word elapsed).verdict 18 state
      ↔ ((a : Sheet) × (end : ℕ) × (read_sheet s ≡ ok a end) × (check_sheet s ≡ Ok tt) × (a.states ≤ state) × (state ≡ q.state))
