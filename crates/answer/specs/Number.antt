-- "Numbers answered, with places": the paper's number and place of each refusal. Document 02 adds 19 to 25, which no call gives yet:
-- "19 TEXT with the first such line, counted from 0" (M-101); "20 UNUSED, place the lowest such input" (M-104);
-- "21 WEIGHTS, place the first row that doesn't total 256 or is non-zero off the diagonal where the sheet has no transition" and
-- "22 STEPS above 6, place 0" (M-109); "23 IDLE-WAIT, place the lowest such transition" (M-111);
-- "24 FOREIGN, place the first word that differs, or the shorter length in words" (M-107);
-- "25 FIELD, place the index of the first number too big for its field, or of the list's end where it stops early, or of the first
-- number left over" (M-100).
use Rattle.std.specs.Prelude.{ℕ, Ok, Err}
use Rattle.answer.specs.declared.Refusal.{Refusal}
use Rattle.answer.specs.declared.Refusal.TheVariants.{
  Short,
  OneState,
  StateNo,
  InputNo,
  Big,
  Tail,
  Loop,
  Pair,
  Rank,
  NoHome,
  HomeForm,
  Gate,
  Activity,
  Room,
  CodeEnd,
  Word,
  Landing,
  NoState,
  Text,
  Unused,
  Weights,
  Steps,
  IdleWait,
  Foreign,
  Field,
}
use Rattle.answer.specs.Checked.{Checked}

-- the column "No."
abbrev pub number : Refusal → ℕ
number (Short bit) = 1
number OneState = 2
number (StateNo bit) = 3
number (InputNo bit) = 4
number (Big bit) = 5
number (Tail bit) = 6
number (Loop transition) = 7
number (Pair transition) = 8
number (Rank transition) = 9
number (NoHome state) = 10
number (HomeForm transition) = 11
number (Gate transition) = 12
number (Activity state) = 13
number (Room bytes) = 14
number CodeEnd = 15
number (Word word) = 16
number (Landing word) = 17
number (NoState state) = 18
number (Text line) = 19
number (Unused input) = 20
number (Weights row) = 21
number Steps = 22
number (IdleWait transition) = 23
number (Foreign word) = 24
number (Field index) = 25

-- the column "Place"
abbrev pub place : Refusal → ℕ
place (Short bit) = bit
place OneState = 0
place (StateNo bit) = bit
place (InputNo bit) = bit
place (Big bit) = bit
place (Tail bit) = bit
place (Loop transition) = transition
place (Pair transition) = transition
place (Rank transition) = transition
place (NoHome state) = state
place (HomeForm transition) = transition
place (Gate transition) = transition
place (Activity state) = state
place (Room bytes) = bytes
place CodeEnd = 0
place (Word word) = word
place (Landing word) = word
place (NoState state) = state
place (Text line) = line
place (Unused input) = input
place (Weights row) = row
place Steps = 0
place (IdleWait transition) = transition
place (Foreign word) = word
place (Field index) = index

-- of a check's answer: 0 and 0 where it accepts
abbrev pub number_of : Checked → ℕ
number_of (Ok tt) = 0
number_of (Err why) = number why

abbrev pub place_of : Checked → ℕ
place_of (Ok tt) = 0
place_of (Err why) = place why

-- A place is a `uint32_t` at the C boundary, and this is the largest. The largest that is ever needed is far below it: the bytes of a
-- listing, 8,192 lines of at most 14 bytes each.
abbrev pub farthest : ℕ
farthest = 4294967295
