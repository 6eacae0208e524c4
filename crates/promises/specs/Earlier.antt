-- "Easy to get wrong": each entry of the paper's list as a translator, a runner or a check of sheets of its own beside
-- ours, and that it does not meet the demand. The first three are the firm's versions one, two and three. Beside each
-- refutation stands one scan of it: what the rules give, and what the mistake gives.
use Rattle.std.specs.Prelude.{◌≡◌, Bool, true, false, not, ◌&&◌, cond, List, [], ◌∷◌, ◌++◌, ℕ, ◌+◌, ◌*◌, eqb, leb, length, Ok, Err}
use Rattle.answer.specs.declared.Refusal.TheVariants.{Loop, Pair, Rank, NoHome, HomeForm, Gate, Activity, Room}
use Rattle.answer.specs.Checked.{Checked}
use Rattle.answer.specs.Lowest.{first_below, refuse_at}
use Rattle.bits.specs.Read.{Ans, ok, no}
use Rattle.bits.specs.Word.{get_bit}
use Rattle.clock.specs.Onward.{onward}
use Rattle.condition.specs.Cond.{Cond, inp, eval, is_gated}
use Rattle.reader.specs.Sheet.{Transition, Sheet, count, transition_of}
use Rattle.reader.specs.Reading.{read_sheet}
use Rattle.format.specs.Writing.{sheet_of}
use Rattle.sheet.specs.Judging.{loops, same_pair, same_rank, clashes, lacks_home, lacks_home_form, wrong_activity}
use Rattle.sheet.specs.Judging.{check_sheet, with_sheet}
use Rattle.scan.specs.declared.State.{State}
use Rattle.scan.specs.Scan.{scan_of, cold_of}
use Rattle.words.specs.Word.{Word, END, LDS, ANDP, PAR, R, S, JMPC, JMP, to_bytes}
use Rattle.machine.specs.declared.Record.{Record}
use Rattle.machine.specs.Run.{record_with, ran_with, run_code, Ran}
use Rattle.translate.specs.Translation.{cond_code, wait_code, block, sort, state_blocks, translate}
use Rattle.translate.specs.Writing.{unwritten, written_with, translate_into}
use Rattle.refusals.specs.Refusals.{Numbered}
use Rattle.same.specs.Same.{embed}
use Rattle.same.specs.Histories.{Tick, Runner}
use Rattle.promises.specs.Demand3.{Translator, Demand3}
use Rattle.promises.specs.Table.{two_rows, two_arcs, two_sheet, arc, off, brings, state, flag}

-- TRANSLATORS. The blocks of transitions, each made by `make`, which is told the word to jump to
unfoldable pub blocks_by : (Transition → ℕ → List Word) → (ℕ → ℕ) → List Transition → List Word
blocks_by make to [] = []
blocks_by make to (t ∷ ts) = make t (to t.destination) ++ blocks_by make to ts

-- the word of state d's block, behind the transitions' blocks and a JMP
unfoldable pub state_by : ℕ → ℕ → ℕ → ℕ
state_by blocks outputs d = blocks + 1 + d * (outputs + 2)

-- a translation with blocks of its own make in an order of its own; all else is the paper's
unfoldable pub translate_by : (Transition → ℕ → List Word) → (List Transition → List Transition) → Sheet → List Word
translate_by make order a =
    let ts = order a.transitions in
    let at = state_by (length (blocks_by make (λ d. 0) ts)) a.outputs in
    blocks_by make at ts ++ (JMP (at a.states) ∷ state_blocks (at a.states) a.rows ++ (END ∷ []))

-- the translator that writes such a translation
unfoldable pub writing : (Sheet → List Word) → Translator
writing make s buffer =
    with_sheet s (unwritten buffer) λ a.
    let code = to_bytes (make a) in
    let written = written_with buffer code in
    cond (leb (length code) (length buffer)) written (unwritten buffer (Room (length code)))

-- Version one: "A block without its jump"
unfoldable pub block_one : Transition → ℕ → List Word
block_one t to =
    LDS t.source ∷ ANDP ∷ cond_code t.condition
    ++ (PAR ∷ wait_code t.wait ++ (R t.source ∷ S t.destination ∷ []))

unfoldable pub translate_one : Sheet → List Word
translate_one a = translate_by block_one sort a

-- Version two: "Blocks in sheet order"
unfoldable pub translate_two : Sheet → List Word
translate_two a = translate_by block (λ ts. ts) a

-- "S before the jump but R after it"
unfoldable pub block_left : Transition → ℕ → List Word
block_left t to =
    LDS t.source ∷ ANDP ∷ cond_code t.condition
    ++ (PAR ∷ wait_code t.wait ++ (S t.destination ∷ JMPC to ∷ R t.source ∷ []))

unfoldable pub translate_left : Sheet → List Word
translate_left a = translate_by block_left sort a

-- the two-contact sheet drawn from its end: "Transitions may stand in any order", and here 3 to 8 stands before 3 to 5
abbrev pub from_end : List Transition → List Transition → List Transition
from_end [] done = done
from_end (t ∷ ts) done = from_end ts (t ∷ done)

unfoldable pub drawn : Sheet
drawn = record { states = 9; inputs = 3; outputs = 4; rows = two_rows; transitions = from_end two_arcs [] }

-- RUNNERS. What is done to the record behind an accepted scan
abbrev pub behind : Checked → (Record → Record) → Record → Ran
behind (Ok tt) more r = ran_with (Ok tt) (more r)
behind (Err why) more r = ran_with (Err why) r

-- with the clock anew; and what is done where the flags have stayed
abbrev pub at_clock : Record → ℕ → Record
at_clock r clock = record_with r.flags r.outputs clock

abbrev pub staying : Record → (Record → Record) → Record → Record
staying before more r = cond (eqb r.flags before.flags) (more r) r

-- Version three: "Adding the elapsed time after the comparison": the code runs with no time added, and then it is
unfoldable pub run_three : Runner
run_three code r word elapsed =
    let ran = run_code code r word 0 in
    behind ran.verdict (staying r (λ u. at_clock u (onward u.clock elapsed))) ran.«record»

-- "Zeroing the clock in a scan that stays"
unfoldable pub run_zeroing : Runner
run_zeroing code r word elapsed =
    let ran = run_code code r word elapsed in
    behind ran.verdict (staying r (λ u. at_clock u 0)) ran.«record»

-- CHECKS OF SHEETS that judge GATE by a test of their own; all else is the paper's
unfoldable pub judge_by : (Cond → Bool) → Sheet → Checked
judge_by gated a =
    let lacks : Transition → Bool = λ t. eqb t.source 0 && not (gated t.condition) in
    let thirteen = refuse_at Activity (first_below (wrong_activity a) a.states) (Ok tt) in
    let twelve = refuse_at Gate (first_below (λ i. lacks (transition_of a i)) (count a)) thirteen in
    let eleven = refuse_at HomeForm (first_below (λ i. lacks_home_form (transition_of a i)) (count a)) twelve in
    let ten = refuse_at NoHome (first_below (lacks_home a) a.states) eleven in
    let nine = refuse_at Rank (first_below (clashes same_rank a) (count a)) ten in
    let eight = refuse_at Pair (first_below (clashes same_pair a) (count a)) nine in
    refuse_at Loop (first_below (λ i. loops (transition_of a i)) (count a)) eight

abbrev pub judge_read_by : (Cond → Bool) → Ans Sheet → Checked
judge_read_by gated (ok a end) = judge_by gated a
judge_read_by gated (no why) = Err why

unfoldable pub check_by : (Cond → Bool) → List ℕ → Checked
check_by gated s = judge_read_by gated (read_sheet s)

-- no test at all; and "one try of the condition instead of its form": it passes if it does not hold at that input word
abbrev pub untested : Cond → Bool
untested c = true

abbrev pub tried : ℕ → Cond → Bool
tried word c = not (eval word c)

-- M with a second input and a way out of state 0 by a condition of choice
unfoldable pub out_by : Cond → Sheet
out_by c =
    record {
      states = 2;
      inputs = 2;
      outputs = 1;
      rows = (true ∷ []) ∷ (false ∷ []) ∷ [];
      transitions = arc 1 0 0 0 off ∷ arc 0 1 0 0 c ∷ [];
    }

-- what GATE is for: with activation off, no sheet that the check accepts leaves state 0 in a scan from cold
abbrev pub OffStays : (List ℕ → Checked) → Type 0
OffStays check =
    (s : List ℕ) → check s ≡ Ok tt → (a : Sheet) (end : ℕ) → read_sheet s ≡ ok a end
    → (word elapsed : ℕ) → get_bit word 0 ≡ false → (scan_of a (cold_of a) word elapsed).state ≡ 0

-- one scan from the record q: by the rules of the sheet it must give p, and with the code that is made of the sheet the
-- runner gives u, accepted
abbrev pub Gives : Sheet → (Sheet → List Word) → Runner → State → Tick → State → Record → Type 0
Gives a make run q t p u =
    (scan_of a q t.word t.elapsed ≡ p)
    × (run (to_bytes (make a)) (embed q) t.word t.elapsed ≡ record { verdict = Ok tt; «record» = u })

pub record Earlier : Type 0 where
  -- with the paper's block, order and test it is ours: a mistake below differs in the one thing that it names
  pub our_code : (a : Sheet) → translate_by block sort a ≡ translate a
  pub our_translator : (s buffer : List ℕ) → writing translate s buffer ≡ translate_into s buffer
  pub our_check : (s : List ℕ) → check_by is_gated s ≡ check_sheet s
  -- Version one. "A block without its jump, so a second transition fires in the same scan."
  pub one : Demand3 (writing translate_one) run_code → ⊥
  -- "From cold, 111/10 gives state 1 and not 8": version one ends in 8, and comes by no state's block
  pub one_gives : Gives two_sheet translate_one run_code (state 0 1 0) (brings 1 1 1 10) (state 1 2 0) (flag 256 1 10)
  -- Version two. "Blocks in sheet order."
  pub two : Demand3 (writing translate_two) run_code → ⊥
  -- P13, "from state 3 with clock 99, 111/1 gives 5": a contact's change beats the time that has run out, and version
  -- two ends in 8
  pub two_drawn : check_sheet (sheet_of drawn) ≡ Ok tt
  pub two_gives : Gives drawn translate_two run_code (state 3 2 99) (brings 1 1 1 1) (state 5 10 0) (flag 256 6 0)
  -- Version three. "Adding the elapsed time after the comparison: a wait of 100 then fires a scan late."
  pub three : Demand3 translate_into run_three → ⊥
  -- P12, "110/1 state 5, clock 0" behind clock 99: version three stays in 3, at clock 100
  pub three_gives : Gives two_sheet translate run_three (state 3 2 99) (brings 1 1 0 1) (state 5 10 0) (flag 8 2 100)
  -- and fires in the next scan, though no time has gone by
  pub three_late : Gives two_sheet translate run_three (state 3 2 100) (brings 1 1 0 0) (state 5 10 0) (flag 32 10 0)
  -- "Zeroing the clock in a scan that stays."
  pub zeroing : Demand3 translate_into run_zeroing → ⊥
  -- "In state 0, 011/50 stays and the clock reads 50 more": here it reads 0
  pub zeroing_gives : Gives two_sheet translate run_zeroing (state 0 1 0) (brings 0 1 1 50) (state 0 1 50) (flag 1 1 0)
  -- "S before the jump but R after it: two flags are left."
  pub left : Demand3 (writing translate_left) run_code → ⊥
  -- P12, "100/10 gives state 1": here with the flags of 0 and of 1
  pub left_gives : Gives two_sheet translate_left run_code (state 0 1 0) (brings 1 0 0 10) (state 1 2 0) (flag 3 2 0)
  -- Judged by its form, GATE does what it is for.
  pub gate : OffStays check_sheet
  -- "Judging GATE by one try of the condition instead of its form", whichever input word is tried; and not at all.
  pub gate_tried : (word : ℕ) → OffStays (check_by (tried word)) → ⊥
  pub gate_untested : OffStays (check_by untested) → ⊥
  -- input 1 is off at input word 0, and at input word 2 it leads out of state 0, activation being off; by its form it
  -- is refused: 12, at transition 1
  pub gate_accepts : check_by (tried 0) (sheet_of (out_by (inp 1))) ≡ Ok tt
  pub gate_leaves : scan_of (out_by (inp 1)) (state 0 1 0) 2 10 ≡ state 1 0 0
  pub gate_refuses : Numbered (check_sheet (sheet_of (out_by (inp 1)))) 12 1
