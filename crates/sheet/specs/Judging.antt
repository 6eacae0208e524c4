-- "Numbers 7 to 13 follow on a sheet read to its end, the lowest number first, and within it the lowest place."
use Rattle.std.specs.Prelude.{ℕ, ◌≡◌, Bool, true, false, not, ◌&&◌, List, get_or, ltb, eqb, Ok, Err}
use Rattle.answer.specs.declared.Refusal.{Refusal}
use Rattle.answer.specs.declared.Refusal.TheVariants.{Loop, Pair, Rank, NoHome, HomeForm, Gate, Activity}
use Rattle.answer.specs.Checked.{Checked}
use Rattle.answer.specs.Lowest.{any_below, first_below, refuse_at}
use Rattle.bits.specs.Read.{Ans, ok, no}
use Rattle.condition.specs.Cond.{is_off, is_gated}
use Rattle.reader.specs.Sheet.{Transition, Sheet, count, transition_of, row_of}
use Rattle.reader.specs.Reading.{read_sheet}

-- 7 LOOP: "source equals destination"
abbrev pub loops : Transition → Bool
loops t = eqb t.source t.destination

-- 8 PAIR: "an earlier transition has the same source and destination"
abbrev pub same_pair : Transition → Transition → Bool
same_pair t u = eqb t.source u.source && eqb t.destination u.destination

-- 9 RANK: "an earlier transition has the same source and priority"
abbrev pub same_rank : Transition → Transition → Bool
same_rank t u = eqb t.source u.source && eqb t.priority u.priority

-- some transition before `later` clashes with it
unfoldable pub clashes : (Transition → Transition → Bool) → Sheet → ℕ → Bool
clashes same a later = any_below (λ earlier. same (transition_of a earlier) (transition_of a later)) later

-- 10 NO-HOME: "a state other than 0 has no transition to 0"
abbrev pub goes_home : ℕ → Transition → Bool
goes_home s t = eqb t.source s && eqb t.destination 0

unfoldable pub lacks_home : Sheet → ℕ → Bool
lacks_home a s = ltb 0 s && not (any_below (λ i. goes_home s (transition_of a i)) (count a))

-- 11 HOME-FORM: "a transition to 0 lacks priority 0, wait 0 or the condition NOT input 0"
abbrev pub lacks_home_form : Transition → Bool
lacks_home_form t = eqb t.destination 0 && not (eqb t.priority 0 && eqb t.wait 0 && is_off t.condition)

-- 12 GATE: "a transition from 0 has a condition that is neither input 0 nor an AND whose first operand is input 0"
abbrev pub lacks_gate : Transition → Bool
lacks_gate t = eqb t.source 0 && not (is_gated t.condition)

-- 13 ACTIVITY: "output 0 is false in state 0 or true in another"
abbrev pub differs : Bool → Bool → Bool
differs true b = not b
differs false b = b

abbrev pub wrong_activity : Sheet → ℕ → Bool
wrong_activity a s = differs (get_or (row_of a s) 0 false) (eqb s 0)

unfoldable pub judge : Sheet → Checked
judge a =
    let thirteen = refuse_at Activity (first_below (wrong_activity a) a.states) (Ok tt) in
    let twelve = refuse_at Gate (first_below (λ i. lacks_gate (transition_of a i)) (count a)) thirteen in
    let eleven = refuse_at HomeForm (first_below (λ i. lacks_home_form (transition_of a i)) (count a)) twelve in
    let ten = refuse_at NoHome (first_below (lacks_home a) a.states) eleven in
    let nine = refuse_at Rank (first_below (clashes same_rank a) (count a)) ten in
    let eight = refuse_at Pair (first_below (clashes same_pair a) (count a)) nine in
    refuse_at Loop (first_below (λ i. loops (transition_of a i)) (count a)) eight

-- a sheet that is refused in reading, or else judged
abbrev pub judge_read : Ans Sheet → Checked
judge_read (ok a end) = judge a
judge_read (no why) = Err why

unfoldable pub check_sheet : List ℕ → Checked
check_sheet s = judge_read (read_sheet s)

-- What is done with a sheet: `go` with the sheet that the bytes are, where it is accepted; else `refuse` with the refusal.
abbrev pub judged_or : {B : Type 0} → Checked → (Refusal → B) → B → B
judged_or (Ok tt) refuse b = b
judged_or (Err why) refuse b = refuse why

abbrev pub read_or : {B : Type 0} → Ans Sheet → (Refusal → B) → (Sheet → B) → B
read_or (ok a end) refuse go = judged_or (judge a) refuse (go a)
read_or (no why) refuse go = refuse why

unfoldable pub with_sheet : {B : Type 0} → List ℕ → (Refusal → B) → (Sheet → B) → B
with_sheet s refuse go = read_or (read_sheet s) refuse go

-- THE CONTRACT of `check_sheet`: the verdict, with its number and place, on any byte string
abbrev pub ChecksSheet : List ℕ → Checked → Type 0
ChecksSheet s r = r ≡ check_sheet s
