-- The check of code: "Code is judged 15, 16, 17 in that order, lowest place first."
use Rattle.std.specs.Prelude.{◌≡◌, Bool, true, false, not, ◌&&◌, ◌||◌, cond, List, [], ◌∷◌, map, ℕ, zero, suc, pred, ◌-◌, ◌%◌, eqb, leb, ltb, length, get_or, Ok, Err, Some, None}
use Rattle.answer.specs.Checked.{Checked}
use Rattle.std.specs.declared.option.Option.{Option}
use Rattle.answer.specs.declared.Refusal.TheVariants as refuse
use Rattle.answer.specs.Lowest.{refuse_at}
use Rattle.words.specs.Word.{Word, END, LDS, LDI, NOT, ANDP, ORP, PAR, ANDT, R, S, RA, SA, JMPC, JMP, TRES, word_no, decode, words}

-- 15 CODE-END: "code is empty, over 32,768 bytes, not a multiple of 4, or the code byte of its last word isn't 0"
unfoldable pub end_fault : List ℕ → Bool
end_fault s = eqb (length s) 0 || ltb 32768 (length s) || ltb 0 (length s % 4) || ltb 0 (get_or s (length s - 4) 0)

-- "Depth is counted down the text": the parentheses open after a word, with d open before it
unfoldable pub opens : Word → ℕ → ℕ
opens END d = d
opens (LDS flag) d = d
opens (LDI input) d = d
opens NOT d = d
opens ANDP d = suc d
opens ORP d = suc d
opens PAR d = pred d
opens (ANDT ms) d = d
opens (R flag) d = d
opens (S flag) d = d
opens (RA output) d = d
opens (SA output) d = d
opens (JMPC word) d = d
opens (JMP word) d = d
opens TRES d = d

-- "a jump whose target isn't after its own word and inside the code"; n words of code, the jump is word pc
abbrev pub strays : ℕ → ℕ → ℕ → Bool
strays n pc target = not (ltb pc target && ltb target n)

-- "WORD faults: .. a flag over 31, an input or output over 15; a jump whose target isn't after its own word and inside the code; ) with
-- nothing open; a ninth open parenthesis; LDS, JMP, JMPC or END with one open": of word pc of n, with d parentheses open before it
unfoldable pub faulty : ℕ → ℕ → ℕ → Word → Bool
faulty n pc d END = ltb 0 d
faulty n pc d (LDS flag) = ltb 31 flag || ltb 0 d
faulty n pc d (LDI input) = ltb 15 input
faulty n pc d NOT = false
faulty n pc d ANDP = leb 8 d
faulty n pc d ORP = leb 8 d
faulty n pc d PAR = eqb d 0
faulty n pc d (ANDT ms) = false
faulty n pc d (R flag) = ltb 31 flag
faulty n pc d (S flag) = ltb 31 flag
faulty n pc d (RA output) = ltb 15 output
faulty n pc d (SA output) = ltb 15 output
faulty n pc d (JMPC word) = strays n pc word || ltb 0 d
faulty n pc d (JMP word) = strays n pc word || ltb 0 d
faulty n pc d TRES = false

-- "an unknown code; an operand not 0 where none is used": a number that is not the number of the word it is read as
unfoldable pub unknown : ℕ → Bool
unknown w = not (eqb (word_no (decode w)) w)

-- this place, or else what was found later
abbrev pub here_or : Bool → ℕ → Option ℕ → Option ℕ
here_or true pc later = Some pc
here_or false pc later = later

-- 16 WORD: the first word at fault, from word pc of n on, with d parentheses open before it
unfoldable pub first_fault : ℕ → ℕ → ℕ → List ℕ → Option ℕ
first_fault n pc d [] = None
first_fault n pc d (w ∷ ws) =
    let later = first_fault n (suc pc) (opens (decode w) d) ws in
    here_or (unknown w || faulty n pc d (decode w)) pc later

-- the parentheses open just before word t of the words left, with d open before the first of them
unfoldable pub depth_at : ℕ → List Word → ℕ → ℕ
depth_at d [] t = d
depth_at d (i ∷ is) zero = d
depth_at d (i ∷ is) (suc t) = depth_at (opens i d) is t

-- "a parenthesis is open just before a jump's target word"
unfoldable pub lands_open : List Word → Word → Bool
lands_open code END = false
lands_open code (LDS flag) = false
lands_open code (LDI input) = false
lands_open code NOT = false
lands_open code ANDP = false
lands_open code ORP = false
lands_open code PAR = false
lands_open code (ANDT ms) = false
lands_open code (R flag) = false
lands_open code (S flag) = false
lands_open code (RA output) = false
lands_open code (SA output) = false
lands_open code (JMPC word) = ltb 0 (depth_at 0 code word)
lands_open code (JMP word) = ltb 0 (depth_at 0 code word)
lands_open code TRES = false

-- 17 LANDING: the first such jump, from word pc on
unfoldable pub first_landing : List Word → ℕ → List Word → Option ℕ
first_landing code pc [] = None
first_landing code pc (i ∷ is) =
    let later = first_landing code (suc pc) is in
    here_or (lands_open code i) pc later

unfoldable pub check_code : List ℕ → Checked
check_code s =
    let ws = words s in
    let is = map decode ws in
    let landing = refuse_at refuse.Landing (first_landing is 0 is) (Ok tt) in
    let word = refuse_at refuse.Word (first_fault (length ws) 0 0 ws) landing in
    cond (end_fault s) (Err refuse.CodeEnd) word

-- THE CONTRACT of `check_code`: the verdict, with its number and place, on any byte string
abbrev pub ChecksCode : List ℕ → Checked → Type 0
ChecksCode code r = r ≡ check_code code
