-- How the code marks words and tells what one pass found: not needed to read the promises.
use Rattle.std.specs.Prelude.{◌≡◌, Bool, true, false, ◌||◌, List, map, ℕ, ◌/◌, ◌%◌, ◌≤◌, ◌<◌, eqb, ltb, length, get_or, set, Ok, Err, Some, None}
use Rattle.std.specs.declared.result.Result.{Result}
use Rattle.answer.specs.declared.Refusal.{Refusal}
use Rattle.answer.specs.declared.Refusal.TheVariants as refuse
use Rattle.bits.specs.Word.{get_bit, put_bit}
use Rattle.words.specs.Word.{decode, words}
use Rattle.faults.specs.Check.{first_fault, depth_at, first_landing}

-- the mark of word k is bit k % 32 of number k / 32
unfoldable pub marked : List ℕ → ℕ → Bool
marked marks k = get_bit (get_or marks (k / 32) 0) (k % 32)

-- the marks with one more, if it is to be
unfoldable pub noted : Bool → List ℕ → ℕ → List ℕ
noted true marks k = set marks (k / 32) (put_bit (get_or marks (k / 32) 0) (k % 32) true)
noted false marks k = marks

-- the codes of JMPC and JMP
abbrev pub jumps : ℕ → Bool
jumps k = eqb k 12 || eqb k 13

-- what one pass tells is so: the first word at fault; or else, where it met no landing inside a parenthesis, that there is
-- none. It tells no place of one, and the search for the lowest needs only that no word is at fault.
abbrev pub PassTells : List ℕ → Result Bool Refusal → Type 0
PassTells s (Err why) = (k : ℕ) × (why ≡ refuse.Word k) × (first_fault (length (words s)) 0 0 (words s) ≡ Some k)
PassTells s (Ok landing) =
    (first_fault (length (words s)) 0 0 (words s) ≡ None)
    × (landing ≡ false → first_landing (map decode (words s)) 0 (map decode (words s)) ≡ None)

-- code without a faulty word, and each word marked before which a parenthesis is open
pub record AllMarked (s bits : List ℕ) : Type 0 where
  pub few : length s ≤ 32768
  pub sound : first_fault (length (words s)) 0 0 (words s) ≡ None
  pub marks : (k : ℕ) → k < length (words s) → marked bits k ≡ ltb 0 (depth_at 0 (map decode (words s)) k)
