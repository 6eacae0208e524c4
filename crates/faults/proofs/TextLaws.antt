-- Code made of words: its check, without bytes. Assumes nothing.
use Rattle.std.specs.Prelude.{Ok, None}
use mathlib.Core.Path.{◌≡◌, refl, ◌∙◌}
use mathlib.Core.List.{List, [], ◌∷◌, ◌++◌, map}
use Prim.Native.Nat.{ℕ, suc, ◌+◌, ◌-◌, ◌*◌, ◌≤◌}
use native.Mathlib.Omega.{arith}
use lib.ListN.{length, length-append, length-map}
use lib.Seq.{get_or_at}
use Rattle.std.specs.declared.option.Option.{Option}
use Rattle.words.specs.Word.{Word, END, word_no, code_no, operand, bytes_of, to_bytes}
use Rattle.faults.specs.Check.{opens, faulty, here_or, first_fault, first_landing, check_code}
use Rattle.words.proofs.WordLaws.{Fit, decode_is, words-to, words_are, bytes-append, bytes-length}
use Rattle.faults.proofs.KnownLaws.{unknown-not}
use Rattle.faults.proofs.PassedLaws.{Ended, end-from, check-passed}

-- 16 over words, none of which can be unknown
unfoldable pub first_among : ℕ → ℕ → ℕ → List Word → Option ℕ
first_among n pc d [] = None
first_among n pc d (i ∷ is) = here_or (faulty n pc d i) pc (first_among n (suc pc) (opens i d) is)

pub among : (n pc d : ℕ) (is : List Word) → Fit is → first_fault n pc d (map word_no is) ≡ first_among n pc d is
unfolding first_fault first_among
among n pc d [] h = refl
among n pc d (i ∷ is) h = rw (unknown-not i h.0, decode_is i h.0, among n (suc pc) (opens i d) is h.1) refl

-- words that end with END end well
pub ends-well : (xs : List Word) → length (xs ++ END ∷ []) ≤ 8192 → Ended (to_bytes (xs ++ END ∷ []))
unfolding to_bytes bytes_of word_no code_no operand
ends-well xs h =
    let l : length (to_bytes (xs ++ END ∷ [])) ≡ 4 * length (xs ++ END ∷ []) = bytes-length (xs ++ END ∷ []) in
    let n : length (xs ++ END ∷ []) ≡ length xs + 1 = length-append xs (END ∷ []) in
    let four : List ℕ = 0 ∷ 0 ∷ 0 ∷ 0 ∷ [] in
    let at : length (to_bytes xs) ≡ length (to_bytes xs ++ four) - 4 = omega (arith, length-append (to_bytes xs) four) in
    record {
      some = omega arith;
      few = omega arith;
      whole = l ∙ rw (words-to (xs ++ END ∷ []), length-map (xs ++ END ∷ []) word_no) (omega arith);
      last = rw (bytes-append xs (END ∷ [])) (get_or_at (to_bytes xs) 0 (0 ∷ 0 ∷ 0 ∷ []) 0 (length (to_bytes xs ++ four) - 4) at);
    }

-- the check of code made of words
pub passes : (xs : List Word) → Fit (xs ++ END ∷ []) → length (xs ++ END ∷ []) ≤ 8192
    → first_among (length (xs ++ END ∷ [])) 0 0 (xs ++ END ∷ []) ≡ None
    → first_landing (xs ++ END ∷ []) 0 (xs ++ END ∷ []) ≡ None
    → check_code (to_bytes (xs ++ END ∷ [])) ≡ (Ok tt)
passes xs fit few sound lands =
    check-passed (to_bytes (xs ++ END ∷ [])) (end-from (to_bytes (xs ++ END ∷ [])) (ends-well xs few))
    (rw (words-to (xs ++ END ∷ []), length-map (xs ++ END ∷ []) word_no) (among (length (xs ++ END ∷ [])) 0 0 (xs ++ END ∷ []) fit ∙ sound))
    (rw (words_are (xs ++ END ∷ []) fit) lands)
