-- Numbers 15 to 17: the check of code answers the lowest fault.
use Rattle.std.specs.Prelude.{Ok, Err, Some, None}
use mathlib.Core.Path.{◌≡◌, refl, sym, ap, ◌∙◌}
use mathlib.Core.Logic.{◌⊎◌, inl, inr}
use mathlib.Core.Bool.{Bool, true, false, ◌||◌, cond}
use mathlib.Core.List.{List, [], ◌∷◌, map}
use Prim.Native.Nat.{ℕ, zero, suc, ◌+◌, ◌-◌, ◌%◌, ◌≤◌, ◌<◌}
use native.Mathlib.Omega.{arith}
use native.Mathlib.Nat.{zero-add, add-zero, add-suc, suc-add}
use borrow.Author.Tests.{eqb-true, eq-eqb, ltb-true, lt-ltb}
use lib.Dec.{eqb, ltb}
use lib.ListN.{length, get_or, length-map, get_or-map}
use Rattle.answer.specs.declared.Refusal.TheVariants as refuse
use Rattle.answer.specs.Checked.{Checked}
use Rattle.std.specs.declared.option.Option.{Option}
use Rattle.answer.specs.Lowest.{refuse_at}
use Rattle.words.specs.Word.{Word, END, known, decode, words}
use Rattle.faults.specs.Check.{end_fault, opens, faulty, unknown, here_or, first_fault, depth_at, lands_open, first_landing, check_code}
use Rattle.refusals.specs.Refusals.{Lowest, CodeFault, code_end, word, landing}
use Rattle.refusals.proofs.WordFaultProof.{or-of, word-fault, landing-fault}
use Rattle.refusals.proofs.LowestLaws.{FirstOf, From, lowest-end, lowest_step, lowest-all}

-- a test of places in a list, one place further on
abbrev Later : (ℕ → Bool) → ℕ → Bool
Later test j = test (suc j)

-- the lowest place in the list, counted from pc
abbrev FirstFrom : ℕ → (ℕ → Bool) → ℕ → Option ℕ → Type 0
FirstFrom pc test n (Some i) = (j : ℕ) × (i ≡ pc + j) × (j < n) × (test j ≡ true) × ((h : ℕ) → h < j → test h ≡ false)
FirstFrom pc test n None = (h : ℕ) → h < n → test h ≡ false

first-from : (pc n : ℕ) (test : ℕ → Bool) (b : Bool) → test 0 ≡ b → (found : Option ℕ) → FirstFrom (suc pc) (Later test) n found
    → FirstFrom pc test (suc n) (here_or b pc found)
first-from pc n test true e found h = (0, sym (add-zero pc), omega arith, e, λ i l. absurd (omega arith))
first-from pc n test false e (Some i) h = (suc h.0, omega (arith, h.1), omega (arith, h.2), h.3, each)
  where
    each : (j : ℕ) → j < suc h.0 → test j ≡ false
    each zero l = e
    each (suc j) l = h.4 j (omega arith)
first-from pc n test false e None h = each
  where
    each : (j : ℕ) → j < suc n → test j ≡ false
    each zero l = e
    each (suc j) l = h j (omega arith)

from_zero : (test : ℕ → Bool) (n : ℕ) (found : Option ℕ) → FirstFrom 0 test n found → FirstOf test n found
from_zero test n (Some i) h =
    let e : i ≡ h.0 = omega (arith, h.1) in
    (omega (arith, h.2), rw e h.3, λ j l. h.4 j (omega arith))
from_zero test n None h = h

-- a word at fault, of the words from word pc on with d parentheses open
unfoldable fault_at : ℕ → ℕ → ℕ → List ℕ → ℕ → Bool
fault_at n pc d ws j = unknown (get_or ws j 0) || faulty n (pc + j) (depth_at d (map decode ws) j) (decode (get_or ws j 0))

fault-first : (n pc d : ℕ) (ws : List ℕ) → FirstFrom pc (fault_at n pc d ws) (length ws) (first_fault n pc d ws)
unfolding first_fault fault_at depth_at
fault-first n pc d [] = λ h l. absurd (omega arith)
fault-first n pc d (w ∷ ws) =
    first-from pc (length ws) (fault_at n pc d (w ∷ ws)) (unknown w || faulty n pc d (decode w)) (ap (λ p. unknown w || faulty n p d (decode w)) (add-zero pc))
    (first_fault n (suc pc) (opens (decode w) d) ws) (shifted (first_fault n (suc pc) (opens (decode w) d) ws) (fault-first n (suc pc) (opens (decode w) d) ws))
  where
    at : (j : ℕ) → fault_at n (suc pc) (opens (decode w) d) ws j ≡ fault_at n pc d (w ∷ ws) (suc j)
    at j =
        ap (λ p. unknown (get_or ws j 0) || faulty n p (depth_at (opens (decode w) d) (map decode ws) j) (decode (get_or ws j 0))) (suc-add pc j ∙ sym (add-suc pc j))

    shifted : (f : Option ℕ) → FirstFrom (suc pc) (fault_at n (suc pc) (opens (decode w) d) ws) (length ws) f
        → FirstFrom (suc pc) (Later (fault_at n pc d (w ∷ ws))) (length ws) f
    shifted (Some i) h = (h.0, h.1, h.2, sym (at h.0) ∙ h.3, λ j l. sym (at j) ∙ h.4 j l)
    shifted None h = λ j l. sym (at j) ∙ h j l

landing-first : (code : List Word) (pc : ℕ) (is : List Word)
    → FirstFrom pc (λ j. lands_open code (get_or is j END)) (length is) (first_landing code pc is)
unfolding first_landing
landing-first code pc [] = λ h l. absurd (omega arith)
landing-first code pc (i ∷ is) =
    first-from pc (length is) (λ j. lands_open code (get_or (i ∷ is) j END)) (lands_open code i) refl (first_landing code (suc pc) is) (landing-first code (suc pc) is)

-- the four reasons of CODE-END
four : (a b c d : Bool) → (a ≡ true) ⊎ ((b ≡ true) ⊎ ((c ≡ true) ⊎ (d ≡ true))) → a || b || c || d ≡ true
four true b c d h = refl
four false true c d h = refl
four false false true d h = refl
four false false false d (inl e) = absurd (let z : ◌≡◌ {A = ℕ} 0 1 = cc in omega arith)
four false false false d (inr (inl e)) = absurd (let z : ◌≡◌ {A = ℕ} 0 1 = cc in omega arith)
four false false false d (inr (inr (inl e))) = absurd (let z : ◌≡◌ {A = ℕ} 0 1 = cc in omega arith)
four false false false d (inr (inr (inr e))) = e

module _ (s : List ℕ) where
  abbrev Ends : Type 0
  Ends = (length s ≡ 0) ⊎ ((32768 < length s) ⊎ ((0 < length s % 4) ⊎ (0 < get_or s (length s - 4) 0)))

  ends_of : end_fault s ≡ true → Ends
  unfolding end_fault
  ends_of e = three (or-of _ _ e)
    where
      one : (eqb (length s) 0 ≡ true) ⊎ (ltb 32768 (length s) ≡ true) → Ends
      one (inl e) = inl (eqb-true _ 0 e)
      one (inr e) = inr (inl (ltb-true 32768 _ e))

      two : (eqb (length s) 0 || ltb 32768 (length s) ≡ true) ⊎ (ltb 0 (length s % 4) ≡ true) → Ends
      two (inl e) = one (or-of _ _ e)
      two (inr e) = inr (inr (inl (ltb-true 0 _ e)))

      three : (eqb (length s) 0 || ltb 32768 (length s) || ltb 0 (length s % 4) ≡ true) ⊎ (ltb 0 (get_or s (length s - 4) 0) ≡ true) → Ends
      three (inl e) = two (or-of _ _ e)
      three (inr e) = inr (inr (inr (ltb-true 0 _ e)))

  end_of : Ends → end_fault s ≡ true
  unfolding end_fault
  end_of h = four (eqb (length s) 0) (ltb 32768 (length s)) (ltb 0 (length s % 4)) (ltb 0 (get_or s (length s - 4) 0)) (tests h)
    where
      tests : Ends
          → (eqb (length s) 0 ≡ true)
          ⊎ ((ltb 32768 (length s) ≡ true) ⊎ ((ltb 0 (length s % 4) ≡ true) ⊎ (ltb 0 (get_or s (length s - 4) 0) ≡ true)))
      tests (inl e) = inl (eq-eqb (length s) 0 e)
      tests (inr (inl l)) = inr (inl (lt-ltb 32768 (length s) l))
      tests (inr (inr (inl l))) = inr (inr (inl (lt-ltb 0 (length s % 4) l)))
      tests (inr (inr (inr l))) = inr (inr (inr (lt-ltb 0 (get_or s (length s - 4) 0) l)))

  abbrev ws : List ℕ
  ws = words s

  abbrev is : List Word
  is = map decode (words s)

  abbrev fault : ℕ → Bool
  fault p = unknown (get_or ws p 0) || faulty (length ws) p (depth_at 0 is p) (decode (get_or ws p 0))

  fault-is : (j : ℕ) → fault_at (length ws) 0 0 ws j ≡ fault j
  unfolding fault_at
  fault-is j = rw (zero-add j) refl

  word_first : FirstOf fault (length ws) (first_fault (length ws) 0 0 ws)
  word_first = go (first_fault (length ws) 0 0 ws) (from_zero (fault_at (length ws) 0 0 ws) (length ws) (first_fault (length ws) 0 0 ws) (fault-first (length ws) 0 0 ws))
    where
      go : (f : Option ℕ) → FirstOf (fault_at (length ws) 0 0 ws) (length ws) f → FirstOf fault (length ws) f
      go (Some i) h = (h.0, sym (fault-is i) ∙ h.1, λ j l. sym (fault-is j) ∙ h.2 j l)
      go None h = λ j l. sym (fault-is j) ∙ h j l

  abbrev opened : ℕ → Bool
  opened p = lands_open is (get_or is p END)

  -- a word of the code as it is read
  at-word : (p : ℕ) → get_or is p END ≡ decode (get_or ws p 0)
  unfolding decode known
  at-word p = get_or-map decode ws p 0

  landing-of : FirstOf opened (length is) (first_landing is 0 is)
  landing-of = from_zero opened (length is) (first_landing is 0 is) (landing-first is 0 is)

  -- each fault has its test
  end_test : (p : ℕ) → CodeFault s 15 p → (p < 1) × (end_fault s ≡ true)
  end_test p (code_end n z h) = (omega arith, end_of h)
  end_test p (word n l e) = absurd (omega arith)
  end_test p (landing n l e o) = absurd (omega arith)

  word_test : (p : ℕ) → CodeFault s 16 p → (p < length ws) × (fault p ≡ true)
  word_test p (code_end n z h) = absurd (omega arith)
  word_test p (word n l e) = (l, (word-fault (length ws) p (depth_at 0 is p) (get_or ws p 0)).1 e)
  word_test p (landing n l e o) = absurd (omega arith)

  landing-test : (p : ℕ) → CodeFault s 17 p → (p < length is) × (opened p ≡ true)
  landing-test p (code_end n z h) = absurd (omega arith)
  landing-test p (word n l e) = absurd (omega arith)
  landing-test p (landing n l e o) = (rw (length-map ws decode) l, rw (at-word p) ((landing-fault is (get_or ws p 0)).1 (e, o)))

  from-15 : (n p : ℕ) → CodeFault s n p → 15 ≤ n
  from-15 n p (code_end k z h) = omega arith
  from-15 n p (word k l e) = omega arith
  from-15 n p (landing k l e o) = omega arith

  to-17 : (n p : ℕ) → 18 ≤ n → CodeFault s n p → ⊥
  to-17 n p h (code_end k z g) = omega arith
  to-17 n p h (word k l e) = omega arith
  to-17 n p h (landing k l e o) = omega arith

  abbrev seventeen : Checked
  seventeen = refuse_at refuse.Landing (first_landing is 0 is) (Ok tt)

  abbrev sixteen : Checked
  sixteen = refuse_at refuse.Word (first_fault (length ws) 0 0 ws) seventeen

  low-17 : Lowest (From (CodeFault s) 17) seventeen
  low-17 =
      lowest_step (CodeFault s) 17 refuse.Landing opened (length is) (λ i l e. let h = (landing-fault is (get_or ws i 0)).0 (rw (at-word i) at e) in (refl, refl, landing refl (rw (length-map ws decode) at l) h.0 h.1)) landing-test
      (first_landing is 0 is) landing-of (Ok tt) (lowest-end (CodeFault s) 18 to-17)

  low-16 : Lowest (From (CodeFault s) 16) sixteen
  low-16 =
      lowest_step (CodeFault s) 16 refuse.Word fault (length ws) (λ i l e. (refl, refl, word refl l ((word-fault (length ws) i (depth_at 0 is i) (get_or ws i 0)).0 e))) word_test (first_fault (length ws) 0 0 ws) word_first seventeen
      low-17

  pub code-lowest : Lowest (CodeFault s) (check_code s)
  unfolding check_code
  code-lowest = lowest-all (CodeFault s) 15 from-15 (check_code s) (go (end_fault s) refl)
    where
      step : (found : Option ℕ) → FirstOf (λ i. end_fault s) 1 found → Lowest (From (CodeFault s) 15) (refuse_at (λ i. refuse.CodeEnd) found sixteen)
      step found h =
          lowest_step (CodeFault s) 15 (λ i. refuse.CodeEnd) (λ i. end_fault s) 1
          (λ i l e. let z : i ≡ 0 = omega arith in (refl, sym z, code_end refl z (ends_of e))) end_test found h sixteen low-16

      go : (b : Bool) → end_fault s ≡ b → Lowest (From (CodeFault s) 15) (cond b (Err refuse.CodeEnd) sixteen)
      go true e = step (Some 0) (omega arith, e, λ j l. absurd (omega arith))
      go false e = step None (λ j l. e)
