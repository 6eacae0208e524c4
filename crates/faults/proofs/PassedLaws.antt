-- What the check answers, test by test, and what code that passed it is like. Assumes nothing.
use Rattle.std.specs.Prelude.{Ok, Err, Some, None}
use mathlib.Core.Path.{◌≡◌, refl}
use mathlib.Core.Bool.{Bool, true, false, ◌||◌, cond}
use mathlib.Core.List.{List, map}
use Prim.Native.Nat.{ℕ, zero, suc, ◌-◌, ◌*◌, ◌%◌, ◌≤◌, ◌<◌}
use native.Mathlib.Omega.{arith}
use native.Mathlib.Nat.{zero-add}
use borrow.Author.Tests.{eqb-false, ne_eqb, ltb-false, le-ltb}
use lib.Dec.{eqb, ltb}
use lib.ListN.{length, get_or, length-map}
use Rattle.answer.specs.declared.Refusal.TheVariants as refuse
use Rattle.std.specs.declared.option.Option.{Option}
use Rattle.answer.specs.Lowest.{refuse_at}
use Rattle.words.specs.Word.{JMPC, JMP, decode, words}
use Rattle.faults.specs.Check.{end_fault, strays, faulty, unknown, first_fault, depth_at, lands_open, first_landing, check_code}
use Rattle.words.proofs.WordLaws.{words-length}
use Rattle.faults.proofs.CheckLaws.{or_no, sound-from, sound-to, lands-from, lands-to, read_at, jump_ok, depth-start, depth-on, opens-eight}

-- 15, then 16, then 17
module _ (s : List ℕ) where
  pub check-end : end_fault s ≡ true → check_code s ≡ Err refuse.CodeEnd
  unfolding check_code
  check-end e = rw e

  pub check-word : end_fault s ≡ false → {w : ℕ} → first_fault (length (words s)) 0 0 (words s) ≡ Some w → check_code s ≡ Err (refuse.Word w)
  unfolding check_code
  check-word e f = rw (e, f)

  pub check-landing : end_fault s ≡ false → first_fault (length (words s)) 0 0 (words s) ≡ None
      → check_code s ≡ refuse_at refuse.Landing (first_landing (map decode (words s)) 0 (map decode (words s))) (Ok tt)
  unfolding check_code
  check-landing e f = rw (e, f)

  pub check-passed : end_fault s ≡ false → first_fault (length (words s)) 0 0 (words s) ≡ None
      → first_landing (map decode (words s)) 0 (map decode (words s)) ≡ None → check_code s ≡ (Ok tt)
  unfolding check_code
  check-passed e f g = rw (e, f, g)

-- a good end
pub record Ended (s : List ℕ) : Type 0 where
  pub some : 0 < length s
  pub few : length s ≤ 32768
  pub whole : length s ≡ length (words s) * 4
  pub last : get_or s (length s - 4) 0 ≡ 0

pub end-good : (s : List ℕ) → end_fault s ≡ false → Ended s
unfolding end_fault
end-good s h =
    let p = or_no (eqb (length s) 0 || ltb 32768 (length s) || ltb 0 (length s % 4)) (ltb 0 (get_or s (length s - 4) 0)) h in
    let q = or_no (eqb (length s) 0 || ltb 32768 (length s)) (ltb 0 (length s % 4)) p.0 in
    let r = or_no (eqb (length s) 0) (ltb 32768 (length s)) q.0 in
    let some : length s ≡ 0 → ⊥ = eqb-false (length s) 0 r.0 in
    let whole : length s % 4 ≤ 0 = ltb-false 0 (length s % 4) q.1 in
    record {
      some = omega arith;
      few = ltb-false 32768 (length s) r.1;
      whole = omega (arith, words-length s);
      last = omega (arith, ltb-false 0 (get_or s (length s - 4) 0) p.1);
    }

-- what the three numbers rule out
pub record Parts (s : List ℕ) : Type 0 where
  pub ended : end_fault s ≡ false
  pub sound : first_fault (length (words s)) 0 0 (words s) ≡ None
  pub lands : first_landing (map decode (words s)) 0 (map decode (words s)) ≡ None

pub parts : (s : List ℕ) → check_code s ≡ (Ok tt) → Parts s
unfolding check_code
parts s h =
    go (end_fault s) refl (first_fault (length (words s)) 0 0 (words s)) refl (first_landing (map decode (words s)) 0 (map decode (words s))) refl h
  where
    go : (x : Bool) → end_fault s ≡ x → (y : Option ℕ) → first_fault (length (words s)) 0 0 (words s) ≡ y
        → (z : Option ℕ) → first_landing (map decode (words s)) 0 (map decode (words s)) ≡ z
        → cond x (Err refuse.CodeEnd) (refuse_at refuse.Word y (refuse_at refuse.Landing z (Ok tt))) ≡ (Ok tt) → Parts s
    go true p y q z r e = cc
    go false p (Some w) q z r e = cc
    go false p None q (Some w) r e = cc
    go false p None q None r e = record { ended = p; sound = q; lands = r }

-- code that passed: its length, and each of its words
pub record Passed (s : List ℕ) : Type 0 where
  pub ended : Ended s
  pub known : (k : ℕ) → k < length (words s) → unknown (get_or (words s) k 0) ≡ false
  pub sound : (k : ℕ) → k < length (words s) → faulty (length (words s)) k (depth_at 0 (map decode (words s)) k) (decode (get_or (words s) k 0)) ≡ false
  pub lands : (k : ℕ) → k < length (words s) → lands_open (map decode (words s)) (decode (get_or (words s) k 0)) ≡ false

pub accepted : (s : List ℕ) → check_code s ≡ (Ok tt) → Passed s
accepted s h =
    let p = parts s h in
    record {
      ended = end-good s p.ended;
      known = λ k l. (sound-from (length (words s)) 0 0 (words s) p.sound k l).0;
      sound = λ k l. rw (zero-add k) at (sound-from (length (words s)) 0 0 (words s) p.sound k l).1;
      lands = λ k l. rw (read_at (words s) k) at (lands-from (map decode (words s)) 0 (map decode (words s)) p.lands k (omega (arith, length-map (words s) decode)));
    }

pub end-from : (s : List ℕ) → Ended s → end_fault s ≡ false
unfolding end_fault
end-from s e =
    rw (
      ne_eqb (length s) 0 (λ z. omega (arith, e.some)),
      le-ltb 32768 (length s) e.few,
      le-ltb 0 (length s % 4) (omega (arith, e.whole)),
      le-ltb 0 (get_or s (length s - 4) 0) (omega (arith, e.last)),
    )

-- and so the check accepts exactly what these rules admit
pub accepts : (s : List ℕ) → Passed s → check_code s ≡ (Ok tt)
accepts s p =
    check-passed s (end-from s p.ended)
    (sound-to (length (words s)) 0 0 (words s) λ k l. (p.known k l, rw (zero-add k) (p.sound k l)))
    (lands-to (map decode (words s)) 0 (map decode (words s)) λ k l. rw (read_at (words s) k) (p.lands k (omega (arith, length-map (words s) decode))))

module _ (s : List ℕ) (p : Passed s) where
  -- a jump goes to a later word of the code, with nothing open at either
  pub record Jump (k t : ℕ) : Type 0 where
    pub forward : k < t
    pub inside : t < length (words s)
    pub flat : depth_at 0 (map decode (words s)) k ≡ 0
    pub lands : depth_at 0 (map decode (words s)) t ≡ 0

  jump-from : (k t : ℕ) → (strays (length (words s)) k t || ltb 0 (depth_at 0 (map decode (words s)) k)) ≡ false
      → ltb 0 (depth_at 0 (map decode (words s)) t) ≡ false → Jump k t
  jump-from k t f g =
      let j = jump_ok (length (words s)) k (depth_at 0 (map decode (words s)) k) t f in
      record { forward = j.0; inside = j.1; flat = j.2; lands = omega (arith, ltb-false 0 (depth_at 0 (map decode (words s)) t) g) }

  pub jmp-lands : (k t : ℕ) → k < length (words s) → decode (get_or (words s) k 0) ≡ JMP t → Jump k t
  unfolding faulty lands_open
  jmp-lands k t l e = jump-from k t (rw e at (p.sound k l)) (rw e at (p.lands k l))

  pub jmpc-lands : (k t : ℕ) → k < length (words s) → decode (get_or (words s) k 0) ≡ JMPC t → Jump k t
  unfolding faulty lands_open
  jmpc-lands k t l e = jump-from k t (rw e at (p.sound k l)) (rw e at (p.lands k l))

  -- never more than eight are open
  pub depth-most : (k : ℕ) → k ≤ length (words s) → depth_at 0 (map decode (words s)) k ≤ 8
  depth-most zero h = omega (arith, depth-start 0 (map decode (words s)))
  depth-most (suc k) h =
      rw (depth-on 0 (map decode (words s)) k (omega (arith, length-map (words s) decode)), read_at (words s) k)
      (opens-eight (length (words s)) k (depth_at 0 (map decode (words s)) k) (decode (get_or (words s) k 0)) (p.sound k (omega arith)) (depth-most k (omega arith)))
