-- A scan, turn by turn. Assumes nothing.
use mathlib.Core.Path.{◌≡◌, refl, sym, ap, ◌∙◌}
use mathlib.Core.Bool.{Bool, true, false}
use mathlib.Core.List.{List, [], ◌∷◌, map}
use Prim.Native.Nat.{ℕ, zero, suc, ◌+◌, ◌-◌, ◌*◌, ◌<◌}
use native.Mathlib.Omega.{arith}
use native.Mathlib.Nat.{add-zero, add-suc, suc-add}
use lib.ListN.{length, get_or, drop, length-map}
use lib.Seq.{drop-nil, drop-cons, drop-drop}
use Rattle.machine.specs.declared.Midway.{Midway}
use Rattle.words.specs.Word.{Word, END, LDS, LDI, NOT, ANDP, ORP, PAR, ANDT, R, S, RA, SA, JMPC, JMP, TRES, decode, words}
use Rattle.machine.specs.Machine.{Mach, Out, Frame, exec}
use Rattle.faults.specs.Check.{opens, depth_at}
use Rattle.machine.specs.inside.Midway.{enc, mach_in, midway, passed, Executes}
use Rattle.faults.proofs.CheckLaws.{depth-start, depth-on, read_at}
use Rattle.faults.proofs.PassedLaws.{Passed, Jump, jmp-lands, jmpc-lands}

-- to pass over k words is to go on at word pc + k
pub exec-drop : (x pc : ℕ) (is : List Word) (k : ℕ) (r : Mach) (a : Bool) (st : List Frame) (n : ℕ)
    → exec x pc is k r a st n ≡ exec x (pc + k) (drop k is) 0 r a st n
unfolding exec
exec-drop x pc [] k r a st n = rw (drop-nil {A = Word} k) refl
exec-drop x pc (i ∷ is) zero r a st n = rw (add-zero pc) refl
exec-drop x pc (i ∷ is) (suc k) r a st n = rw (add-suc pc k, ← suc-add pc k) (exec-drop x (suc pc) is k r a st n)

module _ (s : List ℕ) (p : Passed s) (at : ℕ) (here : at < length (words s)) (on : get_or s (at * 4) 0 ≡ 0 → ⊥) where
  -- the word that comes after is one of the code, and as many are open there as this word leaves open
  pub record Onward (i : Word) (next : ℕ) : Type 0 where
    pub inside : next < length (words s)
    pub deep : depth_at 0 (map decode (words s)) next ≡ opens i (depth_at 0 (map decode (words s)) at)

  falls : (i : Word) → decode (get_or (words s) at 0) ≡ i → Onward i (suc at + 0)
  falls i e =
      let last : at * 4 ≡ length s - 4 → ⊥ = λ z. on (ap (λ k. get_or s k 0) z ∙ p.ended.last) in
      rw (add-zero (suc at))
      (record {
        inside = omega (arith, p.ended.whole);
        deep = depth-on 0 (map decode (words s)) at (omega (arith, length-map (words s) decode)) ∙ rw (read_at (words s) at, e) refl;
      })

  jumps : (i : Word) (t : ℕ) → opens i (depth_at 0 (map decode (words s)) at) ≡ depth_at 0 (map decode (words s)) at → Jump s p at t → Onward i (suc at + (t - suc at))
  jumps i t o j =
      let e : suc at + (t - suc at) ≡ t = omega (arith, j.forward) in
      rw e (record { inside = j.inside; deep = j.lands ∙ sym (o ∙ j.flat) })

  pub onward : (i : Word) → decode (get_or (words s) at 0) ≡ i → (a : Bool) → Onward i (suc at + passed i at a)
  unfolding passed opens
  onward END e a = falls END e
  onward (LDS t) e a = falls (LDS t) e
  onward (LDI t) e a = falls (LDI t) e
  onward NOT e a = falls NOT e
  onward ANDP e a = falls ANDP e
  onward ORP e a = falls ORP e
  onward PAR e a = falls PAR e
  onward (ANDT t) e a = falls (ANDT t) e
  onward (R t) e a = falls (R t) e
  onward (S t) e a = falls (S t) e
  onward (RA t) e a = falls (RA t) e
  onward (SA t) e a = falls (SA t) e
  onward (JMPC t) e true = jumps (JMPC t) t refl (jmpc-lands s p at t here e)
  onward (JMPC t) e false = falls (JMPC t) e
  onward (JMP t) e a = jumps (JMP t) t refl (jmp-lands s p at t here e)
  onward TRES e a = falls TRES e

-- what holds at each turn: from here the scan ends as the whole scan does
pub record Going (s : List ℕ) (x : ℕ) (whole : Out) (m : Midway) : Type 0 where
  pub inside : m.at < length (words s)
  pub stack : List Frame
  pub held : m.aside ≡ enc stack
  pub deep : length stack ≡ depth_at 0 (map decode (words s)) m.at
  pub ran : ℕ
  pub same : exec x m.at (drop m.at (map decode (words s))) 0 (mach_in m) m.result stack ran ≡ whole

pub going_start : (s : List ℕ) (x : ℕ) (r : Mach) → 0 < length (words s)
    → Going s x (exec x 0 (map decode (words s)) 0 r false [] 0) (midway 0 false 0 r)
unfolding enc
going_start s x r h =
    record { inside = h; stack = []; held = refl; deep = sym (depth-start 0 (map decode (words s))); ran = 0; same = refl }

module _ (s : List ℕ) (x : ℕ) (whole : Out) (m : Midway) (g : Going s x whole m) where
  -- the word here and the words after it
  rest : (i : Word) → decode (get_or (words s) m.at 0) ≡ i → drop m.at (map decode (words s)) ≡ i ∷ drop (suc m.at) (map decode (words s))
  rest i e =
      drop-cons (map decode (words s)) m.at END (omega (arith, g.inside, length-map (words s) decode)) ∙ rw (read_at (words s) m.at, e) refl

  pub going_end : decode (get_or (words s) m.at 0) ≡ END → mach_in m ≡ whole.mach
  unfolding exec
  going_end e = ap (λ (o : Out). o.mach) (rw (rest END e) at g.same)

  pub going_on : Passed s → (get_or s (m.at * 4) 0 ≡ 0 → ⊥) → (i : Word) → decode (get_or (words s) m.at 0) ≡ i
      → (r : Midway) → Executes x i m r g.stack → (m.at < r.at) × Going s x whole r
  going_on p live i e r t =
      let o = onward s p m.at g.inside live i e m.result in
      let there : r.at ≡ suc m.at + passed i m.at m.result = t.next in
      let words-on : drop r.at (map decode (words s)) ≡ drop (passed i m.at m.result) (drop (suc m.at) (map decode (words s))) =
      rw there (sym (drop-drop (passed i m.at m.result) (suc m.at) (map decode (words s)))) in (
        omega arith,
        record {
          inside = omega (arith, o.inside);
          stack = t.stack;
          held = t.held;
          deep = t.deep ∙ ap (opens i) g.deep ∙ sym o.deep ∙ ap (depth_at 0 (map decode (words s))) (sym there);
          ran = suc g.ran;
          same =
              rw (words-on, there)
              (sym (exec-drop x (suc m.at) (drop (suc m.at) (map decode (words s))) (passed i m.at m.result) (mach_in r) r.result t.stack (suc g.ran))
              ∙ sym (t.goes g.ran (drop (suc m.at) (map decode (words s))))
              ∙ sym (ap (λ l. exec x m.at l 0 (mach_in m) m.result g.stack g.ran) (rest i e))
              ∙ g.same);
        },
      )
