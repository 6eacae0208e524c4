-- The search for the first fault, turn by turn, with the targets of jumps marked on the way. Assumes nothing.
use Rattle.std.specs.Prelude.{Some, None}
use mathlib.Core.Path.{◌≡◌, refl, sym, ap, ◌∙◌}
use mathlib.Core.Bool.{Bool, true, false, ◌&&◌, ◌||◌}
use mathlib.Core.List.{List, map}
use Prim.Native.Nat.{ℕ, ◌+◌, ◌*◌, ◌/◌, ◌%◌, ◌≤◌, ◌<◌}
use native.Mathlib.Omega.{arith}
use native.Mathlib.Numerals.{add-one}
use borrow.Author.Count.{below_more}
use lib.Dec.{ltb}
use lib.ListN.{length, get_or, drop, length-map, replicate}
use Rattle.words.specs.Word.{Word, known, decode}
use Rattle.faults.specs.Check.{opens, faulty, unknown, first_fault, depth_at, lands_open, first_landing}
use Rattle.faults.specs.inside.Marks.{marked, noted, jumps}
use Rattle.faults.proofs.CheckLaws.{or_no, beyond, fault-on, fault-here, fault-end, depth-on, depth-start, read_at, opens-most, sound-from, lands-to, lands-code, jump-code}
use Rattle.faults.proofs.MarkLaws.{noted-now, noted-keeps, noted-before}

-- a parenthesis is open just before word k
abbrev pub inside : List ℕ → ℕ → Bool
inside ws k = ltb 0 (depth_at 0 (map decode ws) k)

-- d parentheses are open just before word `at`
pub record Deep (ws : List ℕ) (at d : ℕ) : Type 0 where
  pub few : d ≤ at
  pub deep : d ≡ depth_at 0 (map decode ws) at

pub deep-start : (ws : List ℕ) → Deep ws 0 0
deep-start ws = record { few = omega arith; deep = sym (depth-start 0 (map decode ws)) }

pub deep-on : (ws : List ℕ) (at d : ℕ) → at < length ws → Deep ws at d → {d' : ℕ} → d' ≡ opens (decode (get_or ws at 0)) d → Deep ws (at + 1) d'
deep-on ws at d h l ed =
    record {
      few = omega (arith, opens-most (decode (get_or ws at 0)) d, l.few);
      deep =
          ed ∙ rw (add-one at, depth-on 0 (map decode ws) at (omega (arith, length-map ws decode)), read_at ws at, ← l.deep) refl;
    }

-- what holds at word `at`, with d parentheses open: the targets of all jumps before it are marked, and, where no landing was met, none of
-- the words before it that are marked is inside a parenthesis
pub record Looking (ws : List ℕ) (n : ℕ) (targets : List ℕ) (landing : Bool) (at d : ℕ) : Type 0 where
  pub within : at ≤ n
  pub depth : Deep ws at d
  pub same : first_fault n at d (drop at ws) ≡ first_fault n 0 0 ws
  pub aimed : (j : ℕ) → j < at → jumps (get_or ws j 0 / 16777216) ≡ true → marked targets (get_or ws j 0 % 16777216) ≡ true
  pub shut : landing ≡ false → (k : ℕ) → k < at → marked targets k ≡ true → inside ws k ≡ false

pub looking-start : (ws : List ℕ) (n : ℕ) → Looking ws n (replicate 256 0) false 0 0
looking-start ws n =
    record {
      within = omega arith;
      depth = deep-start ws;
      same = refl;
      aimed = λ j h. absurd (omega arith);
      shut = λ e k h. absurd (omega arith);
    }

-- a landing was met before, or is met here
pub met-now : (landing : Bool) {here l : Bool} → here ≡ true → l ≡ true → l ≡ (landing || here)
met-now true h e = e
met-now false h e = e ∙ sym h

pub met-not : (landing : Bool) {here l : Bool} → here ≡ false → l ≡ landing → l ≡ (landing || here)
met-not true h e = e
met-not false h e = e ∙ sym h

and-not : (a b : Bool) → (a && b) ≡ false → b ≡ true → a ≡ false
and-not true b h e = sym e ∙ h
and-not false b h e = refl

-- a jump without fault
leap : (n at d w : ℕ) → (unknown w || faulty n at d (decode w)) ≡ false → jumps (w / 16777216) ≡ true → (at < w % 16777216) × (w % 16777216 < n) × (d ≡ 0)
unfolding decode
leap n at d w e j =
    jump-code n at d (w / 16777216) (w % 16777216) j (or_no (unknown w) (faulty n at d (known (w / 16777216) (w % 16777216))) e).1

module _ {ws : List ℕ} {n : ℕ} {targets : List ℕ} {landing : Bool} {at d : ℕ} (size : n ≡ length ws) (full : length targets ≡ 256) (l : Looking ws n targets landing at d) where
  pub looking-on : n ≤ 8192 → at < n → (unknown (get_or ws at 0) || faulty n at d (decode (get_or ws at 0))) ≡ false
      → {d' : ℕ} → d' ≡ opens (decode (get_or ws at 0)) d → {landing' : Bool} → landing' ≡ (landing || (ltb 0 d && marked targets at))
      → {targets' : List ℕ} → targets' ≡ noted (jumps (get_or ws at 0 / 16777216)) targets (get_or ws at 0 % 16777216)
      → Looking ws n targets' landing' (at + 1) d'
  looking-on small h e {d'} ed {landing'} el {targets'} et =
      let w = get_or ws at 0 in
      let jump = jumps (w / 16777216) in
      let t = w % 16777216 in
      let fits : jump ≡ true → t < 8192 = λ j. omega (arith, (leap n at d w e j).1) in
      record {
        within = omega arith;
        depth = deep-on ws at d (omega arith) l.depth ed;
        same = rw (ed, add-one at) (sym (fault-on n d ws at (omega arith) e) ∙ l.same);
        aimed =
            rw et
            (below_more _ _ (λ j b q. noted-keeps targets t full jump fits (get_or ws j 0 % 16777216) (l.aimed j b q))
            (λ q. rw q (noted-now targets t full (fits q))));
        shut = λ f k b m.
            let no = or_no landing (ltb 0 d && marked targets at) (sym el ∙ f) in
            let was : marked targets k ≡ true =
            sym (noted-before targets t full jump fits k (λ j. omega (arith, (leap n at d w e j).0))) ∙ rw et at m in
            below_more (λ (k : ℕ). marked targets k ≡ true → inside ws k ≡ false) _ (l.shut no.0)
            (λ q. rw (← l.depth.deep) (and-not (ltb 0 d) (marked targets at) no.1 q)) k b was;
      }

  -- the target of a jump is a word of the code
  pub looking-target : (unknown (get_or ws at 0) || faulty n at d (decode (get_or ws at 0))) ≡ false
      → jumps (get_or ws at 0 / 16777216) ≡ true → get_or ws at 0 % 16777216 < n
  looking-target e j = (leap n at d (get_or ws at 0) e j).1

  pub looking-hit : at < n → (unknown (get_or ws at 0) || faulty n at d (decode (get_or ws at 0))) ≡ true → first_fault n 0 0 ws ≡ Some at
  looking-hit h e = sym l.same ∙ fault-here n d ws at (omega arith) e

  -- a code byte that nothing has
  pub looking-unknown : at < n → 15 ≤ get_or ws at 0 / 16777216 → first_fault n 0 0 ws ≡ Some at
  looking-unknown h k =
      let w = get_or ws at 0 in
      let whole : w / 16777216 * 16777216 + w % 16777216 ≡ w = omega arith in
      sym l.same ∙ fault-here n d ws at (omega arith) (rw whole at (beyond n at d (w / 16777216) (w % 16777216) (omega arith) k))

  pub looking-end : n ≤ at → first_fault n 0 0 ws ≡ None
  looking-end h = sym l.same ∙ fault-end n d ws at (omega arith)

  -- without a fault each target was met, and none of them inside a parenthesis
  pub looking-sound : n ≤ at → landing ≡ false → first_landing (map decode ws) 0 (map decode ws) ≡ None
  unfolding decode
  looking-sound h f = lands-to is 0 is λ j b. ap (lands_open is) (read_at ws j) ∙ lands-code is (op j) (arg j) ∙ go j (omega (arith, length-map ws decode)) (jumps (op j)) refl
    where
      is : List Word
      is = map decode ws

      op : ℕ → ℕ
      op j = get_or ws j 0 / 16777216

      arg : ℕ → ℕ
      arg j = get_or ws j 0 % 16777216

      go : (j : ℕ) → j < n → (b : Bool) → jumps (op j) ≡ b → (b && inside ws (arg j)) ≡ false
      go j b true e =
          let g = jump-code n (0 + j) _ (op j) (arg j) e (sound-from n 0 0 ws (looking-end h) j (omega arith)).1 in
          l.shut f (arg j) (omega (arith, g.1)) (l.aimed j (omega arith) e)
      go j b false e = refl
