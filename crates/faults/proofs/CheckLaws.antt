-- Laws of the check of code. Assumes nothing.
use Rattle.std.specs.Prelude.{Some, None}
use mathlib.Core.Path.{◌≡◌, refl, sym, ◌∙◌}
use mathlib.Core.Logic.{◌⊎◌, inl, inr}
use mathlib.Core.Bool.{Bool, true, false, not, ◌&&◌, ◌||◌}
use mathlib.Core.List.{List, [], ◌∷◌, map}
use Prim.Native.Nat.{ℕ, zero, suc, ◌+◌, ◌*◌, ◌≤◌, ◌<◌}
use native.Mathlib.Omega.{arith}
use native.Mathlib.Nat.{add-suc, suc-add, add-zero}
use borrow.Author.Tests.{eq-eqb, ne_eqb, eqb-true, ltb-false, leb-false, ltb-true, lt-ltb}
use lib.Dec.{eqb, ltb}
use lib.ListN.{length, get_or, drop, drop_of_length-le, get_or-map}
use lib.Seq.{drop-cons}
use Rattle.std.specs.declared.option.Option.{Option}
use Rattle.words.specs.declared.Op.{Op}
use Rattle.words.specs.declared.Op.TheVariants as op
use Rattle.words.specs.Op.{op_no}
use Rattle.words.specs.Word.{Word, END, LDS, LDI, NOT, ANDP, ORP, PAR, ANDT, R, S, RA, SA, JMPC, JMP, TRES, code_no, operand, word_no, known, decode}
use Rattle.faults.specs.inside.Marks.{jumps}
use Rattle.faults.specs.Check.{opens, strays, faulty, unknown, here_or, first_fault, depth_at, lands_open, first_landing}
use Rattle.words.proofs.WordLaws.{by_first, known-end, decode-at}

pub or_no : (a b : Bool) → (a || b) ≡ false → (a ≡ false) × (b ≡ false)
or_no false b h = (refl, h)
or_no true b h = (h, cc)

or-false : (a : Bool) → (a || false) ≡ a
or-false true = refl
or-false false = refl

apart : (b a : ℕ) → not (eqb b (b + a)) ≡ ltb 0 a
apart b zero = rw (add-zero b, eq-eqb b b refl) refl
apart b (suc a) = rw (ne_eqb b (b + suc a) (λ e. omega arith), lt-ltb 0 (suc a) (omega arith)) refl

-- a word by its code k and its operand a
module _ (n pc d k a : ℕ) (small : a < 16777216) where
  -- where the operand is not used, it is at fault unless it is 0
  pub spare : word_no (known k a) ≡ k * 16777216
      → (unknown (k * 16777216 + a) || faulty n pc d (decode (k * 16777216 + a))) ≡ (ltb 0 a || faulty n pc d (known k a))
  unfolding unknown
  spare e = rw (decode-at k a small, e, apart (k * 16777216) a) refl

  pub bare : word_no (known k a) ≡ k * 16777216 → faulty n pc d (known k a) ≡ false
      → (unknown (k * 16777216 + a) || faulty n pc d (decode (k * 16777216 + a))) ≡ ltb 0 a
  bare e f = spare e ∙ rw f (or-false (ltb 0 a))

  pub used : word_no (known k a) ≡ k * 16777216 + a
      → (unknown (k * 16777216 + a) || faulty n pc d (decode (k * 16777216 + a))) ≡ faulty n pc d (known k a)
  unfolding unknown
  used e = rw (decode-at k a small, e, eq-eqb (k * 16777216 + a) (k * 16777216 + a) refl) refl

  pub beyond : 15 ≤ k → (unknown (k * 16777216 + a) || faulty n pc d (decode (k * 16777216 + a))) ≡ true
  unfolding unknown word_no code_no operand
  beyond h = rw (decode-at k a small, known-end k a h, ne_eqb 0 (k * 16777216 + a) (λ e. omega arith)) refl

-- only AND(, OR( and ) change the depth
pub opens-flat : (o : Op) (a d : ℕ) → (o ≡ op.And → ⊥) → (o ≡ op.Or → ⊥) → (o ≡ op.Close → ⊥) → opens (known (op_no o) a) d ≡ d
unfolding opens known
opens-flat op.End a d x y z = refl
opens-flat op.Lds a d x y z = refl
opens-flat op.Ldi a d x y z = refl
opens-flat op.Not a d x y z = refl
opens-flat op.And a d x y z = absurd (x refl)
opens-flat op.Or a d x y z = absurd (y refl)
opens-flat op.Close a d x y z = absurd (z refl)
opens-flat op.Andt a d x y z = refl
opens-flat op.R a d x y z = refl
opens-flat op.S a d x y z = refl
opens-flat op.Ra a d x y z = refl
opens-flat op.Sa a d x y z = refl
opens-flat op.Jmpc a d x y z = refl
opens-flat op.Jmp a d x y z = refl
opens-flat op.Tres a d x y z = refl

-- one word further in the search for a fault
module _ (n d : ℕ) (ws : List ℕ) (pc : ℕ) (here : pc < length ws) where
  pub fault-on : (unknown (get_or ws pc 0) || faulty n pc d (decode (get_or ws pc 0))) ≡ false
      → first_fault n pc d (drop pc ws) ≡ first_fault n (suc pc) (opens (decode (get_or ws pc 0)) d) (drop (suc pc) ws)
  unfolding first_fault
  fault-on e = rw (drop-cons ws pc 0 here, e)

  pub fault-here : (unknown (get_or ws pc 0) || faulty n pc d (decode (get_or ws pc 0))) ≡ true → first_fault n pc d (drop pc ws) ≡ Some pc
  unfolding first_fault
  fault-here e = rw (drop-cons ws pc 0 here, e)

pub fault-end : (n d : ℕ) (ws : List ℕ) (pc : ℕ) → length ws ≤ pc → first_fault n pc d (drop pc ws) ≡ None
unfolding first_fault
fault-end n d ws pc h = rw (drop_of_length-le ws h)

-- one word further in the search for a landing
module _ (code is : List Word) (pc : ℕ) (here : pc < length is) where
  pub landing-on : lands_open code (get_or is pc END) ≡ false → first_landing code pc (drop pc is) ≡ first_landing code (suc pc) (drop (suc pc) is)
  unfolding first_landing
  landing-on e = rw (drop-cons is pc END here, e)

  pub landing-here : lands_open code (get_or is pc END) ≡ true → first_landing code pc (drop pc is) ≡ Some pc
  unfolding first_landing
  landing-here e = rw (drop-cons is pc END here, e)

pub landing-end : (code is : List Word) (pc : ℕ) → length is ≤ pc → first_landing code pc (drop pc is) ≡ None
unfolding first_landing
landing-end code is pc h = rw (drop_of_length-le is h)

-- one word further in the text
pub depth-on : (d : ℕ) (is : List Word) (t : ℕ) → t < length is → depth_at d is (suc t) ≡ opens (get_or is t END) (depth_at d is t)
unfolding depth_at
depth-on d [] t h = absurd (omega arith)
depth-on d (i ∷ []) zero h = refl
depth-on d (i ∷ j ∷ is) zero h = refl
depth-on d (i ∷ is) (suc t) h = depth-on (opens i d) is t (omega arith)

-- the word at a place, read
pub read_at : (ws : List ℕ) (k : ℕ) → get_or (map decode ws) k END ≡ decode (get_or ws k 0)
unfolding decode known
read_at ws k = get_or-map decode ws k 0

pub depth-start : (d : ℕ) (is : List Word) → depth_at d is 0 ≡ d
unfolding depth_at
depth-start d [] = refl
depth-start d (i ∷ is) = refl

pub opens-most : (i : Word) (d : ℕ) → opens i d ≤ suc d
unfolding opens
opens-most END d = omega arith
opens-most (LDS a) d = omega arith
opens-most (LDI a) d = omega arith
opens-most NOT d = omega arith
opens-most ANDP d = omega arith
opens-most ORP d = omega arith
opens-most PAR zero = omega arith
opens-most PAR (suc d) = omega arith
opens-most (ANDT a) d = omega arith
opens-most (R a) d = omega arith
opens-most (S a) d = omega arith
opens-most (RA a) d = omega arith
opens-most (SA a) d = omega arith
opens-most (JMPC a) d = omega arith
opens-most (JMP a) d = omega arith
opens-most TRES d = omega arith

here-none : (b : Bool) (pc : ℕ) (later : Option ℕ) → here_or b pc later ≡ None → (b ≡ false) × (later ≡ None)
here-none true pc later h = cc
here-none false pc later h = (refl, h)

-- where no word is found at fault, each is known and without fault
pub sound-from : (n pc d : ℕ) (ws : List ℕ) → first_fault n pc d ws ≡ None → (k : ℕ) → k < length ws
    → (unknown (get_or ws k 0) ≡ false) × (faulty n (pc + k) (depth_at d (map decode ws) k) (decode (get_or ws k 0)) ≡ false)
unfolding first_fault depth_at
sound-from n pc d [] h k l = absurd (omega arith)
sound-from n pc d (w ∷ ws) h zero l =
    rw (add-zero pc) (or_no (unknown w) (faulty n pc d (decode w)) (here-none _ pc _ h).0)
sound-from n pc d (w ∷ ws) h (suc k) l =
    rw (add-suc pc k, ← suc-add pc k) (sound-from n (suc pc) (opens (decode w) d) ws (here-none (unknown w || faulty n pc d (decode w)) pc _ h).1 k (omega arith))

pub lands-from : (code : List Word) (pc : ℕ) (is : List Word) → first_landing code pc is ≡ None → (k : ℕ) → k < length is
    → lands_open code (get_or is k END) ≡ false
unfolding first_landing
lands-from code pc [] h k l = absurd (omega arith)
lands-from code pc (i ∷ is) h zero l = (here-none _ pc _ h).0
lands-from code pc (i ∷ is) h (suc k) l = lands-from code (suc pc) is (here-none (lands_open code i) pc _ h).1 k (omega arith)

-- and the other way round
pub sound-to : (n pc d : ℕ) (ws : List ℕ)
    → ((k : ℕ) → k < length ws → (unknown (get_or ws k 0) ≡ false) × (faulty n (pc + k) (depth_at d (map decode ws) k) (decode (get_or ws k 0)) ≡ false))
    → first_fault n pc d ws ≡ None
unfolding first_fault depth_at
sound-to n pc d [] h = refl
sound-to n pc d (w ∷ ws) h =
    let f : faulty n pc d (decode w) ≡ false = rw (add-zero pc) at (h 0 (omega arith)).1 in
    rw ((h 0 (omega arith)).0, f)
    (sound-to n (suc pc) (opens (decode w) d) ws λ k l. ((h (suc k) (omega arith)).0, rw (suc-add pc k, ← add-suc pc k) (h (suc k) (omega arith)).1))

pub lands-to : (code : List Word) (pc : ℕ) (is : List Word) → ((k : ℕ) → k < length is → lands_open code (get_or is k END) ≡ false)
    → first_landing code pc is ≡ None
unfolding first_landing
lands-to code pc [] h = refl
lands-to code pc (i ∷ is) h = rw (h 0 (omega arith)) (lands-to code (suc pc) is λ k l. h (suc k) (omega arith))

and_both : (a b : Bool) → not (a && b) ≡ false → (a ≡ true) × (b ≡ true)
and_both true true h = (refl, refl)
and_both true false h = (refl, sym h)
and_both false b h = (sym h, cc)

-- a jump without fault goes forward, inside the code, with nothing open
pub jump_ok : (n pc d t : ℕ) → (strays n pc t || ltb 0 d) ≡ false → (pc < t) × (t < n) × (d ≡ 0)
jump_ok n pc d t h =
    let p = or_no (strays n pc t) (ltb 0 d) h in
    let q = and_both (ltb pc t) (ltb t n) p.0 in
    let z : d ≤ 0 = ltb-false 0 d p.1 in
    (ltb-true pc t q.0, ltb-true t n q.1, omega arith)

pub jump-code : (n pc d k a : ℕ) → (eqb k 12 || eqb k 13) ≡ true → faulty n pc d (known k a) ≡ false → (pc < a) × (a < n) × (d ≡ 0)
unfolding faulty known
jump-code n pc d k a e h = go (eqb k 12) refl (eqb k 13) refl e
  where
    go : (x : Bool) → eqb k 12 ≡ x → (y : Bool) → eqb k 13 ≡ y → (x || y) ≡ true → (pc < a) × (a < n) × (d ≡ 0)
    go true p y q z = let g = rw (eqb-true k 12 p) at h in jump_ok n pc d a g
    go false p true q z = let g = rw (eqb-true k 13 q) at h in jump_ok n pc d a g
    go false p false q z = cc

-- only 12 and 13 land
pub lands-code : (code : List Word) (k a : ℕ) → lands_open code (known k a) ≡ ((eqb k 12 || eqb k 13) && ltb 0 (depth_at 0 code a))
unfolding lands_open known
lands-code code k a =
    by_first (λ (k : ℕ). lands_open code (known k a) ≡ ((eqb k 12 || eqb k 13) && ltb 0 (depth_at 0 code a))) 15
    (refl, (refl, (refl, (refl, (refl, (refl, (refl, (refl, (refl, (refl, (refl, (refl, (refl, (refl, (refl, tt)))))))))))))))
    (λ k h. rw (known-end k a h) (simp (ne_eqb k 12 (λ e. omega arith), ne_eqb k 13 (λ e. omega arith))))
    k

pub jumps-both : (o : Op) → (o ≡ op.Jmpc) ⊎ (o ≡ op.Jmp) → jumps (op_no o) ≡ true
jumps-both o (inl e) = rw e refl
jumps-both o (inr e) = rw e refl

pub jumps-other : (o : Op) → (o ≡ op.Jmpc → ⊥) → (o ≡ op.Jmp → ⊥) → jumps (op_no o) ≡ false
jumps-other op.End x y = refl
jumps-other op.Lds x y = refl
jumps-other op.Ldi x y = refl
jumps-other op.Not x y = refl
jumps-other op.And x y = refl
jumps-other op.Or x y = refl
jumps-other op.Close x y = refl
jumps-other op.Andt x y = refl
jumps-other op.R x y = refl
jumps-other op.S x y = refl
jumps-other op.Ra x y = refl
jumps-other op.Sa x y = refl
jumps-other op.Jmpc x y = absurd (x refl)
jumps-other op.Jmp x y = absurd (y refl)
jumps-other op.Tres x y = refl

-- a word without fault leaves at most eight open
pub opens-eight : (n pc d : ℕ) (i : Word) → faulty n pc d i ≡ false → d ≤ 8 → opens i d ≤ 8
unfolding opens faulty
opens-eight n pc d END h l = l
opens-eight n pc d (LDS a) h l = l
opens-eight n pc d (LDI a) h l = l
opens-eight n pc d NOT h l = l
opens-eight n pc d ANDP h l = omega (arith, leb-false 8 d h)
opens-eight n pc d ORP h l = omega (arith, leb-false 8 d h)
opens-eight n pc zero PAR h l = omega arith
opens-eight n pc (suc d) PAR h l = omega arith
opens-eight n pc d (ANDT a) h l = l
opens-eight n pc d (R a) h l = l
opens-eight n pc d (S a) h l = l
opens-eight n pc d (RA a) h l = l
opens-eight n pc d (SA a) h l = l
opens-eight n pc d (JMPC a) h l = l
opens-eight n pc d (JMP a) h l = l
opens-eight n pc d TRES h l = l
