-- The tests of the check of code are the paper's WORD faults.
use mathlib.Core.Path.{◌≡◌, refl, sym, ap, ◌∙◌}
use mathlib.Core.Logic.{◌⊎◌, ◌↔◌, inl, inr}
use mathlib.Core.Bool.{Bool, true, false, not, ◌&&◌, ◌||◌}
use mathlib.Core.List.{List, [], ◌∷◌}
use Prim.Native.Nat.{ℕ, ◌+◌, ◌*◌, ◌/◌, ◌%◌, ◌≤◌, ◌<◌}
use native.Mathlib.Omega.{arith}
use borrow.Author.Tests.{eqb-true, eq-eqb, leb-true, le-leb, ltb-true, ltb-false, lt-ltb, le-ltb}
use lib.Dec.{eqb, leb, ltb}
use Rattle.words.specs.Word.{Word, code_no, operand, word_no, known, decode}
use Rattle.faults.specs.Check.{strays, faulty, unknown, depth_at, lands_open}
use Rattle.words.proofs.WordLaws.{by_first}
use Rattle.faults.proofs.CheckLaws as check
use Rattle.refusals.specs.WordFaults.{OneOf, WordFault, no_code, spare, flag, variable, jump, closing, ninth, inside}

-- tests joined
pub or-of : (a b : Bool) → a || b ≡ true → (a ≡ true) ⊎ (b ≡ true)
or-of true b e = inl refl
or-of false b e = inr e

either : {X : Type 0} (a b : Bool) → (a ≡ true → X) → (b ≡ true → X) → a || b ≡ true → X
either true b f g e = f refl
either false b f g e = g e

or_left : (a b : Bool) → a ≡ true → a || b ≡ true
or_left true b e = refl
or_left false b e = absurd (let z : ◌≡◌ {A = ℕ} 0 1 = cc in omega arith)

or_right : (a b : Bool) → b ≡ true → a || b ≡ true
or_right true b e = refl
or_right false b e = e

-- the test of a jump's target
strays-of : (n p o : ℕ) → strays n p o ≡ true → (o ≤ p) ⊎ (n ≤ o)
strays-of n p o e = go (ltb p o) refl (ltb o n) refl e
  where
    go : (a : Bool) → ltb p o ≡ a → (b : Bool) → ltb o n ≡ b → not (a && b) ≡ true → (o ≤ p) ⊎ (n ≤ o)
    go false f b g e = inl (ltb-false p o f)
    go true f false g e = inr (ltb-false o n g)
    go true f true g e = absurd (let z : ◌≡◌ {A = ℕ} 0 1 = cc in omega arith)

of-strays : (n p o : ℕ) → (o ≤ p) ⊎ (n ≤ o) → strays n p o ≡ true
of-strays n p o (inl l) = rw (le-ltb p o l) refl
of-strays n p o (inr l) = go (ltb p o)
  where
    go : (a : Bool) → not (a && ltb o n) ≡ true
    go true = rw (le-ltb o n l) refl
    go false = refl

-- the test of a word, with code c and operand o
unfoldable test : ℕ → ℕ → ℕ → ℕ → ℕ → Bool
test n p d o c = unknown (c * 16777216 + o) || faulty n p d (decode (c * 16777216 + o))

module _ (n p d o : ℕ) (small : o < 16777216) where
  is-0 : test n p d o 0 ≡ (ltb 0 o || ltb 0 d)
  unfolding test faulty word_no code_no operand known
  is-0 = check.spare n p d 0 o small refl

  is-1 : test n p d o 1 ≡ (ltb 31 o || ltb 0 d)
  unfolding test faulty word_no code_no operand known
  is-1 = check.used n p d 1 o small refl

  is-2 : test n p d o 2 ≡ (ltb 15 o)
  unfolding test faulty word_no code_no operand known
  is-2 = check.used n p d 2 o small refl

  is-3 : test n p d o 3 ≡ (ltb 0 o)
  unfolding test faulty word_no code_no operand known
  is-3 = check.bare n p d 3 o small refl refl

  is-4 : test n p d o 4 ≡ (ltb 0 o || leb 8 d)
  unfolding test faulty word_no code_no operand known
  is-4 = check.spare n p d 4 o small refl

  is-5 : test n p d o 5 ≡ (ltb 0 o || leb 8 d)
  unfolding test faulty word_no code_no operand known
  is-5 = check.spare n p d 5 o small refl

  is-6 : test n p d o 6 ≡ (ltb 0 o || eqb d 0)
  unfolding test faulty word_no code_no operand known
  is-6 = check.spare n p d 6 o small refl

  is-7 : test n p d o 7 ≡ (false)
  unfolding test faulty word_no code_no operand known
  is-7 = check.used n p d 7 o small refl

  is-8 : test n p d o 8 ≡ (ltb 31 o)
  unfolding test faulty word_no code_no operand known
  is-8 = check.used n p d 8 o small refl

  is-9 : test n p d o 9 ≡ (ltb 31 o)
  unfolding test faulty word_no code_no operand known
  is-9 = check.used n p d 9 o small refl

  is-10 : test n p d o 10 ≡ (ltb 15 o)
  unfolding test faulty word_no code_no operand known
  is-10 = check.used n p d 10 o small refl

  is-11 : test n p d o 11 ≡ (ltb 15 o)
  unfolding test faulty word_no code_no operand known
  is-11 = check.used n p d 11 o small refl

  is-12 : test n p d o 12 ≡ (strays n p o || ltb 0 d)
  unfolding test faulty word_no code_no operand known
  is-12 = check.used n p d 12 o small refl

  is-13 : test n p d o 13 ≡ (strays n p o || ltb 0 d)
  unfolding test faulty word_no code_no operand known
  is-13 = check.used n p d 13 o small refl

  is-14 : test n p d o 14 ≡ (ltb 0 o)
  unfolding test faulty word_no code_no operand known
  is-14 = check.bare n p d 14 o small refl refl

  of-0 : test n p d o 0 ≡ true → WordFault n p d 0 o
  of-0 e = either (ltb 0 o) (ltb 0 d) (λ f. spare (inl refl) (ltb-true 0 o f)) (λ f. inside (inr (inr (inr (inl refl)))) (ltb-true 0 d f)) (sym is-0 ∙ e)

  of-1 : test n p d o 1 ≡ true → WordFault n p d 1 o
  of-1 e = either (ltb 31 o) (ltb 0 d) (λ f. flag (inl refl) (ltb-true 31 o f)) (λ f. inside (inl refl) (ltb-true 0 d f)) (sym is-1 ∙ e)

  of-2 : test n p d o 2 ≡ true → WordFault n p d 2 o
  of-2 e = variable (inl refl) (ltb-true 15 o (sym is-2 ∙ e))

  of-3 : test n p d o 3 ≡ true → WordFault n p d 3 o
  of-3 e = spare (inr (inl refl)) (ltb-true 0 o (sym is-3 ∙ e))

  of-4 : test n p d o 4 ≡ true → WordFault n p d 4 o
  of-4 e = either (ltb 0 o) (leb 8 d) (λ f. spare (inr (inr (inl refl))) (ltb-true 0 o f)) (λ f. ninth (inl refl) (leb-true 8 d f)) (sym is-4 ∙ e)

  of-5 : test n p d o 5 ≡ true → WordFault n p d 5 o
  of-5 e = either (ltb 0 o) (leb 8 d) (λ f. spare (inr (inr (inr (inl refl)))) (ltb-true 0 o f)) (λ f. ninth (inr (inl refl)) (leb-true 8 d f)) (sym is-5 ∙ e)

  of-6 : test n p d o 6 ≡ true → WordFault n p d 6 o
  of-6 e = either (ltb 0 o) (eqb d 0) (λ f. spare (inr (inr (inr (inr (inl refl))))) (ltb-true 0 o f)) (λ f. closing refl (eqb-true d 0 f)) (sym is-6 ∙ e)

  of-7 : test n p d o 7 ≡ true → WordFault n p d 7 o
  of-7 e = absurd (let f : ◌≡◌ {A = Bool} false true = sym is-7 ∙ e in let z : ◌≡◌ {A = ℕ} 0 1 = cc in omega arith)

  of-8 : test n p d o 8 ≡ true → WordFault n p d 8 o
  of-8 e = flag (inr (inl refl)) (ltb-true 31 o (sym is-8 ∙ e))

  of-9 : test n p d o 9 ≡ true → WordFault n p d 9 o
  of-9 e = flag (inr (inr (inl refl))) (ltb-true 31 o (sym is-9 ∙ e))

  of-10 : test n p d o 10 ≡ true → WordFault n p d 10 o
  of-10 e = variable (inr (inl refl)) (ltb-true 15 o (sym is-10 ∙ e))

  of-11 : test n p d o 11 ≡ true → WordFault n p d 11 o
  of-11 e = variable (inr (inr (inl refl))) (ltb-true 15 o (sym is-11 ∙ e))

  of-12 : test n p d o 12 ≡ true → WordFault n p d 12 o
  of-12 e = either (strays n p o) (ltb 0 d) (λ f. jump (inl refl) (strays-of n p o f)) (λ f. inside (inr (inr (inl refl))) (ltb-true 0 d f)) (sym is-12 ∙ e)

  of-13 : test n p d o 13 ≡ true → WordFault n p d 13 o
  of-13 e = either (strays n p o) (ltb 0 d) (λ f. jump (inr (inl refl)) (strays-of n p o f)) (λ f. inside (inr (inl refl)) (ltb-true 0 d f)) (sym is-13 ∙ e)

  of-14 : test n p d o 14 ≡ true → WordFault n p d 14 o
  of-14 e = spare (inr (inr (inr (inr (inr (inl refl)))))) (ltb-true 0 o (sym is-14 ∙ e))

  fault-of : (c : ℕ) → test n p d o c ≡ true → WordFault n p d c o
  fault-of = by_first (λ c. test n p d o c ≡ true → WordFault n p d c o) 15 (of-0, (of-1, (of-2, (of-3, (of-4, (of-5, (of-6, (of-7, (of-8, (of-9, (of-10, (of-11, (of-12, (of-13, (of-14, tt))))))))))))))) (λ c l e. no_code l)

  beyond : (c : ℕ) → 14 < c → test n p d o c ≡ true
  unfolding test
  beyond c l = check.beyond n p d c o small l

  of-fault : (c : ℕ) → WordFault n p d c o → test n p d o c ≡ true
  of-fault c (no_code l) = beyond c l
  of-fault c (spare (inl e) l) = rw e (is-0 ∙ or_left (ltb 0 o) (ltb 0 d) (lt-ltb 0 o l))
  of-fault c (spare (inr (inl e)) l) = rw e (is-3 ∙ lt-ltb 0 o l)
  of-fault c (spare (inr (inr (inl e))) l) = rw e (is-4 ∙ or_left (ltb 0 o) (leb 8 d) (lt-ltb 0 o l))
  of-fault c (spare (inr (inr (inr (inl e)))) l) = rw e (is-5 ∙ or_left (ltb 0 o) (leb 8 d) (lt-ltb 0 o l))
  of-fault c (spare (inr (inr (inr (inr (inl e))))) l) = rw e (is-6 ∙ or_left (ltb 0 o) (eqb d 0) (lt-ltb 0 o l))
  of-fault c (spare (inr (inr (inr (inr (inr (inl e)))))) l) = rw e (is-14 ∙ lt-ltb 0 o l)
  of-fault c (spare (inr (inr (inr (inr (inr (inr x)))))) l) = elim x [ ]
  of-fault c (flag (inl e) l) = rw e (is-1 ∙ or_left (ltb 31 o) (ltb 0 d) (lt-ltb 31 o l))
  of-fault c (flag (inr (inl e)) l) = rw e (is-8 ∙ lt-ltb 31 o l)
  of-fault c (flag (inr (inr (inl e))) l) = rw e (is-9 ∙ lt-ltb 31 o l)
  of-fault c (flag (inr (inr (inr x))) l) = elim x [ ]
  of-fault c (variable (inl e) l) = rw e (is-2 ∙ lt-ltb 15 o l)
  of-fault c (variable (inr (inl e)) l) = rw e (is-10 ∙ lt-ltb 15 o l)
  of-fault c (variable (inr (inr (inl e))) l) = rw e (is-11 ∙ lt-ltb 15 o l)
  of-fault c (variable (inr (inr (inr x))) l) = elim x [ ]
  of-fault c (jump (inl e) l) = rw e (is-12 ∙ or_left (strays n p o) (ltb 0 d) (of-strays n p o l))
  of-fault c (jump (inr (inl e)) l) = rw e (is-13 ∙ or_left (strays n p o) (ltb 0 d) (of-strays n p o l))
  of-fault c (jump (inr (inr x)) l) = elim x [ ]
  of-fault c (closing e l) = rw e (is-6 ∙ or_right (ltb 0 o) (eqb d 0) (eq-eqb d 0 l))
  of-fault c (ninth (inl e) l) = rw e (is-4 ∙ or_right (ltb 0 o) (leb 8 d) (le-leb 8 d l))
  of-fault c (ninth (inr (inl e)) l) = rw e (is-5 ∙ or_right (ltb 0 o) (leb 8 d) (le-leb 8 d l))
  of-fault c (ninth (inr (inr x)) l) = elim x [ ]
  of-fault c (inside (inl e) l) = rw e (is-1 ∙ or_right (ltb 31 o) (ltb 0 d) (lt-ltb 0 d l))
  of-fault c (inside (inr (inl e)) l) = rw e (is-13 ∙ or_right (strays n p o) (ltb 0 d) (lt-ltb 0 d l))
  of-fault c (inside (inr (inr (inl e))) l) = rw e (is-12 ∙ or_right (strays n p o) (ltb 0 d) (lt-ltb 0 d l))
  of-fault c (inside (inr (inr (inr (inl e)))) l) = rw e (is-0 ∙ or_right (ltb 0 o) (ltb 0 d) (lt-ltb 0 d l))
  of-fault c (inside (inr (inr (inr (inr x)))) l) = elim x [ ]

-- a number that is a word at fault
pub word-fault : (n p d w : ℕ) → ((unknown w || faulty n p d (decode w)) ≡ true) ↔ WordFault n p d (w / 16777216) (w % 16777216)
unfolding test
word-fault n p d w =
    let small : w % 16777216 < 16777216 = omega arith in
    let is : w / 16777216 * 16777216 + w % 16777216 ≡ w = omega arith in
    let same : test n p d (w % 16777216) (w / 16777216) ≡ (unknown w || faulty n p d (decode w)) =
    ap (λ v. unknown v || faulty n p d (decode v)) is in
    (λ e. fault-of n p d (w % 16777216) small (w / 16777216) (same ∙ e), λ h. sym same ∙ of-fault n p d (w % 16777216) small (w / 16777216) h)

-- and one that is a jump to where a parenthesis is open
jumps-of : (c : ℕ) (held : Bool) → (eqb c 12 || eqb c 13) && held ≡ true → OneOf c (12 ∷ 13 ∷ []) × (held ≡ true)
jumps-of c held = go (eqb c 12) refl (eqb c 13) refl
  where
    go : (a : Bool) → eqb c 12 ≡ a → (b : Bool) → eqb c 13 ≡ b → (a || b) && held ≡ true → OneOf c (12 ∷ 13 ∷ []) × (held ≡ true)
    go true f b g e = (inl (eqb-true c 12 f), e)
    go false f true g e = (inr (inl (eqb-true c 13 g)), e)
    go false f false g e = absurd (let z : ◌≡◌ {A = ℕ} 0 1 = cc in omega arith)

of-jumps : (c : ℕ) (held : Bool) → OneOf c (12 ∷ 13 ∷ []) → held ≡ true → (eqb c 12 || eqb c 13) && held ≡ true
of-jumps c held (inl f) e = rw (f, e) refl
of-jumps c held (inr (inl f)) e = rw (f, e) refl
of-jumps c held (inr (inr x)) e = elim x [ ]

pub landing-fault : (code : List Word) (w : ℕ)
    → (lands_open code (decode w) ≡ true) ↔ (OneOf (w / 16777216) (12 ∷ 13 ∷ []) × (0 < depth_at 0 code (w % 16777216)))
unfolding decode
landing-fault code w =
    let is = check.lands-code code (w / 16777216) (w % 16777216) in
    let deep : ℕ = depth_at 0 code (w % 16777216) in (
      λ e. let h = jumps-of (w / 16777216) (ltb 0 deep) (sym is ∙ e) in (h.0, ltb-true 0 deep h.1),
      λ h. is ∙ of-jumps (w / 16777216) (ltb 0 deep) h.0 (lt-ltb 0 deep h.1),
    )
