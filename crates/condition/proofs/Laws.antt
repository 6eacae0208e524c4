-- Laws of reading a condition: how far the cursor and the count of nodes go, and what the code's steps find. Assumes nothing.
use mathlib.Core.Path.{◌≡◌, refl, sym, ap, ◌∙◌}
use mathlib.Core.List.{List}
use mathlib.Core.Bool.{Bool, true, false}
use Prim.Native.Nat.{ℕ, zero, suc, ◌+◌, ◌*◌, ◌-◌, ◌≤◌, ◌<◌}
use native.Mathlib.Omega.{arith}
use lib.ListN.{length}
use lib.Dec.{leb, eqb}
use denote.Enum.Bare.{sameb}
use Rattle.condition.specs.contracts.Operator.{the_type}
use Rattle.answer.specs.declared.Refusal.{Refusal}
use Rattle.answer.specs.declared.Refusal.TheVariants.{Short, Big}
use Rattle.bits.specs.Field.{field_at}
use Rattle.bits.specs.Read.{Ans, ok, no}
use Rattle.bits.specs.declared.Cursor.{Cursor}
use Rattle.bits.specs.inside.Told.{told}
use Rattle.condition.proofs.TreeLaws.{tree-ind}
use Rattle.condition.specs.Cond.{Cond, neg, eval, word_count}
use Rattle.condition.specs.Reading.{Counted, counted, joined, operands_at, node_at, cond_at}
use Rattle.condition.specs.inside.Facts.{form_of, tag_of, facts_of, neg_facts, join_facts}
use Rattle.condition.specs.declared.Facts.{Facts}
use Rattle.condition.specs.declared.Operator.{Operator}
use Rattle.condition.specs.declared.Operator.TheVariants.{Not, And, Or}
use Rattle.std.specs.Prelude.{Some, None, Ok, Err}
use Rattle.bits.proofs.ToldLaws.{told-got, told-bad}

-- what a condition read from bit `at` behind `seen` nodes leaves: the bit `next` and n nodes
pub record Went (s : List ℕ) (seen at n next : ℕ) : Type 0 where
  pub on : at < next
  pub inside : next ≤ length s * 8
  pub pace : next + 6 * seen ≤ at + 6 * n
  pub few : n ≤ 31

pub cond-went : (room : ℕ) (s : List ℕ) (k seen at : ℕ) (x : Counted) (next : ℕ) → cond_at room s k seen at ≡ ok x next
    → Went s seen at x.count next
cond-went room s k =
    tree-ind s k (λ room at seen t n next. Went s seen at n next)
    (λ room at seen v next f l h g. omega (arith, g.after, g.inside))
    (λ room at seen t n next f h p. omega arith)
    (λ room at seen t m mid u n next f h p q. omega arith)
    (λ room at seen t m mid u n next f h p q. omega arith)
    room

-- two words at most for each node
pub words-few : (room : ℕ) (s : List ℕ) (k seen at : ℕ) (x : Counted) (next : ℕ) → cond_at room s k seen at ≡ ok x next
    → word_count x.tree + 2 * seen ≤ 2 * x.count
unfolding word_count
words-few room s k =
    tree-ind s k (λ room at seen t n next. word_count t + 2 * seen ≤ 2 * n)
    (λ room at seen v next f l h g. omega arith)
    (λ room at seen t n next f h p. omega arith)
    (λ room at seen t m mid u n next f h p q. omega arith)
    (λ room at seen t m mid u n next f h p q. omega arith)
    room

-- what the code's steps find
pub cond_short : (room : ℕ) (s : List ℕ) (k seen at : ℕ) → field_at s at 2 ≡ None → cond_at room s k seen at ≡ no (Short at)
unfolding cond_at
cond_short zero s k seen at e = rw e
cond_short (suc room) s k seen at e = rw e

pub cond-deep : (room : ℕ) (s : List ℕ) (k seen at tag : ℕ) (c : Cursor) → field_at s at 2 ≡ Some (tag, c) → room ≡ 0
    → cond_at room s k seen at ≡ no (Big at)
unfolding cond_at
cond-deep zero s k seen at tag c e z = rw e
cond-deep (suc room) s k seen at tag c e z = absurd (omega arith)

pub cond-node : (room : ℕ) (s : List ℕ) (k seen at tag : ℕ) (c : Cursor) → field_at s at 2 ≡ Some (tag, c) → (room ≡ 0 → ⊥)
    → cond_at room s k seen at ≡ node_at (leb 31 seen) (eqb tag 0) (cond_at (room - 1) s k) s k tag seen at c.at
unfolding cond_at
cond-node zero s k seen at tag c e z = absurd (z refl)
cond-node (suc room) s k seen at tag c e z = let p : suc room - 1 ≡ room = omega arith in rw (e, p)

-- an operator is no input
pub tag-known : (o : Operator) → eqb (tag_of o) 0 ≡ false
tag-known Not = refl
tag-known And = refl
tag-known Or = refl

-- an operator as the code compares it
pub same_not : (o : Operator) → sameb the_type o Not ≡ eqb (tag_of o) 1
same_not Not = refl
same_not And = refl
same_not Or = refl

pub same_and : (o : Operator) → sameb the_type o And ≡ eqb (tag_of o) 2
same_and Not = refl
same_and And = refl
same_and Or = refl

-- what the code says of a tree
module _ (word : ℕ) where
  neg-facts : (x : Counted) → facts_of word (counted (neg x.tree) x.count) ≡ neg_facts (facts_of word x)
  unfolding eval word_count form_of
  neg-facts x = refl

  join-facts : (b : Bool) (t u : Cond) (m n : ℕ) → facts_of word (counted (joined b t u) n)
      ≡ join_facts b (facts_of word (counted t m)) (facts_of word (counted u n))
  unfolding eval word_count form_of
  join-facts true t u m n = refl
  join-facts false t u m n = refl

  module _ (read : ℕ → ℕ → Ans Counted) (seen at : ℕ) where
    pub ops-bad : (tag : ℕ) (r : Refusal) → told (facts_of word) (read seen at) ≡ Err r → told (facts_of word) (operands_at read tag seen at) ≡ Err r
    unfolding operands_at
    ops-bad tag r h = rw (told-bad (facts_of word) (read seen at) r h)

    module _ (tag : ℕ) (c : Cursor) (f : Facts) (h : told (facts_of word) (read seen at) ≡ Ok (f, c)) where
      pub ops-one : eqb tag 1 ≡ true → told (facts_of word) (operands_at read tag seen at) ≡ Ok (neg_facts f, c)
      unfolding operands_at
      ops-one e =
          let x = told-got (facts_of word) (read seen at) f c h in
          rw (x.1, e) (ap (λ (y : Facts). Ok (y, c)) (neg-facts x.0 ∙ ap neg_facts (sym x.2)))

      pub ops-two-bad : eqb tag 1 ≡ false → (r : Refusal) → told (facts_of word) (read f.nodes c.at) ≡ Err r
          → told (facts_of word) (operands_at read tag seen at) ≡ Err r
      unfolding operands_at
      ops-two-bad e r q =
          let x = told-got (facts_of word) (read seen at) f c h in
          let n : f.nodes ≡ x.0.count = ap (λ (y : Facts). y.nodes) x.2 in
          rw (x.1, e, ← n, told-bad (facts_of word) (read f.nodes c.at) r q)

      pub ops-two : eqb tag 1 ≡ false → (d : Cursor) (g : Facts) → told (facts_of word) (read f.nodes c.at) ≡ Ok (g, d)
          → told (facts_of word) (operands_at read tag seen at) ≡ Ok (join_facts (eqb tag 2) f g, d)
      unfolding operands_at
      ops-two e d g q =
          let x = told-got (facts_of word) (read seen at) f c h in
          let y = told-got (facts_of word) (read f.nodes c.at) g d q in
          let n : f.nodes ≡ x.0.count = ap (λ (z : Facts). z.nodes) x.2 in
          rw (x.1, e, ← n, y.1)
          (ap (λ (z : Facts). Ok (z, d))
          (join-facts (eqb tag 2) x.0.tree y.0.tree x.0.count y.0.count
          ∙ ap (λ (z : Facts). join_facts (eqb tag 2) z (facts_of word y.0)) (sym x.2)
          ∙ ap (join_facts (eqb tag 2) f) (sym y.2)))

-- what the code's answer says of its cursor and its counts
pub record Told (s : List ℕ) (seen at : ℕ) (c : Cursor) (f : Facts) : Type 0 where
  pub on : at < c.at
  pub inside : c.at ≤ length s * 8
  pub pace : c.at + 6 * seen ≤ at + 6 * f.nodes
  pub few : f.nodes ≤ 31
  pub words : f.words ≤ 62

pub facts-told : (word room : ℕ) (s : List ℕ) (k seen at : ℕ) (c : Cursor) (f : Facts) → told (facts_of word) (cond_at room s k seen at) ≡ Ok (f, c)
    → Told s seen at c f
facts-told word room s k seen at c f h =
    let x = told-got (facts_of word) (cond_at room s k seen at) f c h in
    let n : f.nodes ≡ x.0.count = ap (λ (y : Facts). y.nodes) x.2 in
    let v : f.words ≡ word_count x.0.tree = ap (λ (y : Facts). y.words) x.2 in
    let w = cond-went room s k seen at x.0 c.at x.1 in
    omega (arith, words-few room s k seen at x.0 c.at x.1)
