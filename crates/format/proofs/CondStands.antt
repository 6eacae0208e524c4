-- A condition is read exactly where its bits stand. Assumes nothing.
use mathlib.Core.Path.{◌≡◌, refl, sym, ◌∙◌, subst}
use mathlib.Core.List.{List, [], ◌∷◌, ◌++◌}
use mathlib.Core.Bool.{Bool, true, false}
use Prim.Native.Nat.{ℕ, zero, suc, ◌+◌, ◌≤◌, ◌<◌}
use native.Mathlib.Omega.{arith}
use lib.ListN.{length, length-append}
use lib.Dec.{eqb}
use borrow.Author.Tests.{lt-leb, lt-ltb}
use Rattle.bits.specs.Word.{get_bit, bits_of}
use Rattle.bits.specs.Read.{ok}
use Rattle.bits.proofs.FieldLaws.{Here}
use Rattle.condition.specs.Cond.{Cond, inp, neg, conj, disj, nodes, depth, cond_bits}
use Rattle.condition.specs.Reading.{Counted, counted, input_at, operands_at, node_at, cond_at}
use Rattle.condition.proofs.TreeLaws.{tree-ind}
use Rattle.format.specs.Fields.{InputsBelow}
use Rattle.format.proofs.Stands.{Stands, stands-join, stands-split, field-stands, bits-read}

-- what a condition that was read says: from `at` on behind `seen` nodes, with n nodes after it and the next bit
pub record CondSaid (s : List ℕ) (k room at seen : ℕ) (t : Cond) (n next : ℕ) : Type 0 where
  pub stands : Stands s at (cond_bits t)
  pub after : next ≡ at + length (cond_bits t)
  pub counts : n ≡ seen + nodes t
  pub few : n ≤ 31
  pub deep : depth t ≤ room
  pub inputs : InputsBelow k t

two-length : (x y : Bool) (xs ys : List Bool) → length ((x ∷ y ∷ xs) ++ ys) ≡ 2 + length xs + length ys
two-length x y xs ys = length-append (x ∷ y ∷ xs) ys ∙ omega arith

module _ (s : List ℕ) (k : ℕ) where
  tag-stands : (at tag : ℕ) (x y : Bool) (xs : List Bool) → bits_of 2 tag ≡ x ∷ y ∷ [] → Here s at 2 tag (at + 2)
      → Stands s (at + 2) xs → Stands s at (x ∷ y ∷ xs)
  tag-stands at tag x y xs e here h = stands-join s at (x ∷ y ∷ []) xs (subst (Stands s at) e (field-stands s at 2 tag (at + 2) here)) h

  -- both operands of AND and of OR
  two-stand : (at tag : ℕ) (x y : Bool) (t u : Cond) (mid : ℕ) → bits_of 2 tag ≡ x ∷ y ∷ [] → Here s at 2 tag (at + 2)
      → Stands s (at + 2) (cond_bits t) → mid ≡ at + 2 + length (cond_bits t) → Stands s mid (cond_bits u)
      → Stands s at ((x ∷ y ∷ cond_bits t) ++ cond_bits u)
  two-stand at tag x y t u mid e here p m q =
      tag-stands at tag x y (cond_bits t ++ cond_bits u) e here (stands-join s (at + 2) (cond_bits t) (cond_bits u) p (rw m at q))

  pub cond-said : (room seen at : ℕ) (c : Counted) (next : ℕ) → cond_at room s k seen at ≡ ok c next → CondSaid s k room at seen c.tree c.count next
  unfolding cond_bits nodes depth bits_of get_bit
  cond-said =
      tree-ind s k (CondSaid s k)
      (λ room at seen v next few below tag here.
      record {
        stands = tag-stands at 0 false false (bits_of 4 v) refl tag (field-stands s (at + 2) 4 v next here);
        after = omega (arith, here.after);
        counts = refl;
        few = omega arith;
        deep = omega arith;
        inputs = below;
      })
      (λ room at seen t n next few tag p.
      record {
        stands = tag-stands at 1 false true (cond_bits t) refl tag p.stands;
        after = omega (arith, p.after);
        counts = omega (arith, p.counts);
        few = p.few;
        deep = omega (arith, p.deep);
        inputs = p.inputs;
      })
      (λ room at seen t m mid u n next few tag p q.
      record {
        stands = two-stand at 2 true false t u mid refl tag p.stands p.after q.stands;
        after = omega (arith, p.after, q.after, two-length true false (cond_bits t) (cond_bits u));
        counts = omega (arith, p.counts, q.counts);
        few = q.few;
        deep = omega (arith, p.deep, q.deep);
        inputs = (p.inputs, q.inputs);
      })
      (λ room at seen t m mid u n next few tag p q.
      record {
        stands = two-stand at 3 true true t u mid refl tag p.stands p.after q.stands;
        after = omega (arith, p.after, q.after, two-length true true (cond_bits t) (cond_bits u));
        counts = omega (arith, p.counts, q.counts);
        few = q.few;
        deep = omega (arith, p.deep, q.deep);
        inputs = (p.inputs, q.inputs);
      })

  -- a node whose tag stands there, and for which there is room
  tag_read : (room seen at tag : ℕ) (x y : Bool) → tag < 4 → bits_of 2 tag ≡ x ∷ y ∷ [] → Stands s at (x ∷ y ∷ []) → seen < 31
      → cond_at (suc room) s k seen at ≡ node_at false (eqb tag 0) (cond_at room s k) s k tag seen at (at + 2)
  unfolding cond_at
  tag_read room seen at tag x y l e h few = rw (bits-read s at 2 tag l (subst (Stands s at) (sym e) h), lt-leb 31 seen few)

  some-depth : (t : Cond) → 0 < depth t
  unfolding depth
  some-depth (inp i) = omega arith
  some-depth (neg c) = omega arith
  some-depth (conj a b) = omega arith
  some-depth (disj a b) = omega arith

  same : (t : Cond) {m n a b : ℕ} → m ≡ n → a ≡ b → ok (counted t m) a ≡ ok (counted t n) b
  same t p q = cc

  -- a condition that keeps the limits is read where its bits stand
  pub cond-reads : k ≤ 16 → (room : ℕ) (t : Cond) (seen at : ℕ) → Stands s at (cond_bits t) → seen + nodes t ≤ 31 → depth t ≤ room → InputsBelow k t
      → cond_at room s k seen at ≡ ok (counted t (seen + nodes t)) (at + length (cond_bits t))
  unfolding cond_bits nodes depth bits_of get_bit operands_at input_at
  cond-reads wide zero t seen at h few deep below = absurd (omega (arith, some-depth t))
  cond-reads wide (suc room) (inp i) seen at h few deep below =
      let w = stands-split s at (false ∷ false ∷ []) (bits_of 4 i) h in
      tag_read room seen at 0 false false (omega arith) refl w.0 (omega arith)
      ∙ rw (bits-read s (at + 2) 4 i (omega arith) w.1, lt-ltb i k below) (same (inp i) refl (omega arith))
  cond-reads wide (suc room) (neg t) seen at h few deep below =
      let w = stands-split s at (false ∷ true ∷ []) (cond_bits t) h in
      tag_read room seen at 1 false true (omega arith) refl w.0 (omega arith)
      ∙ rw (cond-reads wide room t (seen + 1) (at + 2) w.1 (omega arith) (omega arith) below) (same (neg t) (omega arith) (omega arith))
  cond-reads wide (suc room) (conj t u) seen at h few deep below =
      let w = stands-split s at (true ∷ false ∷ []) (cond_bits t ++ cond_bits u) h in
      let v = stands-split s (at + 2) (cond_bits t) (cond_bits u) w.1 in
      tag_read room seen at 2 true false (omega arith) refl w.0 (omega arith)
      ∙ rw (
        cond-reads wide room t (seen + 1) (at + 2) v.0 (omega arith) (omega arith) below.0,
        cond-reads wide room u (seen + 1 + nodes t) (at + 2 + length (cond_bits t)) v.1 (omega arith) (omega arith) below.1,
      ) (same (conj t u) (omega arith) (omega (arith, length-append (cond_bits t) (cond_bits u))))
  cond-reads wide (suc room) (disj t u) seen at h few deep below =
      let w = stands-split s at (true ∷ true ∷ []) (cond_bits t ++ cond_bits u) h in
      let v = stands-split s (at + 2) (cond_bits t) (cond_bits u) w.1 in
      tag_read room seen at 3 true true (omega arith) refl w.0 (omega arith)
      ∙ rw (
        cond-reads wide room t (seen + 1) (at + 2) v.0 (omega arith) (omega arith) below.0,
        cond-reads wide room u (seen + 1 + nodes t) (at + 2 + length (cond_bits t)) v.1 (omega arith) (omega arith) below.1,
      ) (same (disj t u) (omega arith) (omega (arith, length-append (cond_bits t) (cond_bits u))))
