-- Induction over a condition that was read, with what was read at each node. Assumes nothing.
use mathlib.Core.Path.{◌≡◌, refl, sym, subst₂}
use mathlib.Core.List.{List}
use mathlib.Core.Bool.{Bool, true, false}
use Prim.Native.Nat.{ℕ, zero, suc, ◌+◌, ◌<◌}
use native.Mathlib.Omega.{arith}
use lib.Dec.{ltb, leb, eqb}
use borrow.Author.Tests.{leb-false, ltb-true, eqb-true, eqb-false}
use Rattle.answer.specs.declared.Refusal.TheVariants.{InputNo}
use Rattle.bits.specs.Read.{Ans, ok, read_field}
use Rattle.bits.proofs.FieldLaws.{Here}
use Rattle.bits.proofs.ReadLaws.{ok-no, ok-is, ok-next, bind_ok, guard_ok, field-read}
use Rattle.condition.specs.Cond.{Cond, inp, neg, conj, disj}
use Rattle.condition.specs.Reading.{Counted, input_at, joined, behind, operands_at, node_at, cond_at}

-- the same answer, so the same tree, count and next bit
carry : (Q : Counted → ℕ → Type 0) {u t : Counted} {a b : ℕ} → ok u a ≡ ok t b → Q u a → Q t b
carry Q h q = subst₂ Q (ok-is h) (ok-next h) q

-- P room at seen: of a condition at most `room` deep that starts at `at` behind `seen` nodes, with its tree, the nodes after it and the next bit.
-- Each case is handed the field that the node's tag was.
module _ (s : List ℕ) (k : ℕ) (P : ℕ → ℕ → ℕ → Cond → ℕ → ℕ → Type 0)
    (p-inp : (room at seen v next : ℕ) → seen < 31 → v < k → Here s at 2 0 (at + 2) → Here s (at + 2) 4 v next → P (suc room) at seen (inp v) (seen + 1) next)
    (p-neg : (room at seen : ℕ) (t : Cond) (n next : ℕ) → seen < 31 → Here s at 2 1 (at + 2)
    → P room (at + 2) (seen + 1) t n next → P (suc room) at seen (neg t) n next)
    (p-conj : (room at seen : ℕ) (t : Cond) (m mid : ℕ) (u : Cond) (n next : ℕ) → seen < 31 → Here s at 2 2 (at + 2)
    → P room (at + 2) (seen + 1) t m mid → P room mid m u n next → P (suc room) at seen (conj t u) n next)
    (p-disj : (room at seen : ℕ) (t : Cond) (m mid : ℕ) (u : Cond) (n next : ℕ) → seen < 31 → Here s at 2 3 (at + 2)
    → P room (at + 2) (seen + 1) t m mid → P room mid m u n next → P (suc room) at seen (disj t u) n next) where
  abbrev Read : ℕ → (ℕ → ℕ → Ans Counted) → Type 0
  Read room read = (seen at : ℕ) (c : Counted) (next : ℕ) → read seen at ≡ ok c next → P room at seen c.tree c.count next

  abbrev Of : ℕ → ℕ → ℕ → Counted → ℕ → Type 0
  Of room at seen c next = P room at seen c.tree c.count next

  input-ind : (room at seen : ℕ) {c : Counted} {next : ℕ} → seen < 31 → Here s at 2 0 (at + 2)
      → input_at s k seen (at + 2) ≡ ok c next → Of (suc room) at seen c next
  unfolding input_at
  input-ind room at seen few tag h =
      let w = bind_ok (read_field s 4 (at + 2)) _ h in
      let g = guard_ok (ltb w.0 k) (InputNo (at + 2)) _ w.3 in
      carry (Of (suc room) at seen) g.1
      (p-inp room at seen w.0 w.1 few (ltb-true w.0 k g.0) tag (field-read s 4 (at + 2) w.2))

  -- AND or OR, by the tag
  two-ind : (b : Bool) (room at seen tag : ℕ) (t : Cond) (m mid : ℕ) (u : Cond) (n next : ℕ) → eqb tag 2 ≡ b → 1 < tag → seen < 31 → Here s at 2 tag (at + 2)
      → P room (at + 2) (seen + 1) t m mid → P room mid m u n next → P (suc room) at seen (joined b t u) n next
  two-ind true room at seen tag t m mid u n next e big few here p q =
      p-conj room at seen t m mid u n next few (rw (eqb-true tag 2 e) at here) p q
  two-ind false room at seen tag t m mid u n next e big few here p q =
      let ne : tag ≡ 2 → ⊥ = eqb-false tag 2 e in
      let three : tag ≡ 3 = omega (arith, here.below) in
      p-disj room at seen t m mid u n next few (rw three at here) p q

  behind-ind : (b : Bool) (room : ℕ) (read : ℕ → ℕ → Ans Counted) → Read room read → (at seen tag : ℕ) (a : Counted) (mid : ℕ) {c : Counted} {next : ℕ}
      → eqb tag 1 ≡ b → 0 < tag → seen < 31 → Here s at 2 tag (at + 2) → Of room (at + 2) (seen + 1) a mid
      → behind b read tag a mid ≡ ok c next → Of (suc room) at seen c next
  behind-ind true room read ih at seen tag a mid e big few here p h =
      carry (Of (suc room) at seen) h (p-neg room at seen a.tree a.count mid few (rw (eqb-true tag 1 e) at here) p)
  behind-ind false room read ih at seen tag a mid e big few here p h =
      let ne : tag ≡ 1 → ⊥ = eqb-false tag 1 e in
      let w = bind_ok (read a.count mid) _ h in
      carry (Of (suc room) at seen) w.3
      (two-ind (eqb tag 2) room at seen tag a.tree a.count mid w.0.tree w.0.count w.1 refl (omega arith) few here p
      (ih a.count mid w.0 w.1 w.2))

  node-ind : (full input : Bool) (room : ℕ) (read : ℕ → ℕ → Ans Counted) → Read room read → (at seen tag : ℕ) {c : Counted} {next : ℕ}
      → leb 31 seen ≡ full → eqb tag 0 ≡ input → Here s at 2 tag (at + 2)
      → node_at full input read s k tag seen at (at + 2) ≡ ok c next → Of (suc room) at seen c next
  unfolding operands_at
  node-ind true input room read ih at seen tag f e here h = ok-no (sym h)
  node-ind false true room read ih at seen tag f e here h =
      input-ind room at seen (leb-false 31 seen f) (rw (eqb-true tag 0 e) at here) h
  node-ind false false room read ih at seen tag f e here h =
      let ne : tag ≡ 0 → ⊥ = eqb-false tag 0 e in
      let w = bind_ok (read (seen + 1) (at + 2)) _ h in
      behind-ind (eqb tag 1) room read ih at seen tag w.0 w.1 refl (omega arith) (leb-false 31 seen f) here
      (ih (seen + 1) (at + 2) w.0 w.1 w.2) w.3

  pub tree-ind : (room seen at : ℕ) (c : Counted) (next : ℕ) → cond_at room s k seen at ≡ ok c next → P room at seen c.tree c.count next
  unfolding cond_at
  tree-ind zero seen at c next h = let w = bind_ok (read_field s 2 at) _ h in ok-no (sym w.3)
  tree-ind (suc room) seen at c next h =
      let w = bind_ok (read_field s 2 at) _ h in
      let here = field-read s 2 at w.2 in
      node-ind (leb 31 seen) (eqb w.0 0) room (cond_at room s k) (tree-ind room) at seen w.0 refl refl
      (rw here.after at here) (rw here.after at w.3)
