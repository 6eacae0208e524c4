-- The sorted transitions are the sheet's, each once, by source and then by priority. Assumes nothing.
use mathlib.Core.Path.{◌≡◌, refl, sym, ap, ◌∙◌}
use mathlib.Core.Logic.{◌≢◌, ◌⊎◌, inl, inr}
use mathlib.Core.Bool.{Bool, true, false, cond}
use mathlib.Core.List.{List, [], ◌∷◌, map}
use Prim.Native.Nat.{ℕ, zero, suc, ◌≤◌, ◌<◌}
use native.Mathlib.Omega.{arith}
use borrow.Author.Tests.{leb-true, leb-false, eqb-true, eq-eqb}
use lib.Dec.{leb, eqb}
use lib.ListN.{length, get_or}
use Rattle.reader.specs.Sheet.{Transition, Sheet, no_transition, count, transition_of}
use Rattle.format.specs.Fields.{Fields}
use Rattle.rules.specs.Rules.{Rules}
use Rattle.scan.proofs.AllLaws.{All, all_of, all-at, all_map}
use Rattle.translate.specs.Translation.{key, insert, sort}
use Rattle.translate.proofs.SortLaws.{all_insert, all-sort, sort-length}
use Rattle.same.specs.Order.{Order, ordered, Before, BlockOrder}
use Rattle.same.proofs.EachLaws.{all-fields}

-- RISING KEYS
-- where no two keys are the same, each sorted key is smaller than those behind it
abbrev Apart : List Transition → Type 0
Apart [] = Unit {0}
Apart (t ∷ ts) = All (λ u. key t ≢ key u) ts × Apart ts

abbrev Rising : List Transition → Type 0
Rising [] = Unit {0}
Rising (t ∷ ts) = All (λ u. key t < key u) ts × Rising ts

rising-insert : (t : Transition) (ts : List Transition) → All (λ u. key t ≢ key u) ts → Rising ts → Rising (insert t ts)
unfolding insert
rising-insert t [] n h = (tt, tt)
rising-insert t (u ∷ us) n h = go (leb (key t) (key u)) refl (rising-insert t us n.1 h.1)
  where
    go : (b : Bool) → leb (key t) (key u) ≡ b → Rising (insert t us) → Rising (cond b (t ∷ u ∷ us) (u ∷ insert t us))
    go true e ih =
        let lt : key t < key u = omega (arith, leb-true (key t) (key u) e, n.0) in
        ((lt, all_map (λ v g. omega arith) us h.0), h)
    go false e ih =
        let lt : key u < key t = leb-false (key t) (key u) e in
        (all_insert (λ v. key u < key v) t us lt h.0, ih)

rising-sort : (ts : List Transition) → Apart ts → Rising (sort ts)
unfolding sort
rising-sort [] h = tt
rising-sort (t ∷ ts) h =
    let other : All (λ u. key t ≢ key u) (sort ts) = all-sort (λ u. key t ≢ key u) ts h.0 in
    rising-insert t (sort ts) other (rising-sort ts h.1)

-- the same by places
abbrev key_at : List Transition → ℕ → ℕ
key_at ts i = key (get_or ts i no_transition)

apart_of : (ts : List Transition) → ((i j : ℕ) → i < j → j < length ts → key_at ts i ≢ key_at ts j) → Apart ts
apart_of [] h = tt
apart_of (t ∷ ts) h =
    let other : All (λ u. key t ≢ key u) ts = all_of _ ts (λ j l. h 0 (suc j) (omega arith) (omega arith)) in
    (other, apart_of ts (λ i j l m. h (suc i) (suc j) (omega arith) (omega arith)))

rising-at : (ts : List Transition) → Rising ts → (i j : ℕ) → i < j → j < length ts → key_at ts i < key_at ts j
rising-at [] h i j l m = absurd (omega arith)
rising-at (t ∷ ts) h i zero l m = absurd (omega arith)
rising-at (t ∷ ts) h zero (suc j) l m = all-at (λ u. key t < key u) ts h.0 j (omega arith)
rising-at (t ∷ ts) h (suc i) (suc j) l m = rising-at ts h.1 i j (omega arith) (omega arith)

-- NUMBERS
-- where a key first stands
place_of : ℕ → List Transition → ℕ
place_of k [] = 0
place_of k (t ∷ ts) = cond (eqb (key t) k) 0 (suc (place_of k ts))

place_at : (k : ℕ) (ts : List Transition) (i : ℕ) → i < length ts → key_at ts i ≡ k
    → ((j : ℕ) → j < i → key_at ts j ≢ k) → place_of k ts ≡ i
unfolding place_of
place_at k [] i l e h = absurd (omega arith)
place_at k (t ∷ ts) zero l e h = rw (eq-eqb (key t) k e) refl
place_at k (t ∷ ts) (suc i) l e h =
    go (eqb (key t) k) refl (place_at k ts i (omega arith) e (λ j m. h (suc j) (omega arith)))
  where
    go : (b : Bool) → eqb (key t) k ≡ b → place_of k ts ≡ i → cond b 0 (suc (place_of k ts)) ≡ suc i
    go true p ih = absurd (h 0 (omega arith) (eqb-true (key t) k p))
    go false p ih = ap suc ih

-- BY SOURCE AND THEN BY PRIORITY
first_then : {p q r s : ℕ} → (q ≤ p → (p ≡ q) × (r < s)) → (p < q) ⊎ ((p ≡ q) × (r < s))
first_then {p} {q} {r} {s} h = go (leb q p) refl
  where
    go : (b : Bool) → leb q p ≡ b → (p < q) ⊎ ((p ≡ q) × (r < s))
    go true e = inr (h (leb-true q p e))
    go false e = inl (leb-false q p e)

-- a smaller key says it, the priority being a field of 7 bits
key-before : (t u : Transition) → u.priority < 128 → key t < key u → Before t u
unfolding key
key-before t u few lt = first_then (λ le. omega arith)

module _ (a : Sheet) (rules : Rules a) where
  abbrev ts : List Transition
  ts = sort a.transitions

  many : length ts ≡ count a
  many = sort-length a.transitions

  -- no two have the same key, since no two have the same source and priority
  keys-apart : (i j : ℕ) → i < j → j < count a → key (transition_of a i) ≢ key (transition_of a j)
  unfolding key
  keys-apart i j l m e =
      let p : (transition_of a i).priority < 128 = (rules.fields i (omega arith)).priority in
      let q : (transition_of a j).priority < 128 = (rules.fields j m).priority in
      rules.rank i j l m (omega arith) (omega arith)

  rises : (i j : ℕ) → i < j → j < count a → key_at ts i < key_at ts j
  rises i j l m =
      let rising : Rising ts = rising-sort a.transitions (apart_of a.transitions keys-apart) in
      rising-at ts rising i j l (omega (arith, many))

  -- the number of a transition on the sheet
  abbrev number_of : Transition → ℕ
  number_of t = place_of (key t) a.transitions

  abbrev Stands : Transition → Type 0
  Stands t = (number_of t < count a) × (transition_of a (number_of t) ≡ t)

  stand : All Stands ts
  stand = all-sort Stands a.transitions (all_of Stands a.transitions here)
    where
      here : (i : ℕ) → i < count a → Stands (transition_of a i)
      here i l =
          let is : number_of (transition_of a i) ≡ i =
          place_at (key (transition_of a i)) a.transitions i l refl (λ j m. keys-apart j i m l) in
          (omega arith, ap (transition_of a) is)

  abbrev numbers : List Transition → List ℕ
  numbers us = map number_of us

  numbers-length : (us : List Transition) → length (numbers us) ≡ length us
  numbers-length [] = refl
  numbers-length (u ∷ us) = ap suc (numbers-length us)

  numbers-at : (us : List Transition) (i : ℕ) → i < length us
      → get_or (numbers us) i 0 ≡ number_of (get_or us i no_transition)
  numbers-at [] i l = absurd (omega arith)
  numbers-at (u ∷ us) zero l = refl
  numbers-at (u ∷ us) (suc i) l = numbers-at us i (omega arith)

  numbers-are : (us : List Transition) → All Stands us → ordered a (numbers us) ≡ us
  unfolding ordered
  numbers-are [] h = refl
  numbers-are (u ∷ us) h = rw (h.0.1, numbers-are us h.1) refl

  module _ (i : ℕ) (l : i < count a) where
    stands_at : Stands (get_or ts i no_transition)
    stands_at = all-at Stands ts stand i (omega (arith, many))

    number_at : get_or (numbers ts) i 0 ≡ number_of (get_or ts i no_transition)
    number_at = numbers-at ts i (omega (arith, many))

    -- back from the number to the transition
    block_at : transition_of a (get_or (numbers ts) i 0) ≡ get_or ts i no_transition
    block_at = ap (transition_of a) number_at ∙ stands_at.1

    few : (get_or ts i no_transition).priority < 128
    few =
        let fields : All (Fields a.states a.inputs) ts = all-sort _ a.transitions (all-fields a rules) in
        (all-at (Fields a.states a.inputs) ts fields i (omega (arith, many))).priority

  numbers-order : Order (count a) (numbers ts)
  numbers-order = record {
    long = numbers-length ts ∙ many;
    below = λ i l. omega (arith, number_at i l, (stands_at i l).0);
    apart = λ i j l m e.
        let back : transition_of a (get_or (numbers ts) i 0) ≡ get_or ts i no_transition = block_at i (omega arith) in
        let same : get_or ts i no_transition ≡ get_or ts j no_transition = sym back ∙ ap (transition_of a) e ∙ block_at j m in
        omega (arith, rises i j l m, ap key same);
  }

  pub block-order : BlockOrder a (sort a.transitions)
  block-order = record {
    order = numbers ts;
    each = numbers-order;
    are = sym (numbers-are ts stand);
    sorted = λ i j l m. key-before (get_or ts i no_transition) (get_or ts j no_transition) (few j m) (rises i j l m);
  }
