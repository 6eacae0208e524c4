-- Laws of the nested search for the first clash, which goes by keys: PAIR and RANK share them. Assumes nothing.
use Rattle.std.specs.Prelude.{Some, None}
use mathlib.Core.Path.{◌≡◌, refl, ◌∙◌}
use mathlib.Core.Logic.{◌≢◌, ⊎_elim}
use mathlib.Core.Bool.{Bool, true, false, ◌&&◌}
use mathlib.Core.List.{List}
use Prim.Native.Nat.{ℕ, ◌+◌, ◌*◌, ◌≤◌, ◌<◌}
use native.Mathlib.Nat.{eq-or-lt_of_le, le_of_suc-le-suc}
use native.Mathlib.Numerals.{add-one}
use native.Mathlib.Omega.{arith}
use borrow.Author.Tests.{eqb-true, eqb-false, eq-eqb, ne_eqb}
use lib.Dec.{eqb}
use lib.ListN.{length, get_or, set, take}
use Rattle.std.proofs.lemmas.List.{length-take-le, get_or-take}
use lib.Seq.{get_or-set_same, get_or-set_other}
use Rattle.answer.proofs.Laws.{any-hit, any_same, first-same}
use Rattle.reader.specs.inside.Packing.{unpack, arrow_at}
use Rattle.sheet.specs.inside.Arrows.{besides, clash_arrows, clash_below, first_clash, key_of, Keys, alike_below, first_alike}
use Rattle.sheet.specs.declared.Clash.{Clash}
use Rattle.sheet.specs.declared.Clash.TheVariants as clash
use Rattle.sheet.proofs.SearchLaws.{any-none, first-none, first-at}

module _ (keys : List ℕ) where
  -- no key before j is that of an earlier one
  abbrev pub Apart : ℕ → Type 0
  Apart n = (j : ℕ) → j < n → (i : ℕ) → i < j → get_or keys i 0 ≢ get_or keys j 0

  alone : (j n : ℕ) → j < n → Apart n → alike_below keys j j ≡ false
  alone j n l h = any-none (λ i. eqb (get_or keys i 0) (get_or keys j 0)) j (λ i b. ne_eqb (get_or keys i 0) (get_or keys j 0) (h j l i b))

  pub clash-hit : (earlier later : ℕ) → earlier < later → later < length keys → Apart later → get_or keys earlier 0 ≡ get_or keys later 0
      → first_alike keys ≡ Some later
  unfolding first_alike
  clash-hit earlier later l b h e =
      first-at (λ j. alike_below keys j j) later (length keys) b
      (any-hit (λ i. eqb (get_or keys i 0) (get_or keys later 0)) earlier later l (eq-eqb (get_or keys earlier 0) (get_or keys later 0) e))
      (λ j m. alone j later m h)

  pub clash-end : Apart (length keys) → first_alike keys ≡ None
  unfolding first_alike
  clash-end h = first-none (λ j. alike_below keys j j) (length keys) (λ j l. alone j (length keys) l h)

-- a key made of two bytes is another one where both bytes are the other's
key-same : (a b c d : ℕ) → b < 256 → d < 256 → eqb (a * 256 + b) (c * 256 + d) ≡ eqb a c && eqb b d
key-same a b c d l m = go (eqb a c) refl (eqb b d) refl
  where
    go : (x : Bool) → eqb a c ≡ x → (y : Bool) → eqb b d ≡ y → eqb (a * 256 + b) (c * 256 + d) ≡ x && y
    go true p true q = eq-eqb (a * 256 + b) (c * 256 + d) (omega (arith, eqb-true a c p, eqb-true b d q))
    go true p false q =
        let n : b ≢ d = eqb-false b d q in
        ne_eqb (a * 256 + b) (c * 256 + d) (λ (e : a * 256 + b ≡ c * 256 + d). n (omega arith))
    go false p y q =
        let n : a ≢ c = eqb-false a c p in
        ne_eqb (a * 256 + b) (c * 256 + d) (λ (e : a * 256 + b ≡ c * 256 + d). n (omega arith))

-- what an entry of the array holds is small
small : (c : Clash) (w : ℕ) → besides c (unpack w) < 256
unfolding unpack
small clash.Pair w = omega arith
small clash.Rank w = omega arith

keys-same : (c : Clash) (v w : ℕ) → eqb (key_of c (unpack v)) (key_of c (unpack w)) ≡ clash_arrows c (unpack v) (unpack w)
keys-same c v w = key-same (unpack v).source (besides c (unpack v)) (unpack w).source (besides c (unpack w)) (small c v) (small c w)

module _ (c : Clash) (arrows : List ℕ) where
  pub keys-more : (keys : List ℕ) (i : ℕ) → i < length keys → Keys c arrows i keys → Keys c arrows (i + 1) (set keys i (key_of c (arrow_at arrows i)))
  keys-more keys i l f j h =
      ⊎_elim (λ (q : j ≡ i). rw q (get_or-set_same keys i (key_of c (arrow_at arrows i)) 0 l))
      (λ (q : j < i). let n : j ≢ i = (λ z. omega arith) in get_or-set_other keys i j (key_of c (arrow_at arrows i)) 0 n ∙ f j q)
      (eq-or-lt_of_le (le_of_suc-le-suc (rw add-one at h)))

  -- so the search goes by the keys
  pub by-keys : (keys : List ℕ) → length arrows ≤ length keys → Keys c arrows (length arrows) keys
      → first_alike (take (length arrows) keys) ≡ first_clash c arrows
  unfolding first_alike first_clash
  by-keys keys n h =
      let ks = take (length arrows) keys in
      let key = λ (i : ℕ) (l : i < length arrows). get_or-take (length arrows) keys i 0 l ∙ h i l in
      rw (length-take-le (length arrows) keys n)
      (first-same (λ j. alike_below ks j j) (λ j. clash_below c arrows j j) (length arrows)
      λ j l. any_same (λ i. eqb (get_or ks i 0) (get_or ks j 0)) (λ i. clash_arrows c (arrow_at arrows i) (arrow_at arrows j)) j
      λ i b. rw (key i (omega arith), key j l) (keys-same c (get_or arrows i 0) (get_or arrows j 0)))
