-- Laws of the code's pick: what an arrow says of its transition, and a loop over the arrows. Assumes nothing.
use Rattle.std.specs.Prelude.{Ok, Err, Some, None}
use Rattle.std.specs.declared.option.Option.{Option}
use mathlib.Core.Path.{◌≡◌, refl, sym, ap, ◌∙◌}
use mathlib.Core.Bool.{Bool, true, false, ◌&&◌, cond}
use mathlib.Core.List.{List}
use Prim.Native.Nat.{ℕ, ◌+◌, ◌≤◌, ◌<◌}
use native.Mathlib.Numerals.{add-one}
use borrow.Author.Tests.{eq-eqb, ne_eqb}
use lib.Dec.{leb}
use lib.ListN.{length, get_or, drop, drop_of_length-le}
use lib.Seq.{drop-cons}
use Rattle.bits.specs.declared.Cursor.{Cursor}
use Rattle.bits.specs.inside.Told.{told}
use Rattle.bits.proofs.ToldLaws.{told-got, told-bad}
use Rattle.bits.proofs.ReadLaws.{ok-is, ok-no}
use Rattle.condition.specs.Cond.{eval}
use Rattle.condition.specs.Reading.{Counted, counted, condition_at}
use Rattle.condition.specs.inside.Facts.{facts_of}
use Rattle.condition.specs.declared.Facts.{Facts}
use Rattle.answer.specs.declared.Refusal.{Refusal}
use Rattle.reader.specs.Sheet.{Transition, no_transition}
use Rattle.reader.specs.inside.Decoding.{Holds}
use Rattle.reader.specs.declared.Arrow.{Arrow}
use Rattle.scan.specs.Scan.{Choice, none, some, can, best}
use Rattle.scan.specs.inside.Picking.{Picks, took_of}
use Rattle.scan.specs.declared.Best.{Best}
use Rattle.scan.proofs.ChoiceLaws.{merge, nearer, merge_step}

module _ (s : List ℕ) (k : ℕ) (arrow : Arrow) (t : Transition) (h : Holds s k arrow t) (active word clock : ℕ) where
  -- an arrow of another source
  pub can-other : (arrow.source ≡ active → ⊥) → false ≡ can active word clock t
  unfolding can
  can-other n = sym (rw (← h.source, ne_eqb arrow.source active n) refl)

  -- its condition was read before, so it is not refused now
  pub cond-there : {A : Type 0} (r : Refusal) → told (facts_of word) (condition_at s k arrow.cond) ≡ Err r → A
  cond-there r e = ok-no (sym h.there ∙ told-bad (facts_of word) (condition_at s k arrow.cond) r e)

  -- its condition's value, and its wait
  pub can-is : (c : Cursor) (f : Facts) → arrow.source ≡ active → told (facts_of word) (condition_at s k arrow.cond) ≡ Ok (f, c)
      → f.value && leb arrow.wait clock ≡ can active word clock t
  unfolding can
  can-is c f n e =
      let x = told-got (facts_of word) (condition_at s k arrow.cond) f c e in
      let same : x.0 ≡ counted t.condition h.nodes = ok-is (sym x.1 ∙ h.there) in
      let v : f.value ≡ eval word t.condition = ap (λ (y : Facts). y.value) x.2 ∙ ap (λ (y : Counted). eval word y.tree) same in
      rw (v, h.wait, eq-eqb t.source active (sym h.source ∙ n)) refl

-- the pick of the transitions passed, joined with the best of the rest, is the best of all
abbrev pub Passed : ℕ → ℕ → ℕ → List Transition → ℕ → Option Best → Type 0
Passed active word clock ts i p =
    (ch : Choice) × Picks p ch × (merge ch (best active word clock (drop i ts)) ≡ best active word clock ts)

picks-near : (p : Option Best) (ch : Choice) (arrow : Arrow) (t : Transition) → arrow.priority ≡ t.priority → arrow.destination ≡ t.destination → Picks p ch
    → Picks (Some (took_of p arrow)) (nearer ch t)
picks-near None none arrow t e d h = (e, d)
picks-near None (some u) arrow t e d h = absurd h
picks-near (Some b) none arrow t e d h = absurd h
picks-near (Some b) (some u) arrow t e d h = rw (h.0, e, d) (go (leb u.priority t.priority))
  where
    go : (x : Bool) → Picks (Some (cond x (record { priority = u.priority; destination = b.destination }) (record { priority = t.priority; destination = t.destination })))
        (cond x (some u) (some t))
    go true = (refl, h.1)
    go false = (refl, refl)

module _ (active word clock : ℕ) (ts : List Transition) where
  pub passed_start : Passed active word clock ts 0 None
  passed_start = (none, tt, refl)

  module _ (i : ℕ) (p : Option Best) (l : i < length ts) (h : Passed active word clock ts i p) where
    step : merge (cond (can active word clock (get_or ts i no_transition)) (nearer h.0 (get_or ts i no_transition)) h.0) (best active word clock (drop (i + 1) ts))
        ≡ best active word clock ts
    step =
        sym (merge_step active word clock h.0 (get_or ts i no_transition) (drop (i + 1) ts))
        ∙ ap (λ (us : List Transition). merge h.0 (best active word clock us)) (rw (add-one, drop-cons ts i no_transition l) refl)
        ∙ h.2

    pub passed-fires : (arrow : Arrow) → arrow.priority ≡ (get_or ts i no_transition).priority → arrow.destination ≡ (get_or ts i no_transition).destination
        → can active word clock (get_or ts i no_transition) ≡ true → Passed active word clock ts (i + 1) (Some (took_of p arrow))
    passed-fires arrow e d f = (nearer h.0 (get_or ts i no_transition), picks-near p h.0 arrow (get_or ts i no_transition) e d h.1, rw f at step)

    pub passed-stays : can active word clock (get_or ts i no_transition) ≡ false → Passed active word clock ts (i + 1) p
    passed-stays f = (h.0, h.1, rw f at step)

  merge_none : (ch : Choice) → merge ch none ≡ ch
  merge_none none = refl
  merge_none (some t) = refl

  pub passed-end : (i : ℕ) (p : Option Best) → length ts ≤ i → Passed active word clock ts i p → Picks p (best active word clock ts)
  unfolding best
  passed-end i p l h =
      let e : h.0 ≡ best active word clock ts = sym (merge_none h.0) ∙ ap (λ (us : List Transition). merge h.0 (best active word clock us)) (sym (drop_of_length-le ts l)) ∙ h.2 in
      rw e at h.1
