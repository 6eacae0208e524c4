-- The scan's result is the published move, and the only one.
use mathlib.Core.Path.{◌≡◌, refl, sym, ap, ◌∙◌}
use mathlib.Core.Logic.{◌≢◌}
use mathlib.Core.Bool.{Bool, true, false, ◌&&◌}
use Prim.Native.Nat.{ℕ, ◌≤◌}
use native.Mathlib.Omega.{arith}
use borrow.Author.Tests.{eqb-true, eqb-false, eq-eqb, leb-true, le-leb, ltb-true, ltb-false}
use lib.Dec.{eqb, leb, ltb}
use Rattle.clock.specs.Onward.{onward}
use Rattle.condition.specs.Cond.{eval}
use Rattle.reader.specs.Sheet.{Transition, Sheet, transition_of}
use Rattle.rules.specs.Rules.{Rules}
use Rattle.scan.specs.declared.State.{State}
use Rattle.scan.specs.Scan.{Choice, none, some, can, best, after, scan_of}
use Rattle.scan.proofs.BestLaws.{Chosen, BestIs, best-is}
use Rattle.moves.specs.Moves.{Of, CanFire, Moves, fires, stays}

both : (a b : Bool) → a && b ≡ true → (a ≡ true) × (b ≡ true)
both true b e = (refl, e)
both false b e = (e, cc)

-- the test of the scan is rule 1
pub can-fire : (a : Sheet) (s x c : ℕ) (t : Transition) → Of a t → can s x c t ≡ true → CanFire a s x c t
unfolding can
can-fire a s x c t there e =
    let p : (eqb t.source s && eval x t.condition ≡ true) × (leb t.wait c ≡ true) = both _ _ e in
    let q : (eqb t.source s ≡ true) × (eval x t.condition ≡ true) = both _ _ p.0 in
    record { of_sheet = there; origin = eqb-true _ _ q.0; holds = q.1; waited = leb-true _ _ p.1 }

pub fire-can : (a : Sheet) (s x c : ℕ) (t : Transition) → CanFire a s x c t → can s x c t ≡ true
unfolding can
fire-can a s x c t f = rw (eq-eqb t.source s f.origin, f.holds, le-leb t.wait c f.waited) refl

module _ (a : Sheet) (rules : Rules a) where
  -- one transition for a source and a priority
  pub same_rank : (t u : Transition) → Of a t → Of a u → t.source ≡ u.source → t.priority ≡ u.priority → t ≡ u
  same_rank t u p q e f = go (eqb p.0 q.0) refl (ltb p.0 q.0) refl
    where
      source : (transition_of a p.0).source ≡ (transition_of a q.0).source
      source = ap (λ v. v.source) p.2 ∙ e ∙ sym (ap (λ v. v.source) q.2)

      priority : (transition_of a p.0).priority ≡ (transition_of a q.0).priority
      priority = ap (λ v. v.priority) p.2 ∙ f ∙ sym (ap (λ v. v.priority) q.2)

      go : (b : Bool) → eqb p.0 q.0 ≡ b → (d : Bool) → ltb p.0 q.0 ≡ d → t ≡ u
      go true g d h = sym p.2 ∙ ap (transition_of a) (eqb-true p.0 q.0 g) ∙ q.2
      go false g true h = absurd (rules.rank p.0 q.0 (ltb-true p.0 q.0 h) q.1 source priority)
      go false g false h =
          let n : p.0 ≢ q.0 = eqb-false p.0 q.0 g in
          absurd (rules.rank q.0 p.0 (omega (arith, ltb-false p.0 q.0 h)) p.1 (sym source) (sym priority))

  module _ (q : State) (x c : ℕ) where
    -- what is known of the choice, in the relation's words
    chosen-fires : (t : Transition) → Chosen q.state x c a.transitions t → CanFire a q.state x c t
    chosen-fires t h = can-fire a q.state x c t (h.place, h.inside, h.there) h.able

    chosen-least : (t : Transition) → Chosen q.state x c a.transitions t → (u : Transition) → CanFire a q.state x c u → t.priority ≤ u.priority
    chosen-least t h u f =
        let at : transition_of a f.of_sheet.0 ≡ u = f.of_sheet.2 in
        let able : can q.state x c (transition_of a f.of_sheet.0) ≡ true = rw at (fire-can a q.state x c u f) in
        let p : (transition_of a f.of_sheet.0).priority ≡ u.priority = ap (λ v. v.priority) at in
        omega (arith, h.least f.of_sheet.0 f.of_sheet.1 able)

    none-fires : BestIs q.state x c a.transitions none → (u : Transition) → CanFire a q.state x c u → ⊥
    none-fires h u f =
        let at : transition_of a f.of_sheet.0 ≡ u = f.of_sheet.2 in
        let able : can q.state x c (transition_of a f.of_sheet.0) ≡ true = rw at (fire-can a q.state x c u f) in
        let z : ◌≡◌ {A = Bool} true false = sym able ∙ h f.of_sheet.0 f.of_sheet.1 in
        let y : ◌≡◌ {A = ℕ} 0 1 = cc in
        omega arith

    choice-moves : (ch : Choice) → BestIs q.state x c a.transitions ch → Moves a q x c (after a q c ch)
    unfolding after
    choice-moves none h = stays (none-fires h) refl
    choice-moves (some t) h = fires t (chosen-fires t h) (chosen-least t h) refl

    choice-only : (ch : Choice) → BestIs q.state x c a.transitions ch → (p : State) → Moves a q x c p → p ≡ after a q c ch
    unfolding after
    choice-only none h p (fires t f least e) = absurd (none-fires h t f)
    choice-only none h p (stays no_one e) = e
    choice-only (some u) h p (fires t f least e) =
        let g : CanFire a q.state x c u = chosen-fires u h in
        let le : t.priority ≤ u.priority = least u g in
        let ge : u.priority ≤ t.priority = chosen-least u h t f in
        let same : t ≡ u = same_rank t u f.of_sheet g.of_sheet (f.origin ∙ sym g.origin) (omega arith) in
        e ∙ rw same refl
    choice-only (some u) h p (stays no_one e) = absurd (no_one u (chosen-fires u h))

  pub moves-scan : (q : State) (word elapsed : ℕ) → Moves a q word (onward q.clock elapsed) (scan_of a q word elapsed)
  unfolding scan_of
  moves-scan q x e =
      choice-moves q x (onward q.clock e) (best q.state x (onward q.clock e) a.transitions) (best-is q.state x (onward q.clock e) a.transitions)

  pub moves-only : (q : State) (word elapsed : ℕ) (p : State) → Moves a q word (onward q.clock elapsed) p → p ≡ scan_of a q word elapsed
  unfolding scan_of
  moves-only q x e p m =
      choice-only q x (onward q.clock e) (best q.state x (onward q.clock e) a.transitions) (best-is q.state x (onward q.clock e) a.transitions) p m
