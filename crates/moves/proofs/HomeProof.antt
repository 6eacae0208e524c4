-- Activation off ends in state 0.
use mathlib.Core.Path.{◌≡◌, refl, sym, ap, ◌∙◌}
use mathlib.Core.Logic.{inl, inr}
use mathlib.Core.Bool.{Bool, true, false}
use Prim.Native.Nat.{ℕ, zero, suc, ◌≤◌, ◌<◌}
use native.Mathlib.Omega.{arith}
use Rattle.bits.specs.Word.{get_bit}
use Rattle.clock.specs.Onward.{onward}
use Rattle.condition.specs.Cond.{Cond, eval}
use Rattle.reader.specs.Sheet.{Transition, Sheet, transition_of}
use Rattle.rules.specs.Rules.{Gated, HomeForm, Rules}
use Rattle.scan.specs.declared.State.{State}
use Rattle.scan.specs.Scan.{scan_of}
use Rattle.moves.specs.Moves.{CanFire, Moves, fires, stays}
use Rattle.moves.proofs.MovesProof.{same_rank, moves-scan}

-- a gated condition fails
gate-off : (x : ℕ) (c : Cond) → get_bit x 0 ≡ false → Gated c → eval x c ≡ false
unfolding eval
gate-off x c off (inl e) = rw e off
gate-off x c off (inr h) = rw (h.1, off) refl

true-false : {b : Bool} → b ≡ true → b ≡ false → ⊥
true-false e f = let z : ◌≡◌ {A = ℕ} 0 1 = cc in omega arith

module _ (a : Sheet) (rules : Rules a) (x c : ℕ) (off : get_bit x 0 ≡ false) where
  -- in state 0 no transition can fire
  idle : (t : Transition) → CanFire a 0 x c t → ⊥
  idle t f =
      let at : transition_of a f.of_sheet.0 ≡ t = f.of_sheet.2 in
      let g : Gated t.condition = rw at at (rules.gate f.of_sheet.0 f.of_sheet.1 (ap (λ v. v.source) at ∙ f.origin)) in
      true-false f.holds (gate-off x t.condition off g)

  -- in another the transition home can
  home-fires : (s : ℕ) → 0 < s → s < a.states → (h : Transition) × CanFire a s x c h × (h.priority ≡ 0) × (h.destination ≡ 0)
  unfolding eval
  home-fires s pos lt =
      let p = rules.home s pos lt in
      let t : Transition = transition_of a p.0 in
      let form : HomeForm t = rules.home_form p.0 p.1 p.3 in (
        t,
        record { of_sheet = (p.0, p.1, refl); origin = p.2; holds = rw (form.off, off) refl; waited = omega (arith, form.wait) },
        form.priority,
        p.3,
      )

  go-home : (q p : State) → q.state < a.states → Moves a q x c p → p.state ≡ 0
  go-home q p lt (fires t f least e) = ap (λ v. v.state) e ∙ go q.state refl
    where
      go : (s : ℕ) → q.state ≡ s → t.destination ≡ 0
      go zero z = absurd (idle t (rw z at f))
      go (suc s) z =
          let h = home-fires q.state (omega arith) lt in
          let le : t.priority ≤ h.0.priority = least h.0 h.1 in
          let same : t ≡ h.0 =
          same_rank a rules t h.0 f.of_sheet h.1.of_sheet (f.origin ∙ sym h.1.origin) (omega (arith, h.2)) in
          ap (λ v. v.destination) same ∙ h.3
  go-home q p lt (stays no_one e) = ap (λ v. v.state) e ∙ go q.state refl
    where
      go : (s : ℕ) → q.state ≡ s → q.state ≡ 0
      go zero z = z
      go (suc s) z = let h = home-fires q.state (omega arith) lt in absurd (no_one h.0 h.1)

-- "activation off" ends in state 0
pub off-home : (a : Sheet) → Rules a → (q : State) → q.state < a.states → (x e : ℕ) → get_bit x 0 ≡ false → (scan_of a q x e).state ≡ 0
off-home a rules q lt x e off = go-home a rules x (onward q.clock e) off q (scan_of a q x e) lt (moves-scan a rules q x e)
