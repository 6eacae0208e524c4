-- Laws of what the code answers of what is read: what an answer says of the reading. Assumes nothing.
use mathlib.Core.Path.{◌≡◌, sym, ap}
use Prim.Native.Nat.{ℕ}
use native.Mathlib.Omega.{arith}
use Rattle.std.specs.Prelude.{Ok, Err}
use Rattle.std.specs.declared.result.Result.{Result}
use Rattle.answer.specs.declared.Refusal.{Refusal}
use Rattle.bits.specs.Read.{Ans, ok, no}
use Rattle.bits.specs.declared.Cursor.{Cursor}
use Rattle.bits.specs.inside.Told.{told}

-- what is held, or else b; the next bit, or else 0
abbrev held_or : {B : Type 0} → B → Result (B × Cursor) Refusal → B
held_or b (Ok r) = r.0
held_or b (Err why) = b

abbrev next_or : {B : Type 0} → Result (B × Cursor) Refusal → ℕ
next_or (Ok r) = r.1.at
next_or (Err why) = 0

module _ {A B : Type 0} (held : A → B) where
  -- the code's answer holds what was read
  pub told-got : (g : Ans A) (b : B) (c : Cursor) → told held g ≡ Ok (b, c) → (x : A) × (g ≡ ok x c.at) × (b ≡ held x)
  told-got (ok x a) b c h = (x, ap (λ (y : ℕ). ok x y) (ap next_or h), sym (ap (held_or b) h))
  told-got (no r) b c h = let z : ◌≡◌ {A = ℕ} 0 1 = cc in absurd (omega arith)

  -- or is a refusal
  pub told-bad : (g : Ans A) (r : Refusal) → told held g ≡ Err r → g ≡ no r
  told-bad (ok x a) r h = let z : ◌≡◌ {A = ℕ} 0 1 = cc in absurd (omega arith)
  told-bad (no q) r h = let p : q ≡ r = cc in ap no p
