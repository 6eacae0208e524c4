-- What a check answers is one thing alone. Assumes nothing.
use Rattle.std.specs.Prelude.{Ok, Err}
use Prim.Native.Nat.{ℕ}
use mathlib.Core.Path.{◌≡◌, sym, ◌∙◌}
use native.Mathlib.Omega.{arith}
use Rattle.answer.specs.declared.Refusal.{Refusal}
use Rattle.answer.specs.Checked.{Checked}

pub refused-is : {q r : Refusal} → ◌≡◌ {A = Checked} (Err q) (Err r) → q ≡ r
refused-is h = cc

pub accepted-refused : {A : Type 0} {c : Checked} {r : Refusal} → c ≡ Ok tt → c ≡ Err r → A
accepted-refused {A} {c} {r} a e =
    let h : ◌≡◌ {A = Checked} (Ok tt) (Err r) = sym a ∙ e in
    let z : ◌≡◌ {A = ℕ} 0 1 = cc in
    absurd (omega arith)
