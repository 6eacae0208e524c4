-- Laws of tests that every crate uses. Assumes nothing.
use mathlib.Core.Path.{◌≡◌, refl, sym}
use mathlib.Core.Bool.{Bool, true, false, ◌&&◌, ◌||◌}
use Prim.Native.Nat.{ℕ}
use native.Mathlib.Omega.{arith}

pub true-false : {B : Type 0} → true ≡ false → B
true-false e = let z : ◌≡◌ {A = ℕ} 0 1 = cc in absurd (omega arith)

pub and-true : (a b : Bool) → a && b ≡ true → (a ≡ true) × (b ≡ true)
and-true true b e = (refl, e)
and-true false b e = true-false (sym e)

pub or-false : (a b : Bool) → a || b ≡ false → (a ≡ false) × (b ≡ false)
or-false true b e = true-false e
or-false false b e = (refl, e)
