-- A contract that is an equation has a single outcome. Assumes nothing.
use mathlib.Core.Path.{◌≡◌, refl}
use Rattle.answer.specs.One.{One}

pub one : {A : Type 0} (a : A) → One (λ (x : A). x ≡ a)
one a = (a, refl, λ y e. e)
