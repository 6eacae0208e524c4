-- "Prove that the contract admits a single outcome": there is one that meets it, and no other.
use Rattle.std.specs.Prelude.{◌≡◌}

abbrev pub One : {A : Type 0} → (A → Type 0) → Type 0
One {A} contract = (x : A) × contract x × ((y : A) → contract y → y ≡ x)
