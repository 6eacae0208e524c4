-- A condition that lies in the bytes of a sheet, field for field.
use Rattle.std.specs.Prelude.{◌≡◌, List, ℕ, ◌+◌, ◌*◌, ◌≤◌, length}
use Rattle.bits.specs.Field.{num_at}
use Rattle.condition.specs.Cond.{Cond, inp, neg, conj, disj, nodes}
use Rattle.condition.specs.inside.Reach.{cond_end}

-- the bits that a condition takes
unfoldable pub size : Cond → ℕ
size (inp i) = 6
size (neg c) = 2 + size c
size (conj a b) = 2 + size a + size b
size (disj a b) = 2 + size a + size b

-- w bits are there from `at` on, and are v
abbrev pub Reads : List ℕ → ℕ → ℕ → ℕ → Type 0
Reads s at w v = (at + w ≤ length s * 8) × (num_at s at w ≡ v)

-- the condition lies in the bytes from bit `at` on
abbrev pub Lies : List ℕ → ℕ → Cond → Type 0
Lies s at (inp i) = Reads s at 2 0 × Reads s (at + 2) 4 i
Lies s at (neg c) = Reads s at 2 1 × Lies s (at + 2) c
Lies s at (conj a b) = Reads s at 2 2 × Lies s (at + 2) a × Lies s (at + 2 + size a) b
Lies s at (disj a b) = Reads s at 2 3 × Lies s (at + 2) a × Lies s (at + 2 + size a) b

-- and is one that a sheet may have there
pub record Lodges (s : List ℕ) (at : ℕ) (t : Cond) : Type 0 where
  pub lies : Lies s at t
  pub near : at + size t ≤ cond_end
  pub few : nodes t ≤ 31
