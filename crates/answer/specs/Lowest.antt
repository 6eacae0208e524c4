-- "the lowest number first, and within it the lowest place"
use Rattle.std.specs.Prelude.{ℕ, zero, suc, Bool, true, false, ◌||◌, Err, Some, None}
use Rattle.answer.specs.declared.Refusal.{Refusal}
use Rattle.answer.specs.Checked.{Checked}
use Rattle.std.specs.declared.option.Option.{Option}

-- p holds of some number below n
unfoldable pub any_below : (ℕ → Bool) → ℕ → Bool
any_below p zero = false
any_below p (suc n) = any_below p n || p n

-- what was found before, or else n if p holds of it
abbrev pub or_at : Option ℕ → Bool → ℕ → Option ℕ
or_at (Some i) holds n = Some i
or_at None true n = Some n
or_at None false n = None

-- the lowest number below n of which p holds
unfoldable pub first_below : (ℕ → Bool) → ℕ → Option ℕ
first_below p zero = None
first_below p (suc n) = or_at (first_below p n) (p n) n

-- refuses at the place found; where nothing was found the later answer stands
abbrev pub refuse_at : (ℕ → Refusal) → Option ℕ → Checked → Checked
refuse_at why (Some i) later = Err (why i)
refuse_at why None later = later
