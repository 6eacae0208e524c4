-- What is shown of a flag word and of a change.
use mir.Syntax.{w32}
use Rattle.std.specs.Prelude.{ℕ, List, ◌++◌, Option, None, Some, codes, if◌then◌else◌}
use Rattle.std.specs.Fmt.{decimal}
use Rattle.std.specs.Int.{is_power_of_two, trailing_zeros}
use Rattle.table.specs.declared.Change.{Change}
use Rattle.table.specs.declared.Change.TheVariants.{ColdStart, Start, Moved, Stayed}
use Rattle.table.specs.declared.Flags.{Flags}

-- The number of the one flag that is set, if it is one alone.
abbrev pub state_of : ℕ → Option ℕ
state_of flags = if is_power_of_two flags then Some (trailing_zeros w32 flags) else None

-- Where one flag alone is set its number is shown as the state. Of another word nothing is said.
abbrev pub state_text : Option ℕ → Option (List ℕ)
state_text (Some state) = Some (codes "state " ++ decimal state)
state_text None = None

abbrev pub flags_text : Flags → Option (List ℕ)
flags_text f = state_text (state_of f.0)

abbrev pub change_text : Change → List ℕ
change_text ColdStart = codes "cold start"
change_text Start = codes "start"
change_text Moved = codes "moved"
change_text Stayed = codes "stayed"
