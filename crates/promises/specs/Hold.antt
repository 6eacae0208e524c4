-- "The clock first becomes the lesser of clock plus elapsed and 16,777,215. That is the largest wait, so holding it there changes no comparison."
use Rattle.std.specs.Prelude.{◌≡◌, List, ℕ, ◌≤◌, ◌<◌, min, leb, Ok}
use Rattle.bits.specs.Read.{ok}
use Rattle.reader.specs.Sheet.{Sheet, count, transition_of}
use Rattle.reader.specs.Reading.{read_sheet}
use Rattle.sheet.specs.Judging.{check_sheet}

-- no wait of an accepted sheet is larger, and it is reached by the time held exactly if it is reached by the time
abbrev pub HoldChangesNone : Type 0
HoldChangesNone =
    (s : List ℕ) → check_sheet s ≡ Ok tt
    → (a : Sheet) × (end : ℕ) × (read_sheet s ≡ ok a end)
    × ((i : ℕ) → i < count a
    → ((transition_of a i).wait ≤ 16777215)
    × ((time : ℕ) → leb (transition_of a i).wait (min time 16777215) ≡ leb (transition_of a i).wait time))
