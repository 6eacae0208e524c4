-- `reader::read_rows` meets its contract. The invariant: the rows of the states passed are read, and the slice holds their words.
use mathlib.Core.Path.{◌≡◌}
use mathlib.Core.Bool.{Bool}
use mathlib.Core.List.{List, []}
use Prim.Native.Nat.{ℕ, ◌+◌, ◌*◌, ◌≤◌}
use Rattle.bits.specs.Word.{word_of}
use Rattle.bits.specs.Read.{ok, upto}
use Rattle.reader.specs.Reading.{row_at}
use Rattle.reader.proofs.FillLaws.{Filled}
use Rattle.reader.proofs.read_rows.Given as goal

abbrev pub IsWord : ℕ → List Bool → Type 0
IsWord w row = w ≡ word_of row

abbrev pub invariant-loop-row : goal.invariant-loop-row
invariant-loop-row l =
    (l.here.at ≤ 100 + 16 * l.row-index) × (xs : List (List Bool))
    × (upto (row_at l.s l.width) l.initial.here.at l.row-index ≡ ok xs l.here.at)
    × Filled IsWord 0 [] l.rows xs l.row-index
