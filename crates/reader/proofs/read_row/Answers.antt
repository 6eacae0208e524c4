-- `reader::read_row` meets its contract. Assumes nothing.
use mathlib.Core.Path.{sym}
use Rattle.reader.specs.Reading.{row_at}
use Rattle.reader.proofs.read_row.Goals as goal

pub returns-in_default : goal.returns-in_default
unfolding row_at
returns-in_default c = rw (sym c.in_default.ensures)

pub returns : goal.returns
unfolding row_at
returns c = rw (sym c.in-Some.ensures, c.output_word.ensures)
