-- A sheet that is checked and decoded once, for those who go on with it: not needed to read the promises.
use Rattle.std.specs.Prelude.{ℕ, ◌≡◌, List, Ok}
use Rattle.answer.specs.Checked.{Checked}
use Rattle.bits.specs.Read.{ok}
use Rattle.reader.specs.Sheet.{Sheet}
use Rattle.reader.specs.Reading.{read_sheet}
use Rattle.reader.specs.inside.Decoding.{Copy}
use Rattle.reader.specs.declared.Decoded.{Decoded}
use Rattle.sheet.specs.Judging.{judge, check_sheet}

-- the bytes are an accepted sheet, of which d is the copy
pub record Good (s : List ℕ) (d : Decoded) : Type 0 where
  pub sheet : Sheet
  pub end : ℕ
  pub read : read_sheet s ≡ ok sheet end
  pub judged : judge sheet ≡ Ok tt
  pub copy : Copy s d sheet

-- the verdict, and the copy where it accepts
pub record Opens (s : List ℕ) (r : Checked) (d : Decoded) : Type 0 where
  pub verdict : r ≡ check_sheet s
  pub good : r ≡ Ok tt → Good s d
