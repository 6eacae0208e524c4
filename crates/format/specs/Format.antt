-- The format: sheet to bytes and bytes to sheet, each the other's inverse.
use Rattle.std.specs.Prelude.{ℕ, ◌≡◌, List, length, take}
use Rattle.bits.specs.Read.{ok}
use Rattle.reader.specs.Sheet.{Sheet}
use Rattle.reader.specs.Reading.{read_sheet}
use Rattle.format.specs.Fields.{WellFormed}
use Rattle.format.specs.Writing.{Bytes, sheet_bits, sheet_of}

pub record Format : Type 0 where
  -- a well-formed sheet, written and read, gives itself and the bit after its last
  pub written_read : (a : Sheet) → WellFormed a → read_sheet (sheet_of a) ≡ ok a (length (sheet_bits a))
  -- a byte string that is read as a sheet is the bytes of that sheet
  pub read_written : (s : List ℕ) (a : Sheet) (end : ℕ) → Bytes s → read_sheet s ≡ ok a end → sheet_of a ≡ s
  -- what is read is a well-formed sheet, and what is written a byte string
  pub read_formed : (s : List ℕ) (a : Sheet) (end : ℕ) → read_sheet s ≡ ok a end → WellFormed a
  pub written_bytes : (a : Sheet) → Bytes (sheet_of a)
  -- the first 4,096 bytes of a longer byte string are read as all of it
  pub read_first : (s : List ℕ) → read_sheet (take 4096 s) ≡ read_sheet s
