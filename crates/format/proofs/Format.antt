-- The format's theorem: written and read, read and written. Assumes nothing.
use mathlib.Core.Path.{◌≡◌, sym, subst}
use mathlib.Core.List.{List}
use mathlib.Core.Bool.{true}
use Prim.Native.Nat.{ℕ}
use lib.ListN.{length}
use Rattle.bits.specs.Read.{ok}
use Rattle.reader.specs.Sheet.{Sheet}
use Rattle.reader.specs.Reading.{ends_at, read_sheet}
use Rattle.format.specs.Fields.{WellFormed}
use Rattle.format.specs.Writing.{Bytes, sheet_bits, sheet_of}
use Rattle.format.specs.Format.{Format}
use Rattle.format.proofs.SheetStands.{sheet-said, sheet-reads}
use Rattle.format.proofs.InBytes.{in-bytes-stand, in-bytes-below, in-bytes-only}
use Rattle.format.proofs.FirstBytes.{read_first}

pub written_read : (a : Sheet) → WellFormed a → read_sheet (sheet_of a) ≡ ok a (length (sheet_bits a))
unfolding sheet_of
written_read a f =
    let there = in-bytes-stand (sheet_bits a) in
    sheet-reads (sheet_of a) a f there.0 there.1

pub read_written : (s : List ℕ) (a : Sheet) (end : ℕ) → Bytes s → read_sheet s ≡ ok a end → sheet_of a ≡ s
unfolding sheet_of
read_written s a end b e =
    let said = sheet-said s a end e in
    let ends = subst (λ (n : ℕ). ends_at s n ≡ true) said.after said.ends in
    sym (in-bytes-only (sheet_bits a) s b said.stands ends)

pub read_formed : (s : List ℕ) (a : Sheet) (end : ℕ) → read_sheet s ≡ ok a end → WellFormed a
read_formed s a end e = (sheet-said s a end e).formed

pub written_bytes : (a : Sheet) → Bytes (sheet_of a)
unfolding sheet_of
written_bytes a = in-bytes-below (sheet_bits a)

pub format : Format
format =
    record { written_read = written_read; read_written = read_written; read_formed = read_formed; written_bytes = written_bytes; read_first = read_first }
