-- With room the translator accepts, and what it leaves is the code. Assumes nothing.
use Rattle.std.specs.Prelude.{Ok}
use mathlib.Core.Path.{◌≡◌, refl, ap, ◌∙◌}
use mathlib.Core.List.{List}
use Prim.Native.Nat.{ℕ, ◌*◌, ◌≤◌}
use native.Mathlib.Omega.{arith}
use borrow.Author.Tests.{le-leb}
use lib.ListN.{length}
use Rattle.bits.specs.Read.{ok}
use Rattle.reader.specs.Sheet.{Sheet}
use Rattle.reader.specs.Reading.{read_sheet}
use Rattle.rules.specs.Rules.{Rules}
use Rattle.sheet.specs.Judging.{check_sheet}
use Rattle.translate.specs.Writing.{code_of, written_with, translate_into}
use Rattle.same.proofs.AcceptedLaws.{translate-is, written-code}
use Rattle.promises.specs.Length.{words_of}
use Rattle.promises.specs.Demand3.{code_in}
use Rattle.promises.proofs.LengthProof.{bytes-are}

module _ (a : Sheet) (rules : Rules a) (s : List ℕ) (end : ℕ) (read : read_sheet s ≡ ok a end) (acc : check_sheet s ≡ Ok tt) where
  -- with room the translator accepts, and what it leaves in the buffer is the code
  pub with-room : (buffer : List ℕ) → 4 * words_of a ≤ length buffer → translate_into s buffer ≡ written_with buffer (code_of a)
  with-room buffer h =
      translate-is s a end read acc buffer
      ∙ rw (le-leb (length (code_of a)) (length buffer) (omega (arith, bytes-are a rules))) refl

  pub code-in : (buffer : List ℕ) → 4 * words_of a ≤ length buffer → code_in (translate_into s buffer) ≡ code_of a
  code-in buffer h = ap code_in (with-room buffer h) ∙ written-code buffer (code_of a) (omega (arith, bytes-are a rules))
