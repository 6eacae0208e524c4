-- What the public definitions are on an accepted sheet.
use Rattle.std.specs.Prelude.{Ok, Err}
use mathlib.Core.Path.{◌≡◌, refl, ap, ◌∙◌}
use mathlib.Core.Bool.{cond}
use mathlib.Core.List.{List, ◌++◌}
use Prim.Native.Nat.{ℕ, ◌+◌, ◌≤◌, ◌<◌}
use native.Mathlib.Omega.{arith}
use borrow.Author.Tests.{lt-ltb}
use lib.Dec.{leb}
use lib.ListN.{length, take, drop}
use lib.Seq.{sets, sets-eq, take-append_seam}
use Rattle.answer.specs.declared.Refusal.{Refusal}
use Rattle.answer.specs.declared.Refusal.TheVariants.{Room}
use Rattle.answer.specs.Checked.{Checked}
use Rattle.bits.specs.Read.{ok}
use Rattle.reader.specs.Sheet.{Sheet}
use Rattle.reader.specs.Reading.{read_sheet}
use Rattle.sheet.specs.Judging.{judge, check_sheet, with_sheet}
use Rattle.scan.specs.declared.State.{State}
use Rattle.scan.specs.Scan.{accepted, refused, scan_of, cold_of, scan_sheet, cold_scan, zeros}
use Rattle.translate.specs.Writing.{code_of, unwritten, written_with, translate_into, cold_record, no_record, cold_run}

module _ (s : List ℕ) (a : Sheet) (end : ℕ) (read : read_sheet s ≡ ok a end) (acc : check_sheet s ≡ Ok tt) where
  judged : judge a ≡ Ok tt
  unfolding check_sheet
  judged = rw read at acc

  -- what is done with it
  pub with-sheet : {B : Type 0} (refuse : Refusal → B) (go : Sheet → B) → with_sheet s refuse go ≡ go a
  unfolding with_sheet
  with-sheet refuse go = rw (read, judged) refl

  pub scan-is : (q : State) → q.state < a.states → (word elapsed : ℕ) → scan_sheet s q word elapsed ≡ accepted (scan_of a q word elapsed)
  unfolding scan_sheet
  scan-is q lt word elapsed = with-sheet (refused q) _ ∙ rw (lt-ltb q.state a.states lt) refl

  pub cold-scan-is : cold_scan s ≡ accepted (cold_of a)
  unfolding cold_scan
  cold-scan-is = with-sheet (refused zeros) (λ b. accepted (cold_of b))

  pub cold-run-is : cold_run s ≡ record { verdict = Ok tt; «record» = cold_record a }
  unfolding cold_run
  cold-run-is = with-sheet no_record (λ b. record { verdict = Ok tt; «record» = cold_record b })

  -- the translator, with room and without
  pub translate-is : (buffer : List ℕ)
      → translate_into s buffer
      ≡ cond (leb (length (code_of a)) (length buffer)) (written_with buffer (code_of a)) (unwritten buffer (Room (length (code_of a))))
  unfolding translate_into
  translate-is buffer = with-sheet (unwritten buffer) _

-- from the buffer's start: the code can be taken out again
pub written-code : (buffer code : List ℕ) → length code ≤ length buffer → take (length code) (sets buffer 0 code) ≡ code
written-code buffer code le =
    let e : sets buffer 0 code ≡ code ++ drop (0 + length code) buffer = sets-eq code buffer 0 (omega arith) in
    ap (take (length code)) e ∙ take-append_seam code (drop (0 + length code) buffer)
