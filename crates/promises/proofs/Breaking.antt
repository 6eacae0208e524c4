-- How demand 3 is refuted by one history: what it says of one sheet, and the scan behind that history. Assumes nothing.
use Rattle.std.specs.Prelude.{Ok}
use mathlib.Core.Path.{◌≡◌, refl, sym, ap, ◌∙◌}
use mathlib.Core.List.{List, [], ◌∷◌, map}
use Prim.Native.Nat.{ℕ, ◌*◌, ◌≤◌, ◌<◌}
use native.Mathlib.Omega.{arith}
use borrow.Author.Tests.{le-leb}
use lib.ListN.{length}
use Rattle.bits.specs.Read.{ok}
use Rattle.bits.proofs.ReadLaws.{ok-is}
use Rattle.reader.specs.Sheet.{Sheet}
use Rattle.reader.specs.Reading.{read_sheet}
use Rattle.sheet.specs.Judging.{check_sheet}
use Rattle.scan.specs.declared.State.{State}
use Rattle.scan.specs.Scan.{scan_of, cold_of, scan_sheet, Scanned}
use Rattle.words.specs.Word.{Word, decode, to_bytes, words}
use Rattle.faults.specs.Check.{check_code}
use Rattle.machine.specs.declared.Record.{Record}
use Rattle.machine.specs.Machine.{run_scan}
use Rattle.machine.specs.Run.{mach_of, record_of, run_code, Ran}
use Rattle.translate.specs.Writing.{unwritten, written_with}
use Rattle.same.specs.Same.{embed}
use Rattle.same.specs.Histories.{Tick, Runner, ref_after, run_after, Follows}
use Rattle.same.proofs.AcceptedLaws.{with-sheet, scan-is, cold-scan-is, written-code}
use Rattle.promises.specs.Length.{words_of}
use Rattle.promises.specs.Demand3.{Translator, code_in, Demand3}
use Rattle.promises.specs.Earlier.{writing, Gives}

-- a scan of code that is checked and decoded
pub run_of : (code : List Word) → check_code (to_bytes code) ≡ Ok tt → map decode (words (to_bytes code)) ≡ code
    → (r : Record) (word elapsed : ℕ)
    → run_code (to_bytes code) r word elapsed
    ≡ record { verdict = Ok tt; «record» = record_of (run_scan code (mach_of r) word elapsed).mach }
unfolding run_code
run_of code checked decoded r word elapsed = rw (checked, decoded) refl

module _ (s : List ℕ) (a : Sheet) (end : ℕ) (read : read_sheet s ≡ ok a end) (acc : check_sheet s ≡ Ok tt) where
  -- the reference's record from cold, and after one more scan
  pub ref-cold : ref_after s [] ≡ cold_of a
  unfolding ref_after
  ref-cold = ap (λ (v : Scanned). v.«record») (cold-scan-is s a end read acc)

  pub ref-next : (before : List Tick) (t : Tick) (q p : State) → ref_after s before ≡ q → q.state < a.states
      → scan_of a q t.word t.elapsed ≡ p → ref_after s (t ∷ before) ≡ p
  unfolding ref_after
  ref-next before t q p e lt f =
      ap (λ r. (scan_sheet s r t.word t.elapsed).«record») e
      ∙ ap (λ (v : Scanned). v.«record») (scan-is s a end read acc q lt t.word t.elapsed) ∙ f

  -- what a translator that writes `make a` leaves, with room
  pub written-by : (make : Sheet → List Word) (room : List ℕ) → length (to_bytes (make a)) ≤ length room
      → code_in (writing make s room) ≡ to_bytes (make a)
  unfolding writing
  written-by make room le =
      let code : List ℕ = to_bytes (make a) in
      let all : writing make s room ≡ written_with room code =
      with-sheet s a end read acc (unwritten room) _ ∙ rw (le-leb (length code) (length room) le) refl in
      ap code_in all ∙ written-code room code le

  module _ (f : Translator) (run : Runner) (d : Demand3 f run)
      (room : List ℕ) (fits : 4 * words_of a ≤ length room) where
    -- what demand 3 says of this sheet and a buffer with room for its code
    pub demanded : (b : Sheet)
        × ((f s room).answer.verdict ≡ Ok tt)
        × (check_code (code_in (f s room)) ≡ Ok tt)
        × ((ticks : List Tick) → Follows run s b (code_in (f s room)) ticks)
    demanded =
        let h = d s acc in
        let same : a ≡ h.0 = ok-is (sym read ∙ h.2) in
        let at = h.5 room (omega (arith, ap words_of same)) in
        (h.0, at.0, at.1, at.2)

    -- so a scan behind any history gives the runner's record of what it must give
    pub must-give : (make : Sheet → List Word) → code_in (f s room) ≡ to_bytes (make a)
        → (before : List Tick) (t : Tick) (q p : State) (u : Record) → ref_after s before ≡ q → q.state < a.states
        → Gives a make run q t p u → u ≡ embed p
    unfolding run_after
    must-give make e before t q p u at lt gives =
        let code : List ℕ = to_bytes (make a) in
        let old : run_after run s code before ≡ embed q = rw e at (demanded.3 before).same ∙ ap embed at in
        let new : run_after run s code (t ∷ before) ≡ embed p =
        rw e at (demanded.3 (t ∷ before)).same ∙ ap embed (ref-next before t q p at lt gives.0) in
        sym (ap (λ (v : Ran). v.«record») gives.1)
        ∙ ap (λ r. (run code r t.word t.elapsed).«record») (sym old) ∙ new
