-- Histories: the records after any list of scans from a cold start, and what holds after every one.
use Rattle.machine.specs.Run.{Ran}
use Rattle.std.specs.Prelude.{◌≡◌, false, cond, List, [], ◌∷◌, ℕ, ◌+◌, ◌^◌, ◌<◌, min, eqb, Ok}
use Rattle.bits.specs.Word.{get_bit}
use Rattle.reader.specs.Sheet.{Sheet}
use Rattle.scan.specs.declared.State.{State}
use Rattle.scan.specs.Scan.{outputs_of, scan_sheet, cold_scan}
use Rattle.machine.specs.declared.Record.{Record}
use Rattle.translate.specs.Writing.{cold_run}
use Rattle.same.specs.Same.{embed}

-- "A scan brings a 16-bit input word .. and elapsed ms, any 32-bit number"
pub record Tick : Type 0 where
  pub word : ℕ
  pub elapsed : ℕ

abbrev pub Runner : Type 0
Runner = List ℕ → Record → ℕ → ℕ → Ran

-- The records after some scans from a cold start; the last scan stands first in the list. By the reference, which works from the sheet:
unfoldable pub ref_after : List ℕ → List Tick → State
ref_after s [] = (cold_scan s).«record»
ref_after s (t ∷ before) = (scan_sheet s (ref_after s before) t.word t.elapsed).«record»

-- and by the runner, which works from the code:
unfoldable pub run_after : Runner → List ℕ → List ℕ → List Tick → Record
run_after run s code [] = (cold_run s).«record»
run_after run s code (t ∷ before) = (run code (run_after run s code before) t.word t.elapsed).«record»

-- the time since the last change of state or the cold start: the sum of the elapsed times of the scans since then
unfoldable pub since_change : List ℕ → List Tick → ℕ
since_change s [] = 0
since_change s (t ∷ before) = cond (eqb (ref_after s (t ∷ before)).state (ref_after s before).state) (since_change s before + t.elapsed) 0

-- after these scans
pub record Follows (run : Runner) (s : List ℕ) (a : Sheet) (code : List ℕ) (ticks : List Tick) : Type 0 where
  -- the next scan is accepted, whatever it brings, by the reference and by the runner
  pub scan_accepted : (t : Tick) → (scan_sheet s (ref_after s ticks) t.word t.elapsed).verdict ≡ Ok tt
  pub run_accepted : (t : Tick) → (run code (run_after run s code ticks) t.word t.elapsed).verdict ≡ Ok tt
  -- the reference is in one of the n states, and the runner has the reference's record, with the state's flag for its number
  pub state : (ref_after s ticks).state < a.states
  pub same : run_after run s code ticks ≡ embed (ref_after s ticks)
  -- that state's flag is set, and no other
  pub flag : (run_after run s code ticks).flags ≡ 2 ^ (ref_after s ticks).state
  pub one : (i : ℕ) → get_bit (run_after run s code ticks).flags i ≡ eqb i (ref_after s ticks).state
  -- the outputs are that state's row
  pub row : (run_after run s code ticks).outputs ≡ outputs_of a (ref_after s ticks).state
  -- the clock is the time since the last change of state or the cold start, held at 16,777,215
  pub clock : (run_after run s code ticks).clock ≡ min (since_change s ticks) 16777215
  -- a scan with input 0, activation, off ends in state 0
  pub home : (t : Tick) → get_bit t.word 0 ≡ false → (run_after run s code (t ∷ ticks)).flags ≡ 1
