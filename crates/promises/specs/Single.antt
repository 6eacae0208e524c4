-- "For all inputs, accepted or not, each public call's contract settles the number, place, record and every byte of the code buffer. Prove that the
-- contract admits a single outcome": each relation is the one that the function's own contract cites. An outcome is the answer, with number and
-- place in its verdict and with its record, and for the translator every byte of the buffer at exit.
use Rattle.std.specs.Prelude.{List, ℕ}
use Rattle.answer.specs.One.{One}
use Rattle.sheet.specs.Judging.{ChecksSheet}
use Rattle.scan.specs.declared.State.{State}
use Rattle.scan.specs.Scan.{Scans, ColdScans}
use Rattle.faults.specs.Check.{ChecksCode}
use Rattle.machine.specs.declared.Record.{Record}
use Rattle.machine.specs.Run.{Runs}
use Rattle.translate.specs.Writing.{Written, Translates, ColdRuns}

pub record SingleOutcome : Type 0 where
  pub for_check_sheet : (s : List ℕ) → One (ChecksSheet s)
  pub for_check_code : (code : List ℕ) → One (ChecksCode code)
  pub translate : (s buffer : List ℕ) → One (λ (w : Written). Translates s buffer w.answer w.buffer)
  pub for_cold_scan : (s : List ℕ) → One (ColdScans s)
  pub for_cold_run : (s : List ℕ) → One (ColdRuns s)
  pub scan : (s : List ℕ) (q : State) (word elapsed : ℕ) → One (Scans s q word elapsed)
  pub run : (code : List ℕ) (r : Record) (word elapsed : ℕ) → One (Runs code r word elapsed)
