-- What each C call returns and leaves behind its pointers, as a relation by the call's name: over what it is given, the
-- number that it returns and what stands behind each pointer at exit.
use Rattle.std.specs.Prelude.{ℕ, List}
use Rattle.answer.specs.Number.{number_of, place_of}
use Rattle.sheet.specs.Judging.{check_sheet}
use Rattle.scan.specs.declared.State.{State}
use Rattle.scan.specs.Scan.{scan_sheet, cold_scan}
use Rattle.faults.specs.Check.{check_code}
use Rattle.machine.specs.declared.Record.{Record}
use Rattle.machine.specs.Run.{run_code}
use Rattle.translate.specs.Writing.{translate_into, cold_run}
use Rattle.recorder.specs.Answer.{Told, CodeLeft, StateLeft, RecordLeft}

pub record ChzCheckSheet (sheet : List ℕ) (number place : ℕ) : Type 0 where
  pub told : Told (check_sheet sheet) number place

pub record ChzCheckCode (code : List ℕ) (number place : ℕ) : Type 0 where
  pub told : Told (check_code code) number place

-- the buffer at entry and at exit
pub record ChzTranslate (sheet buffer : List ℕ) (number place length : ℕ) (code : List ℕ) : Type 0 where
  pub told : Told (translate_into sheet buffer).answer.verdict number place
  pub left : CodeLeft (translate_into sheet buffer) length code

-- what the record held is not read
pub record ChzColdScan (sheet : List ℕ) (number place state outputs clock : ℕ) : Type 0 where
  pub told : Told (cold_scan sheet).verdict number place
  pub left : StateLeft (cold_scan sheet).«record» state outputs clock

pub record ChzColdRun (sheet : List ℕ) (number place flags outputs clock : ℕ) : Type 0 where
  pub told : Told (cold_run sheet).verdict number place
  pub left : RecordLeft (cold_run sheet).«record» flags outputs clock

-- from the record given
pub record ChzScan (sheet : List ℕ) (given : State) (inputs elapsed : ℕ)
    (number place state outputs clock : ℕ) : Type 0 where
  pub told : Told (scan_sheet sheet given inputs elapsed).verdict number place
  pub left : StateLeft (scan_sheet sheet given inputs elapsed).«record» state outputs clock

pub record ChzRun (code : List ℕ) (given : Record) (inputs elapsed : ℕ)
    (number place flags outputs clock : ℕ) : Type 0 where
  pub told : Told (run_code code given inputs elapsed).verdict number place
  pub left : RecordLeft (run_code code given inputs elapsed).«record» flags outputs clock
