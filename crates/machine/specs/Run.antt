-- The runner: "The runner refuses faulty code, else brings the clock forward as above and starts at word 0."
use Rattle.std.specs.Prelude.{◌≡◌, List, map, ℕ, Ok, Err}
use Rattle.answer.specs.Checked.{Checked}
use Rattle.answer.specs.declared.Answered.{Answered}
use Rattle.machine.specs.declared.Record.{Record}
use Rattle.words.specs.Word.{decode, words}
use Rattle.machine.specs.Machine.{Mach, mach_with, run_scan}
use Rattle.faults.specs.Check.{check_code}

-- The runner's record, and what the machine changes of it
abbrev pub record_with : ℕ → ℕ → ℕ → Record
record_with flags outputs clock = record { flags = flags; outputs = outputs; clock = clock }

abbrev pub mach_of : Record → Mach
mach_of r = mach_with r.flags r.outputs r.clock

abbrev pub record_of : Mach → Record
record_of m = record_with m.flags m.outputs m.clock

-- a scan's answer
abbrev pub Ran : Type 0
Ran = Answered Record

abbrev pub ran_with : Checked → Record → Ran
ran_with verdict r = record { verdict = verdict; «record» = r }

abbrev pub ran_by : Checked → List ℕ → Record → ℕ → ℕ → Ran
ran_by (Ok tt) s r x elapsed = ran_with (Ok tt) (record_of (run_scan (map decode (words s)) (mach_of r) x elapsed).mach)
ran_by (Err why) s r x elapsed = ran_with (Err why) r

-- "A refused scan returns the record it was given"; x is the input word
unfoldable pub run_code : List ℕ → Record → ℕ → ℕ → Ran
run_code s r x elapsed = ran_by (check_code s) s r x elapsed

-- THE CONTRACT of `run`: the verdict and the record, for any code, record, input word and elapsed time
abbrev pub Runs : List ℕ → Record → ℕ → ℕ → Ran → Type 0
Runs code given x elapsed r = r ≡ run_code code given x elapsed
