-- Code made of words: its run, without bytes. Assumes nothing.
use Rattle.std.specs.Prelude.{Ok}
use mathlib.Core.Path.{◌≡◌, refl}
use mathlib.Core.List.{List}
use Prim.Native.Nat.{ℕ}
use Rattle.words.specs.Word.{Word, to_bytes}
use Rattle.words.proofs.WordLaws.{Fit, words_are}
use Rattle.faults.specs.Check.{check_code}
use Rattle.machine.specs.declared.Record.{Record}
use Rattle.machine.specs.Machine.{run_scan}
use Rattle.machine.specs.Run.{mach_of, record_of, run_code}

-- the run of code made of words
pub runs : (is : List Word) → Fit is → check_code (to_bytes is) ≡ (Ok tt) → (r : Record) (x elapsed : ℕ)
    → run_code (to_bytes is) r x elapsed ≡ record { verdict = (Ok tt); «record» = record_of (run_scan is (mach_of r) x elapsed).mach }
unfolding run_code
runs is fit e r x elapsed = rw (e, words_are is fit) refl
