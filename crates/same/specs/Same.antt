-- One scan of the translated code against one scan of the sheet, with the number of words that the machine executes.
use Rattle.std.specs.Prelude.{◌≡◌, Bool, cond, List, [], ◌∷◌, ℕ, ◌+◌, ◌^◌, ◌<◌}
use Rattle.clock.specs.Onward.{onward}
use Rattle.reader.specs.Sheet.{Transition, Sheet}
use Rattle.scan.specs.declared.State.{State}
use Rattle.scan.specs.Scan.{Choice, none, some, can, best, scan_of}
use Rattle.machine.specs.declared.Record.{Record}
use Rattle.machine.specs.Machine.{out, run_scan}
use Rattle.machine.specs.Run.{record_with, mach_of}
use Rattle.translate.specs.Translation.{sort, block_len, translate}

-- "The runner's record is a flag word (flag s has weight 2^s), an output word (output a has weight 2^a) and the clock; the reference scan's
-- has the state's number for the flag word": the runner's record of a reference record has the active state's flag alone
unfoldable pub embed : State → Record
embed q = record_with (2 ^ q.state) q.outputs q.clock

-- a reference record that fits the sheet: a state that there is, and outputs below l alone
pub record Fits (a : Sheet) (q : State) : Type 0 where
  pub active : q.state < a.states
  pub within : q.outputs < 2 ^ a.outputs

-- the words executed in the blocks of these transitions: all of each block up to and with the first that fires
unfoldable pub spent : (Transition → Bool) → List Transition → ℕ
spent fires [] = 0
spent fires (t ∷ ts) = block_len t + cond (fires t) 0 (spent fires ts)

-- and behind the blocks: JMP and END where none fires; else SA or RA for each of l outputs, TRES, JMP and END
unfoldable pub leaving : ℕ → ℕ → Choice → ℕ
leaving l n none = n + 2
leaving l n (some t) = n + (l + 3)

unfoldable pub executed : Sheet → State → ℕ → ℕ → ℕ
executed a q word elapsed =
    let clock = onward q.clock elapsed in
    leaving a.outputs (spent (can q.state word clock) (sort a.transitions)) (best q.state word clock a.transitions)

-- the same record comes out of both, with any input word and any elapsed time
abbrev pub Same : Sheet → Type 0
Same a =
    (q : State) → Fits a q → (word elapsed : ℕ)
    → run_scan (translate a) (mach_of (embed q)) word elapsed
    ≡ out (mach_of (embed (scan_of a q word elapsed))) (executed a q word elapsed)
