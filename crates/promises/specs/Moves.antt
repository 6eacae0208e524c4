-- One scan makes one published move: of the sheet, and of its code.
use Rattle.std.specs.Prelude.{◌≡◌, List, ℕ, ◌<◌, Ok}
use Rattle.bits.specs.Read.{ok}
use Rattle.clock.specs.Onward.{onward}
use Rattle.reader.specs.Sheet.{Sheet}
use Rattle.reader.specs.Reading.{read_sheet}
use Rattle.sheet.specs.Judging.{check_sheet}
use Rattle.scan.specs.declared.State.{State}
use Rattle.scan.specs.Scan.{scan_sheet}
use Rattle.machine.specs.Run.{run_code}
use Rattle.translate.specs.Writing.{code_of}
use Rattle.moves.specs.Moves.{Moves}
use Rattle.same.specs.Same.{embed, Fits}

-- 4. "The automaton always fires only one single transition": a related record is that of one transition, or that of none; so the scan of an
-- accepted sheet is, and it is the only one
abbrev pub MovesAsPublished : Type 0
MovesAsPublished =
    (s : List ℕ) → check_sheet s ≡ Ok tt
    → (a : Sheet) × (end : ℕ) × (read_sheet s ≡ ok a end)
    × ((q : State) → q.state < a.states → (word elapsed : ℕ)
    → ((scan_sheet s q word elapsed).verdict ≡ Ok tt)
    × Moves a q word (onward q.clock elapsed) (scan_sheet s q word elapsed).«record»
    × ((p : State) → Moves a q word (onward q.clock elapsed) p → p ≡ (scan_sheet s q word elapsed).«record»))

-- and so does one scan of the code, from the runner's record of any reference record that fits the sheet: it makes one published move, and no other
abbrev pub OneMove : Type 0
OneMove =
    (s : List ℕ) → check_sheet s ≡ Ok tt
    → (a : Sheet) × (end : ℕ) × (read_sheet s ≡ ok a end)
    × ((q : State) → Fits a q → (word elapsed : ℕ)
    → (p : State) × (run_code (code_of a) (embed q) word elapsed ≡ record { verdict = Ok tt; «record» = embed p })
    × Moves a q word (onward q.clock elapsed) p)
