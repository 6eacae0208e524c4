-- `scan::choose` meets its contract. The invariant: the best of the transitions passed, joined with the best of the rest, is
-- the best of all.
use Rattle.reader.specs.Sheet.{Sheet}
use Rattle.reader.specs.inside.Decoding.{Copy}
use Rattle.scan.proofs.PickLaws.{Passed}
use Rattle.scan.proofs.choose.Given as goal

abbrev pub invariant-loop-w : goal.invariant-loop-w
invariant-loop-w l =
    (a : Sheet) → Copy l.sheet l.decoded a → Passed l.now.state l.word l.now.clock a.transitions l.w-index l.best
