-- `faults::mark_open` meets its contract. The depth is counted down the text.
use Rattle.words.specs.Word.{words}
use Rattle.faults.proofs.MarkLaws.{Marked}
use Rattle.faults.proofs.FaultLaws.{inside, Deep}
use Rattle.faults.proofs.mark_open.Given as goal

abbrev pub invariant-loop-at : goal.invariant-loop-at
invariant-loop-at l = Deep (words l.code) l.at l.d × Marked (inside (words l.code)) l.marks.bits l.at
