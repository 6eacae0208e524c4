-- `faults::one_pass` meets its contract. At each turn the search from here finds what the whole search finds, and the targets of the
-- jumps passed by are marked.
use Rattle.words.specs.Word.{words}
use Rattle.faults.proofs.FaultLaws.{Looking}
use Rattle.faults.proofs.one_pass.Given as goal

abbrev pub invariant-loop-at : goal.invariant-loop-at
invariant-loop-at l = Looking (words l.code) l.n l.targets.bits l.landing l.at l.d
