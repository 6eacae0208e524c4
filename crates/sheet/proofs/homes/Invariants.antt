-- `sheet::homes` meets its contract. The invariant: bit s of the word says whether an arrow passed goes from state s to 0.
use Rattle.sheet.specs.inside.Arrows.{Homes}
use Rattle.sheet.proofs.homes.Given as goal

abbrev pub invariant-loop-w : goal.invariant-loop-w
invariant-loop-w l = Homes l.arrows l.w-index l.word
