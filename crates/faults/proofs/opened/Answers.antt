-- `faults::opened` meets its contract. Assumes nothing.
use mathlib.Core.Path.{refl}
use Rattle.faults.proofs.CheckLaws.{opens-flat}
use Rattle.faults.proofs.opened.Goals as goal

pub returns-in_default : goal.returns-in_default
returns-in_default c = λ a. rw (opens-flat c.args.op a c.args.d c.in_default.not-And c.in_default.not-Or c.in_default.not-Close) refl
