use Rattle.options.specs.Given.{NoOptionIn}
use Rattle.options.proofs.Given.of.Given as goal

abbrev pub invariant-loop-number : goal.invariant-loop-number
invariant-loop-number l = NoOptionIn l.given.files.items
