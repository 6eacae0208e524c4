use Rattle.options.specs.Given.{NoOptionAmong}
use Rattle.options.proofs.Options.with_files.Given as goal

abbrev pub invariant-loop-word : goal.invariant-loop-word
invariant-loop-word l = NoOptionAmong l.files.items
