-- `machine::execute` meets its contract. At each turn the rest of the scan from here ends as the whole scan does; each word goes on to
-- a later one.
use mathlib.Core.Bool.{false}
use mathlib.Core.List.{[], map}
use Prim.Native.Nat.{◌-◌}
use lib.ListN.{length}
use Rattle.words.specs.Word.{decode, words}
use Rattle.machine.specs.Machine.{exec}
use Rattle.machine.specs.inside.Midway.{mach_in}
use Rattle.machine.proofs.RunLaws.{Going}
use Rattle.machine.proofs.execute.Given as goal

abbrev pub invariant-loop-arg : goal.invariant-loop-arg
invariant-loop-arg l = Going l.code l.inputs (exec l.inputs 0 (map decode (words l.code)) 0 (mach_in l.initial.m) false [] 0) l.m

abbrev pub decreases-loop-arg : goal.decreases-loop-arg
decreases-loop-arg l = length (words l.code) - l.m.at
