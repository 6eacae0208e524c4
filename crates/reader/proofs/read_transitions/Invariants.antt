-- `reader::read_transitions` meets its contract. The invariant: the transitions passed are read, and the slice holds them.
use mathlib.Core.Path.{◌≡◌}
use mathlib.Core.List.{List}
use Prim.Native.Nat.{◌+◌, ◌*◌, ◌≤◌}
use Rattle.bits.specs.Read.{ok, upto}
use Rattle.reader.specs.Sheet.{Transition, no_transition}
use Rattle.reader.specs.Reading.{transition_at}
use Rattle.reader.specs.inside.Decoding.{Holds}
use Rattle.reader.specs.inside.Packing.{unpack}
use Rattle.reader.proofs.FillLaws.{Filled}
use Rattle.reader.proofs.read_transitions.Given as goal

abbrev pub invariant-loop-arrow : goal.invariant-loop-arrow
invariant-loop-arrow l =
    (l.here.at ≤ 1000 + 227 * l.arrow-index) × (ts : List Transition)
    × (upto (transition_at l.s l.header.states l.header.inputs) l.initial.here.at l.arrow-index ≡ ok ts l.here.at)
    × Filled (λ w t. Holds l.s l.header.inputs (unpack w) t) 0 no_transition l.arrows ts l.arrow-index
