-- `walk::descend` meets its contract: what is to come stays the same while operators are passed.
use mathlib.Core.List.{List}
use Prim.Native.Nat.{◌-◌, ◌≤◌}
use Rattle.bits.specs.Field.{reach}
use Rattle.walk.specs.Items.{Item}
use Rattle.walk.specs.inside.Walking.{Down}
use Rattle.walk.proofs.descend.Given as goal

abbrev pub invariant-down : goal.invariant-down
invariant-down l = ((is : List Item) → Down l.s l.from l.waiting is → Down l.s l.at l.pending is) × (l.from ≤ l.at)

abbrev pub decreases-down : goal.decreases-down
decreases-down l = reach - l.at
