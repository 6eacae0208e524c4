-- `walk::descend` meets its contract: what is to come stays the same while operators are passed. Assumes nothing.
use native.Mathlib.Omega.{arith}
use Rattle.bits.proofs.FieldLaws.{num-lt}
use Rattle.walk.proofs.WalkLaws.{down-near, down-inside, down-room, down-next, down-loads, left_down}
use Rattle.walk.proofs.descend.Goals as goal

pub number-node-requires : goal.number-node-requires
number-node-requires c =
    let here = c.down.invariant.0 c.requires.items c.requires.down in
    omega (arith, down-near here, down-inside here)

pub overflow_add-walk : goal.overflow_add-walk
overflow_add-walk c = omega (arith, down-near (c.down.invariant.0 c.requires.items c.requires.down))

pub returns-then-node-lt16 : goal.returns-then-node-lt16
returns-then-node-lt16 c =
    let l = c.down in
    let here = l.invariant.0 c.requires.items c.requires.down in
    record {
      loads = λ is d. down-loads c.number-node.ensures c.if-node-lt16.true (l.invariant.0 is d);
      falls = left_down c.args.from c.args.waiting l.at l.pending l.invariant.1 (down-near here) (down-room here);
    }

pub overflow_mul-pending : goal.overflow_mul-pending
overflow_mul-pending c = omega (arith, down-room (c.down.invariant.0 c.requires.items c.requires.down))

pub overflow_add-pending : goal.overflow_add-pending
overflow_add-pending c =
    let here = c.down.invariant.0 c.requires.items c.requires.down in
    omega (arith, down-room here, num-lt c.args.s.now c.down.at 6)

pub overflow_add-at : goal.overflow_add-at
overflow_add-at c = omega (arith, down-near (c.down.invariant.0 c.requires.items c.requires.down))

pub down-smaller : goal.down-smaller
down-smaller c = omega (arith, down-near (c.down.invariant.0 c.requires.items c.requires.down))

pub down-preserved : goal.down-preserved
down-preserved c = (
  (λ is d. rw c.from.ensures (down-next c.number-node.ensures c.if-node-lt16.false (c.down.invariant.0 is d))),
  omega arith,
)
