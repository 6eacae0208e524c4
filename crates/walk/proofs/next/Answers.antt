-- `walk::next` meets its contract. Assumes nothing.
use Prim.Native.Nat.{◌-◌, ◌/◌}
use native.Mathlib.Omega.{arith}
use Rattle.walk.proofs.WalkLaws.{as-up, done-tells, and-tells, or-tells, turn-tells, close-tells, up-some, left_up}
use Rattle.walk.proofs.next.Goals as goal

pub returns-then-pending-eq1 : goal.returns-then-pending-eq1
returns-then-pending-eq1 c =
    let a = c.args in
    let up = c.if-not-up.false in
    ((λ is h. done-tells a.s.now a.w.at a.w.pending is (as-up a.w up h) c.if-pending-eq1.true), tt)

pub returns-in-0 : goal.returns-in-0
returns-in-0 c =
    let a = c.args in
    let up = c.if-not-up.false in
    let some = up-some a.s.now a.w.at a.w.pending c.requires.items (as-up a.w up c.requires.walks) in (
      (λ is h. close-tells a.s.now a.w.at a.w.pending is (as-up a.w up h) c.in-0.is),
      left_up a.w.at a.w.pending (a.w.pending / 4) (omega arith),
    )

pub returns-in-1 : goal.returns-in-1
returns-in-1 c =
    let a = c.args in
    let up = c.if-not-up.false in
    let some = up-some a.s.now a.w.at a.w.pending c.requires.items (as-up a.w up c.requires.walks) in (
      (λ is h. turn-tells a.s.now a.w.at a.w.pending is (as-up a.w up h) c.if-pending-eq1.false c.in-1.is),
      left_up a.w.at a.w.pending (a.w.pending / 4) (omega arith),
    )

pub returns-in-2 : goal.returns-in-2
returns-in-2 c =
    let a = c.args in
    let up = c.if-not-up.false in (
      (λ is h. and-tells a.s.now a.w.at a.w.pending is (as-up a.w up h) c.in-2.is),
      left_up a.w.at a.w.pending (a.w.pending - 2) (omega arith),
    )

pub returns-in_default : goal.returns-in_default
returns-in_default c =
    let a = c.args in
    let up = c.if-not-up.false in (
      (λ is h. or-tells a.s.now a.w.at a.w.pending is (as-up a.w up h) (omega arith)),
      left_up a.w.at a.w.pending (a.w.pending - 3) (omega arith),
    )
