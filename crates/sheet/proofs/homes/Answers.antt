-- `sheet::homes` meets its contract. Assumes nothing.
use mathlib.Core.Path.{ap}
use native.Mathlib.Omega.{arith}
use lib.ListN.{get_or}
use Rattle.reader.specs.declared.Arrow.{Arrow}
use Rattle.sheet.proofs.HomeLaws.{source_fits, homes-start, homes_set, homes-keep}
use Rattle.sheet.proofs.homes.Goals as goal
use Rattle.sheet.proofs.homes.Goals.{then-t-eq0, else-t-eq0}

pub loop-w-init : goal.loop-w-init
loop-w-init c = homes-start c.args.arrows.now

pub set_bit-word-requires : goal.set_bit-word-requires
set_bit-word-requires c =
    let e = ap (λ (t : Arrow). t.source) c.unpacked-t.ensures in
    omega (arith, e, c.from.ensures, source_fits (get_or c.args.arrows.now c.loop-w.w-index 0))

pub loop-w-preserved : goal.loop-w-preserved
loop-w-preserved c =
    let arrows = c.args.arrows.now in
    let i = c.loop-w.w-index in
    let t = c.unpacked-t.ensures in
    let before = c.loop-w.invariant in
    elim c.if-t-eq0.branch [
      | then-t-eq0 w ↦ rw (w.word-is, w.set_bit-word.ensures, w.from.ensures, t) (homes_set arrows i _ before (rw t at w.if-t-eq0.true))
      | else-t-eq0 w ↦ rw w.word-is (homes-keep arrows i _ before (rw t at w.if-t-eq0.false))
    ]
