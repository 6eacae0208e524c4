-- `scan::can_fire` meets its contract. Assumes nothing.
use mathlib.Core.Path.{sym, ◌∙◌}
use Rattle.scan.proofs.PickLaws.{can-other, can-is}
use Rattle.scan.proofs.can_fire.Goals as goal

pub returns-then-arrow-now : goal.returns-then-arrow-now
returns-then-arrow-now c t h =
    let a = c.args in
    can-other a.sheet.now a.inputs a.arrow t h a.now.state a.word a.now.clock c.if-arrow-now.true

pub returns-then-facts : goal.returns-then-facts
returns-then-facts c t h =
    let a = c.args in
    let e = can-is a.sheet.now a.inputs a.arrow t h a.now.state a.word a.now.clock _ c.in-Ok.facts c.if-arrow-now.false
    (sym c.in-Ok.ensures) in
    rw c.if-facts.true at e

pub returns-else-facts : goal.returns-else-facts
returns-else-facts c t h =
    let a = c.args in
    let e = can-is a.sheet.now a.inputs a.arrow t h a.now.state a.word a.now.clock _ c.in-Ok.facts c.if-arrow-now.false
    (sym c.in-Ok.ensures) in
    c.if-facts.false ∙ (rw c.if-facts.false at e)
