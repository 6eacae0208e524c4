-- `scan::scanned` meets its contract. Assumes nothing.
use mathlib.Core.Path.{refl, sym, ap, ◌∙◌}
use Prim.Native.Nat.{◌<◌}
use native.Mathlib.Omega.{arith}
use Rattle.std.proofs.lemmas.Result.{err_from_is_err_and}
use Rattle.scan.specs.Scan.{accepted}
use Rattle.scan.proofs.ScanLaws.{scan-refused, scan-no-state, formed, inside, scan-stays, scan-moves}
use Rattle.scan.proofs.scanned.Goals as goal

pub returns-in_err-open_sheet : goal.returns-in_err-open_sheet
returns-in_err-open_sheet c =
    let a = c.args in
    let p = err_from_is_err_and c.from_residual.result c.from_residual.ensures.1 in
    rw (p.1, p.2) (sym (scan-refused a.sheet.now _ a.«record» a.inputs a.elapsed (sym c.in_err-open_sheet.ensures.verdict)))

pub returns-then-decoded-from : goal.returns-then-decoded-from
returns-then-decoded-from c =
    let a = c.args in
    let g = c.in_ok-open_sheet.ensures.good refl in
    sym (scan-no-state a.sheet.now _ g a.«record» a.inputs a.elapsed (omega (arith, g.copy.states)))

pub bounds-decoded-best : goal.bounds-decoded-best
bounds-decoded-best c =
    let a = c.args in
    let g = c.in_ok-open_sheet.ensures.good refl in
    let picked = c.in-Some.ensures g.sheet g.copy in
    omega (arith, inside a.sheet.now _ g a.«record».state _ _ c.in-Some.best picked, (formed a.sheet.now _ g).states.1)

pub returns-in-None : goal.returns-in-None
returns-in-None c =
    let a = c.args in
    let g = c.in_ok-open_sheet.ensures.good refl in
    let low : a.«record».state < g.sheet.states = omega (arith, g.copy.states) in
    sym
    (scan-stays a.sheet.now _ g a.«record» a.inputs a.elapsed _ _ low c.bring_forward.ensures c.from-2.ensures
    (c.in-None.ensures g.sheet g.copy))

pub returns-in-Some : goal.returns-in-Some
returns-in-Some c =
    let a = c.args in
    let g = c.in_ok-open_sheet.ensures.good refl in
    let low : a.«record».state < g.sheet.states = omega (arith, g.copy.states) in
    ap accepted c.state_with.ensures
    ∙ sym
    (scan-moves a.sheet.now _ g a.«record» a.inputs a.elapsed _ _ low c.bring_forward.ensures c.from-2.ensures c.in-Some.best
    (c.in-Some.ensures g.sheet g.copy))
