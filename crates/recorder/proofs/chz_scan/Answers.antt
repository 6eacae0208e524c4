-- `chz_scan` meets its contract: the scan's verdict is told and its record stored. Assumes nothing.
use native.Mathlib.Omega.{arith}
use Rattle.scan.specs.Scan.{state_with}
use Rattle.scan.proofs.PlaceLaws.{place-fits}
use Rattle.recorder.proofs.chz_scan.Goals as goal

pub answered-requires : goal.answered-requires
answered-requires c =
    let t = c.args in
    rw (c.scan-scanned.ensures, c.state_with-given.ensures)
    (place-fits t.sheet.now (state_with t.state.now t.outputs.now t.clock.now) t.inputs t.elapsed (omega arith))
