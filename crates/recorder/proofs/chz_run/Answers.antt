-- `chz_run` meets its contract: the run's verdict is told and its record stored. Assumes nothing.
use Rattle.machine.specs.Run.{record_with}
use Rattle.machine.proofs.PlaceLaws.{run-place-fits}
use Rattle.recorder.proofs.chz_run.Goals as goal

pub answered-requires : goal.answered-requires
answered-requires c =
    let t = c.args in
    rw (c.run-ran.ensures, c.record_with-given.ensures)
    (run-place-fits t.code.now (record_with t.flags.now t.outputs.now t.clock.now) t.inputs t.elapsed)
