-- `chz_cold_run` meets its contract: the cold start's verdict is told and its record stored. Assumes nothing.
use Rattle.translate.proofs.PlaceLaws.{cold-place-fits}
use Rattle.recorder.proofs.chz_cold_run.Goals as goal

pub answered-requires : goal.answered-requires
answered-requires c = rw c.cold_run-cold.ensures (cold-place-fits c.args.sheet.now)
