-- `chz_check_code` meets its contract: the check's verdict is told, and its place fits. Assumes nothing.
use Rattle.faults.proofs.PlaceLaws.{place-fits}
use Rattle.recorder.proofs.chz_check_code.Goals as goal

pub answered-requires : goal.answered-requires
answered-requires c = rw c.check_code.ensures (place-fits c.args.code.now)
