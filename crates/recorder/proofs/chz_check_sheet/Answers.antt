-- `chz_check_sheet` meets its contract: the check's verdict is told, and its place fits. Assumes nothing.
use Rattle.sheet.proofs.PlaceLaws.{place-fits}
use Rattle.recorder.proofs.chz_check_sheet.Goals as goal

pub answered-requires : goal.answered-requires
answered-requires c = rw c.check_sheet.ensures (place-fits c.args.sheet.now)
