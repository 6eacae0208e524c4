-- `chz_translate` meets its contract: the translation's verdict is told, and its length and its bytes are what was
-- written. Assumes nothing.
use native.Mathlib.Omega.{arith}
use Rattle.translate.proofs.PlaceLaws.{place-fits, length-fits}
use Rattle.recorder.proofs.chz_translate.Goals as goal

pub overflow_cast-length : goal.overflow_cast-length
overflow_cast-length c =
    rw c.translate-translated.ensures.answer (omega (arith, length-fits c.args.sheet.now c.args.code.now))

pub answered-requires : goal.answered-requires
answered-requires c = rw c.translate-translated.ensures.answer (place-fits c.args.sheet.now c.args.code.now)
