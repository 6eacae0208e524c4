-- `machine::Midway::output_to` meets its contract. Assumes nothing.
use native.Mathlib.Omega.{arith}
use Rattle.bits.proofs.WordLaws.{put-lt}
use Rattle.machine.proofs.Midway.output_to.Goals as goal

pub overflow_cast-self : goal.overflow_cast-self
overflow_cast-self c =
    let a = c.args in
    omega (arith, c.put_bit.ensures, put-lt 16 a.self.now.record.outputs a.i a.on (omega arith) (omega arith))
