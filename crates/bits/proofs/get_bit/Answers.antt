-- `bits::get_bit` meets its contract. Assumes nothing.
use mathlib.Core.Path.{sym}
use Rattle.bits.proofs.WordLaws.{get-is}
use Rattle.bits.proofs.get_bit.Goals as goal

pub returns : goal.returns
returns c = sym (get-is c.args.w c.args.i)
