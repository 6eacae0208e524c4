-- `reader::output_word` meets its contract. Assumes nothing.
use mathlib.Core.Path.{refl}
use native.Mathlib.Omega.{arith}
use lib.Pow.{pow_mono}
use Rattle.bits.specs.Word.{word_of, bits_of}
use Rattle.bits.proofs.WordLaws.{bits_below}
use Rattle.reader.proofs.Laws.{word_more}
use Rattle.reader.proofs.output_word.Goals as goal

pub loop-i-init : goal.loop-i-init
unfolding word_of bits_of
loop-i-init c = refl

-- what is gathered has as many bits as were passed
pub overflow_mul-word : goal.overflow_mul-word
overflow_mul-word c = omega (arith, bits_below c.loop-i.i c.args.v, pow_mono {i = c.loop-i.i} {j = 16} (omega arith))

pub overflow_add-word : goal.overflow_add-word
overflow_add-word c = omega (arith, bits_below c.loop-i.i c.args.v, pow_mono {i = c.loop-i.i} {j = 16} (omega arith))

pub loop-i-preserved : goal.loop-i-preserved
loop-i-preserved c = rw c.loop-i.invariant (word_more c.args.v c.loop-i.i)

pub overflow_cast-result : goal.overflow_cast-result
overflow_cast-result c = omega (arith, bits_below c.loop-i.i c.args.v, pow_mono {i = c.loop-i.i} {j = 16} (omega arith))
