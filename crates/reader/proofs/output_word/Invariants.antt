-- `reader::output_word` meets its contract. The invariant: the word is that of the bits taken.
use Rattle.std.proofs.Common.{◌≡◌}
use Rattle.bits.specs.Word.{word_of, bits_of}
use Rattle.reader.proofs.output_word.Given as goal

abbrev pub invariant-loop-i : goal.invariant-loop-i
invariant-loop-i l = l.word ≡ word_of (bits_of l.i l.v)
