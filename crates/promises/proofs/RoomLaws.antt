-- The block of a transition home. Assumes nothing.
use mathlib.Core.Path.{◌≡◌, refl}
use Rattle.condition.specs.Cond.{word_count}
use Rattle.reader.specs.Sheet.{Transition}
use Rattle.rules.specs.Rules.{HomeForm}
use Rattle.translate.specs.Translation.{block_len}

-- it has 8 words
pub home-words : (t : Transition) → HomeForm t → block_len t ≡ 8
unfolding block_len word_count
home-words t h = rw (h.off, h.wait) refl
