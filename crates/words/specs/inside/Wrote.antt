-- Words written into a buffer: not needed to read the promises.
use Rattle.std.specs.Prelude.{◌≡◌, List, ℕ, ◌+◌, ◌*◌, length}
use Rattle.std.proofs.lemmas.List.Edits.{sets}
use Rattle.words.specs.Word.{Word, to_bytes}

-- the words stand from byte `at` on where `old` was, and no other byte is changed; `end` is the byte after them
pub record Wrote (old : List ℕ) (at : ℕ) (is : List Word) (new : List ℕ) (end : ℕ) : Type 0 where
  pub bytes : new ≡ sets old at (to_bytes is)
  pub after : end ≡ at + 4 * length is
