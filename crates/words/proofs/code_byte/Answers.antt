-- `words::code_byte` meets its contract. The first of the four bytes is the word over 2^24. Assumes nothing.
use mathlib.Core.Path.{refl}
use Prim.Native.Nat.{◌+◌, ◌*◌}
use native.Mathlib.Omega.{arith}
use Rattle.words.proofs.WordLaws.{word_at_lem}
use Rattle.words.proofs.code_byte.Goals as goal

pub returns : goal.returns
returns c =
    let s = c.args.code.now in
    let b = c.args.at * 4 in
    let known = c.type_inv.code in
    (omega (arith, word_at_lem s c.args.at (omega arith), known (b + 1), known (b + 2), known (b + 3)), refl)
