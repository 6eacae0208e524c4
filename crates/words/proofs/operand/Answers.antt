-- `words::operand` meets its contract. The last three of the four bytes are the word below 2^24. Assumes nothing.
use Prim.Native.Nat.{◌+◌, ◌*◌}
use native.Mathlib.Omega.{arith}
use Rattle.words.proofs.WordLaws.{word_at_lem}
use Rattle.words.proofs.operand.Goals as goal

pub returns : goal.returns
returns c =
    let s = c.args.code.now in
    let b = c.args.at * 4 in
    let known = c.type_inv.code in
    let k1 = known (b + 1) in
    let k2 = known (b + 2) in
    let k3 = known (b + 3) in
    (omega (arith, word_at_lem s c.args.at (omega arith)), omega arith)
