-- `words::put_word` meets its contract. Assumes nothing.
use mathlib.Core.Path.{◌≡◌, refl, sym, ap, ◌∙◌}
use mathlib.Core.List.{[], ◌∷◌}
use Prim.Native.Nat.{◌/◌, ◌%◌}
use native.Mathlib.Omega.{arith}
use native.Mathlib.Numerals.{add-one, add-two, add-three}
use lib.Seq.{sets}
use Rattle.words.proofs.WroteLaws.{word_bytes, operand-bytes}
use Rattle.words.proofs.put_word.Goals as goal

pub returns : goal.returns
returns c w e =
    let x = c.args.operand in
    let bytes = c.to_be_bytes.ensures ∙ operand-bytes x (omega arith) in
    record {
      bytes =
          simp (add-one, add-two, add-three, bytes)
          (ap (sets c.args.code.now c.args.at) (sym (word_bytes w c.args.op x (omega arith) e)));
      after = refl;
    }
