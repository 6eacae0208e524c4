-- `sheet::first_clash` meets its contract. Assumes nothing.
use mathlib.Core.Path.{ap, ◌∙◌}
use native.Mathlib.Omega.{arith}
use lib.ListN.{length-set}
use Rattle.sheet.specs.inside.Arrows.{key_of}
use Rattle.sheet.proofs.ClashLaws.{keys-more, by-keys}
use Rattle.sheet.proofs.first_clash.Goals as goal

pub loop-i-preserved : goal.loop-i-preserved
loop-i-preserved c =
    let a = c.args in
    let l = c.loop-i in
    rw (c.key.ensures ∙ ap (key_of a.clash) c.unpacked.ensures)
    (length-set l.keys l.i _ ∙ l.invariant.0, keys-more a.clash a.arrows.now l.keys l.i (omega arith) l.invariant.1)

pub returns : goal.returns
returns c =
    let l = c.loop-i in
    c.first_alike.ensures ∙ by-keys c.args.clash c.args.arrows.now l.keys (omega arith) (λ i h. l.invariant.1 i (omega arith))
