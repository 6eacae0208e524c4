-- `sheet::first_no_home` meets its contract. Assumes nothing.
use mathlib.Core.Path.{sym, ◌∙◌}
use native.Mathlib.Omega.{arith}
use Rattle.sheet.specs.inside.Arrows.{lacks_bit}
use Rattle.sheet.proofs.SearchLaws.{first-none, first-at}
use Rattle.sheet.proofs.HomeLaws.{by_word, bit-lacks, bit-has}
use Rattle.sheet.proofs.first_no_home.Goals as goal

pub returns-then-not-get_bit : goal.returns-then-not-get_bit
returns-then-not-get_bit c =
    let word = c.homes-word.result in
    let s = c.loop-s.s in
    sym
    (first-at (lacks_bit word) s _ (omega arith) (bit-lacks word s (omega arith) (sym c.get_bit.ensures ∙ c.if-not-get_bit.true))
    (λ k l. bit-has word k (λ low. c.loop-s.invariant k low l)))
    ∙ by_word _ word _ c.homes-word.ensures (omega arith)

pub returns : goal.returns
returns c =
    let word = c.homes-word.result in
    sym (first-none (lacks_bit word) _ (λ k l. bit-has word k (λ low. c.loop-s.invariant k low (omega arith))))
    ∙ by_word _ word _ c.homes-word.ensures (omega arith)
