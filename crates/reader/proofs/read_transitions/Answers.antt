-- `reader::read_transitions` meets its contract. Assumes nothing.
use mathlib.Core.Path.{refl}
use mathlib.Core.List.{[], ◌∷◌, ◌++◌}
use native.Mathlib.Omega.{arith}
use lib.ListN.{length}
use Rattle.std.proofs.lemmas.Result.{err_from_is_err_and}
use Rattle.bits.specs.Read.{upto}
use Rattle.bits.proofs.ReadLaws.{upto-more, upto-bad, upto-length}
use Rattle.reader.specs.Sheet.{no_transition}
use Rattle.reader.specs.Reading.{transition_at}
use Rattle.reader.specs.inside.Decoding.{Holds}
use Rattle.reader.specs.inside.Packing.{unpack}
use Rattle.reader.proofs.FillLaws.{filled_more}
use Rattle.reader.proofs.Laws.{arrow-got, arrow-bad, transition-next}
use Rattle.reader.proofs.read_transitions.Goals as goal

pub loop-arrow-init : goal.loop-arrow-init
unfolding upto
loop-arrow-init c = (omega arith, [], refl, λ j h. absurd (omega arith))

pub loop-arrow-preserved : goal.loop-arrow-preserved
loop-arrow-preserved c =
    let a = c.args in
    let l = c.loop-arrow in
    let read = transition_at a.s.now a.header.states a.header.inputs in
    let word = c.read_transition.new.arrow in
    let x = arrow-got a.s.now a.header.inputs (read l.here.at) word _ _ c.in_ok-next.ensures in
    let many = upto-length read a.c.at l.arrow-index l.invariant.2 in (
      omega (arith, transition-next a.s.now a.header.states a.header.inputs l.here.at x.1),
      l.invariant.1 ++ x.0 ∷ [],
      upto-more read a.c.at l.arrow-index l.invariant.2 x.1,
      filled_more (λ w t. Holds a.s.now a.header.inputs (unpack w) t) 0 no_transition l.arrows l.invariant.1 l.arrow-index word x.0
          (omega arith) many l.invariant.3 x.2,
    )

pub returns-in_err-next : goal.returns-in_err-next
returns-in_err-next c =
    let a = c.args in
    let l = c.loop-arrow in
    let read = transition_at a.s.now a.header.states a.header.inputs in
    let p = err_from_is_err_and c.from_residual.result c.from_residual.ensures.1 in
    let x = arrow-bad a.s.now a.header.inputs (read l.here.at) _ _ c.in_err-next.ensures in
    rw (upto-bad read a.c.at l.arrow-index (length a.arrows.now) (omega arith) l.invariant.2 x, p.1, p.2) refl
