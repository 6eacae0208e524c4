-- `reader::read_rows` meets its contract. Assumes nothing.
use mathlib.Core.Path.{refl, sym}
use mathlib.Core.List.{[], ◌∷◌, ◌++◌}
use native.Mathlib.Omega.{arith}
use lib.ListN.{length}
use Rattle.std.proofs.lemmas.Result.{err_from_is_err_and}
use Rattle.bits.specs.Word.{word_of}
use Rattle.bits.specs.Read.{upto}
use Rattle.bits.proofs.ToldLaws.{told-got, told-bad}
use Rattle.bits.proofs.ReadLaws.{upto-more, upto-bad, upto-length}
use Rattle.reader.specs.Reading.{row_at}
use Rattle.reader.proofs.FillLaws.{filled_more}
use Rattle.reader.proofs.Laws.{row_next}
use Rattle.reader.proofs.read_rows.Invariants.{IsWord}
use Rattle.reader.proofs.read_rows.Goals as goal

pub loop-row-init : goal.loop-row-init
unfolding upto
loop-row-init c = (omega arith, [], refl, λ j h. absurd (omega arith))

pub loop-row-preserved : goal.loop-row-preserved
loop-row-preserved c =
    let a = c.args in
    let l = c.loop-row in
    let read = row_at a.s.now a.width in
    let x = told-got word_of (read l.here.at) _ _ (sym c.in_ok-word.ensures) in
    let many = upto-length read a.c.at l.row-index l.invariant.2 in (
      omega (arith, row_next a.s.now a.width l.here.at x.1),
      l.invariant.1 ++ x.0 ∷ [],
      upto-more read a.c.at l.row-index l.invariant.2 x.1,
      filled_more IsWord 0 [] l.rows l.invariant.1 l.row-index c.in_ok-word.word x.0 (omega arith) many l.invariant.3
          x.2,
    )

pub returns-in_err-word : goal.returns-in_err-word
returns-in_err-word c =
    let a = c.args in
    let l = c.loop-row in
    let read = row_at a.s.now a.width in
    let p = err_from_is_err_and c.from_residual.result c.from_residual.ensures.1 in
    let x = told-bad word_of (read l.here.at) _ (sym c.in_err-word.ensures) in
    rw (upto-bad read a.c.at l.row-index (length a.rows.now) (omega arith) l.invariant.2 x, p.1, p.2) refl
