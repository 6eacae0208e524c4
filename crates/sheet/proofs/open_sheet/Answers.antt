-- `sheet::open_sheet` meets its contract. Assumes nothing.
use mathlib.Core.Path.{refl, sym, ◌∙◌}
use native.Mathlib.Omega.{arith}
use Rattle.std.proofs.lemmas.Result.{err_from_is_err_and}
use Rattle.answer.proofs.CheckedLaws.{accepted-refused}
use Rattle.reader.proofs.Laws.{answers-done, answers-bad, read-sizes}
use Rattle.sheet.proofs.WithLaws.{check-read, check-unread}
use Rattle.sheet.proofs.open_sheet.Goals as goal

pub judge_decoded-requires : goal.judge_decoded-requires
judge_decoded-requires c =
    let x = answers-done c.args.sheet.now _ _ _ c.in_ok-read_sheet.ensures in
    let few = read-sizes c.args.sheet.now x.0 _ x.1 in
    omega (arith, few, x.2.states, x.2.transitions)

pub returns-in_err-read_sheet : goal.returns-in_err-read_sheet
returns-in_err-read_sheet c =
    let s = c.args.sheet.now in
    let e = answers-bad s _ _ _ c.in_err-read_sheet.ensures in
    let p = err_from_is_err_and c.from_residual.result c.from_residual.ensures.1 in
    rw (p.1, p.2) (record { verdict = sym (check-unread s _ e); good = λ z. accepted-refused z refl })

pub returns : goal.returns
returns c =
    let s = c.args.sheet.now in
    let x = answers-done s _ _ _ c.in_ok-read_sheet.ensures in
    let j = c.judge_decoded.ensures s x.0 x.2 in
    record {
      verdict = j ∙ sym (check-read s x.0 _ x.1);
      good = λ z. record { sheet = x.0; end = _; read = x.1; judged = sym j ∙ z; copy = x.2 };
    }
