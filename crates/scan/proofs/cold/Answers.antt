-- `scan::cold` meets its contract. Assumes nothing.
use mathlib.Core.Path.{refl, sym, ap, ◌∙◌}
use Rattle.std.proofs.lemmas.Result.{err_from_is_err_and}
use Rattle.scan.specs.Scan.{accepted}
use Rattle.scan.proofs.ScanLaws.{cold-refused, cold_is}
use Rattle.scan.proofs.cold.Goals as goal

pub returns-in_err-open_sheet : goal.returns-in_err-open_sheet
returns-in_err-open_sheet c =
    let p = err_from_is_err_and c.from_residual.result c.from_residual.ensures.1 in
    rw (p.1, p.2) (sym (cold-refused c.args.sheet.now _ (sym c.in_err-open_sheet.ensures.verdict)))

pub returns : goal.returns
returns c =
    ap accepted c.state_with.ensures ∙ sym (cold_is c.args.sheet.now c.open_sheet.new.decoded (c.in_ok-open_sheet.ensures.good refl))
