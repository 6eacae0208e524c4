-- `faults::check_code` meets its contract. What the pass tells are the tests of the definition in their order. Assumes nothing.
use mathlib.Core.Path.{◌≡◌, sym, ◌∙◌}
use mathlib.Core.Bool.{false}
use Rattle.std.proofs.lemmas.Result.{err_from_is_err_and}
use Rattle.faults.specs.Check.{end_fault}
use Rattle.faults.proofs.PassedLaws.{check-end, check-word, check-landing, check-passed, end-good}
use Rattle.faults.proofs.check_code.Goals as goal
use Rattle.faults.proofs.check_code.Goals.{Else-end_fault}

-- what the call found, in the terms of the definition
ended : (c : Else-end_fault) → end_fault c.args.code.now ≡ false
ended c = sym c.end_fault.ensures ∙ c.if-end_fault.false

pub returns-then-end_fault : goal.returns-then-end_fault
returns-then-end_fault c = sym (check-end c.args.code.now (sym c.end_fault.ensures ∙ c.if-end_fault.true))

pub one_pass-requires : goal.one_pass-requires
one_pass-requires c = (end-good c.args.code.now (ended (goal.at.one_pass-requires c).Else-end_fault)).few

pub returns-in_err-one_pass : goal.returns-in_err-one_pass
returns-in_err-one_pass c =
    let p = err_from_is_err_and c.from_residual.result c.from_residual.ensures.1 in
    let h = c.in_err-one_pass.ensures in
    rw (p.1, p.2, h.1) (sym (check-word c.args.code.now (ended (goal.at.returns-in_err-one_pass c).Else-end_fault) h.2))

pub check_landings-requires-clause-code_few : goal.check_landings-requires-clause-code_few
check_landings-requires-clause-code_few c =
    (end-good c.args.code.now (ended (goal.at.check_landings-requires-clause-code_few c).Else-end_fault)).few

pub returns-then-branch : goal.returns-then-branch
returns-then-branch c =
    c.check_landings.ensures
    ∙ sym (check-landing c.args.code.now (ended (goal.at.returns-then-branch c).Else-end_fault) c.in_ok-one_pass.ensures.0)

pub returns : goal.returns
returns c =
    let pass = c.in_ok-one_pass.ensures in
    sym (check-passed c.args.code.now (ended (goal.at.returns c).Else-end_fault) pass.0 (pass.1 c.if-branch.false))
