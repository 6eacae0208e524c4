-- Each contract has one outcome, as its crate proves. Assumes nothing.
use Rattle.sheet.proofs.SingleProof.{check-sheet-once}
use Rattle.scan.proofs.SingleProof.{scan-once, cold-scan-once}
use Rattle.faults.proofs.SingleProof.{check-code-once}
use Rattle.machine.proofs.SingleProof.{run-once}
use Rattle.translate.proofs.SingleProof.{translate-once, cold-run-once}
use Rattle.promises.specs.Single.{SingleOutcome}

pub single_outcome : SingleOutcome
single_outcome = record {
  for_check_sheet = check-sheet-once;
  for_check_code = check-code-once;
  translate = translate-once;
  for_cold_scan = cold-scan-once;
  for_cold_run = cold-run-once;
  scan = scan-once;
  run = run-once;
}
