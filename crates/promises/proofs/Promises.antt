-- THE THEOREM: every promise, put together. Assumes nothing.
use Rattle.format.proofs.Format.{format}
use Rattle.rules.proofs.Acceptance.{acceptance, accepted-rules}
use Rattle.recorder.proofs.SingleProof.{single_at_c}
use Rattle.same.proofs.CheckProof.{check-code}
use Rattle.same.proofs.SameProof.{scan-same}
use Rattle.refusals.proofs.RefusalsProof.{refusals}
use Rattle.refusals.proofs.LeftProof.{left}
use Rattle.promises.specs.Passes.{TranslationPasses, OneScan}
use Rattle.promises.specs.Promises.{Promises}
use Rattle.promises.proofs.SingleProof.{single_outcome}
use Rattle.promises.proofs.TableProof.{table}
use Rattle.promises.proofs.WorthlessProof.{worthless}
use Rattle.promises.proofs.EarlierProof.{earlier}
use Rattle.promises.proofs.Closing.{
  demand3,
  moves_as_published,
  one_move,
  inputs_ignored,
  hold_changes_none,
  blocks_in_order,
  length_rule,
  no_invented_room,
  one_runner,
}

pub translation_passes : TranslationPasses
translation_passes s acc = let r = accepted-rules s acc in (r.0, r.1, r.2, check-code r.0 r.3)

pub one_scan : OneScan
one_scan s acc = let r = accepted-rules s acc in (r.0, r.1, r.2, scan-same r.0 r.3)

pub promises : Promises
promises = record {
  single_outcome = single_outcome;
  single_at_c = single_at_c;
  refusals = refusals;
  left = left;
  format = format;
  acceptance = acceptance;
  moves_as_published = moves_as_published;
  one_move = one_move;
  inputs_ignored = inputs_ignored;
  hold_changes_none = hold_changes_none;
  blocks_in_order = blocks_in_order;
  length_rule = length_rule;
  no_invented_room = no_invented_room;
  table = table;
  translation_passes = translation_passes;
  one_scan = one_scan;
  demand3 = demand3;
  one_runner = one_runner;
  worthless = worthless;
  earlier = earlier;
}
