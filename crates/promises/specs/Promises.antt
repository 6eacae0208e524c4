-- THE PROMISES, on one page: a field for each, in the order of the three demands. `promises : Promises` (proofs/Promises) is the theorem.
use Rattle.format.specs.Format.{Format}
use Rattle.rules.specs.Acceptance.{Acceptance}
use Rattle.machine.specs.Run.{run_code}
use Rattle.translate.specs.Writing.{translate_into}
use Rattle.recorder.specs.Single.{SingleAtC}
use Rattle.refusals.specs.Refusals.{Refusals}
use Rattle.refusals.specs.Left.{Left}
use Rattle.promises.specs.Single.{SingleOutcome}
use Rattle.promises.specs.Moves.{MovesAsPublished, OneMove}
use Rattle.promises.specs.Ignored.{InputsIgnored}
use Rattle.promises.specs.Order.{BlocksInOrder}
use Rattle.promises.specs.Length.{LengthRule}
use Rattle.promises.specs.Hold.{HoldChangesNone}
use Rattle.promises.specs.Table.{Table}
use Rattle.promises.specs.Passes.{TranslationPasses, OneScan}
use Rattle.promises.specs.Demand3.{Demand3}
use Rattle.promises.specs.Earlier.{Earlier}
use Rattle.promises.specs.Worthless.{Worthless, NoInventedRoom, OneRunner}

pub record Promises : Type 0 where
  -- DEMAND 1. "Every byte string as sheet or as code, every input word, every elapsed time gets a defined answer, and each call ends. A refusal gives
  -- its number and place, hands back unaltered any record it was given, and writes nothing in a buffer." (That each call ends, and touches no memory
  -- out of range, is part of the proof of each function.)
  -- the contract of each public call admits a single outcome, and so does that of each C call
  pub single_outcome : SingleOutcome
  pub single_at_c : SingleAtC
  -- what each number means at its place, and that it is given exactly there
  pub refusals : Refusals
  -- what a refusal leaves, and what an accepted translation writes
  pub left : Left
  -- DEMAND 2. "A sheet is accepted exactly when it meets document 01's rules; one scan moves as the published execution rules say, one transition at
  -- most; the code is exactly what the translation rules give; code passes exactly when document 01 finds no fault, and then runs as its machine does."
  -- bytes and sheets are each the other's, and a sheet is accepted exactly when it keeps the rules
  pub format : Format
  pub acceptance : Acceptance
  -- one scan of the sheet is the published move, and one scan of its code makes it
  pub moves_as_published : MovesAsPublished
  pub one_move : OneMove
  -- "inputs k and above are ignored"
  pub inputs_ignored : InputsIgnored
  -- "holding it there changes no comparison"
  pub hold_changes_none : HoldChangesNone
  -- "a block for each transition, by source and then by priority"
  pub blocks_in_order : BlocksInOrder
  -- the code's length, and what ROOM answers; no place is invented
  pub length_rule : LengthRule
  pub no_invented_room : NoInventedRoom
  -- P1 to P14, and the cases beside them
  pub table : Table
  -- DEMAND 3. "Any accepted sheet, its code, a cold start, any sequence of inputs and times: after every scan exactly one flag, the state that the rules
  -- reach, its outputs, the clock = time since the last change (held at 16,777,215 ms); activation off ends in the initial state."
  -- the translation passes the check of code, and one scan of it is one scan of the sheet, with the words executed
  pub translation_passes : TranslationPasses
  pub one_scan : OneScan
  -- the demand itself
  pub demand3 : Demand3 translate_into run_code
  -- whatever runner meets it does as ours does; and no worthless program meets its contract or the demand
  pub one_runner : OneRunner
  pub worthless : Worthless
  -- the firm's three earlier versions do not meet it, nor does any mistake of the list "Easy to get wrong"
  pub earlier : Earlier
