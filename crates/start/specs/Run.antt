-- Where a run begins, and what its scans keep.
use Rattle.std.specs.Prelude.{◌≡◌, ◌^◌, ◌<◌}
use Rattle.machine.specs.declared.Record.{Record}
use Rattle.machine.specs.Run.{run_code, Ran}
use Rattle.scan.specs.declared.State.{State}
use Rattle.start.specs.declared.Run.{Run}
use Rattle.trace.specs.declared.Entry.{Entry}

-- The runner's record is the reference's: its one flag is the state's, outputs and clock are the same.
pub record Agrees (code : Record) (reference : State) : Type 0 where
  pub known : reference.state < 32
  pub flag : code.flags ≡ 2 ^ reference.state
  pub outputs : code.outputs ≡ reference.outputs
  pub clock : code.clock ≡ reference.clock

-- What the code answers to an entry of the trace.
abbrev pub ran_of : Run → Entry → Ran
ran_of run entry = run_code run.code.now run.record entry.inputs entry.elapsed
