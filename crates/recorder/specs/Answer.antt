-- What each out-parameter of the C calls is: r is the number returned, the others are what stands behind the pointers
-- at exit.
use Rattle.std.specs.Prelude.{ℕ, ◌≡◌, List}
use Rattle.answer.specs.Checked.{Checked}
use Rattle.answer.specs.Number.{number_of, place_of}
use Rattle.scan.specs.declared.State.{State}
use Rattle.machine.specs.declared.Record.{Record}
use Rattle.translate.specs.Writing.{Written}

-- the paper's number and place, 0 and 0 where accepted
pub record Told (verdict : Checked) (r place : ℕ) : Type 0 where
  pub number : r ≡ number_of verdict
  pub at : place ≡ place_of verdict

-- the code's bytes, 0 where refused, and every byte of the buffer
pub record CodeLeft (w : Written) (length : ℕ) (code : List ℕ) : Type 0 where
  pub length_is : length ≡ w.answer.length
  pub code_is : code ≡ w.buffer

-- the reference's record at exit
pub record StateLeft (q : State) (state outputs clock : ℕ) : Type 0 where
  pub state_is : state ≡ q.state
  pub outputs_is : outputs ≡ q.outputs
  pub clock_is : clock ≡ q.clock

-- the runner's record at exit
pub record RecordLeft (q : Record) (flags outputs clock : ℕ) : Type 0 where
  pub flags_is : flags ≡ q.flags
  pub outputs_is : outputs ≡ q.outputs
  pub clock_is : clock ≡ q.clock
