-- The C boundary's contracts admit a single outcome. Assumes nothing.
use mathlib.Core.Path.{refl}
use Rattle.answer.specs.Number.{number_of, place_of}
use Rattle.answer.specs.Checked.{Checked}
use Rattle.scan.specs.declared.State.{State}
use Rattle.scan.specs.Scan.{scan_sheet, cold_scan}
use Rattle.machine.specs.declared.Record.{Record}
use Rattle.machine.specs.Run.{run_code}
use Rattle.translate.specs.Writing.{Written, translate_into, cold_run}
use Rattle.recorder.specs.Answer.{Told, CodeLeft, StateLeft, RecordLeft}
use Rattle.recorder.specs.Single.{SingleAtC}

-- each part is met, and in one way
told : (v : Checked) → Told v (number_of v) (place_of v)
told v = record { number = refl; at = refl }

state : (q : State) → StateLeft q q.state q.outputs q.clock
state q = record { state_is = refl; outputs_is = refl; clock_is = refl }

flags : (r : Record) → RecordLeft r r.flags r.outputs r.clock
flags r = record { flags_is = refl; outputs_is = refl; clock_is = refl }

code : (w : Written) → CodeLeft w w.answer.length w.buffer
code w = record { length_is = refl; code_is = refl }

pub single_at_c : SingleAtC
single_at_c = record {
  for_check_sheet = λ s. (_, _, record { told = told _ }, λ m q h. (h.told.number, h.told.at));
  for_check_code = λ s. (_, _, record { told = told _ }, λ m q h. (h.told.number, h.told.at));
  translate = λ s buffer. (
    _,
    _,
    _,
    _,
    record { told = told _; left = code (translate_into s buffer) },
    λ n p l x h. (h.told.number, h.told.at, h.left.length_is, h.left.code_is),
  );
  for_cold_scan = λ s. (
    _,
    _,
    _,
    _,
    _,
    record { told = told _; left = state (cold_scan s).«record» },
    λ n p q o c h. (h.told.number, h.told.at, h.left.state_is, h.left.outputs_is, h.left.clock_is),
  );
  for_cold_run = λ s. (
    _,
    _,
    _,
    _,
    _,
    record { told = told _; left = flags (cold_run s).«record» },
    λ n p f o c h. (h.told.number, h.told.at, h.left.flags_is, h.left.outputs_is, h.left.clock_is),
  );
  scan = λ s q x e. (
    _,
    _,
    _,
    _,
    _,
    record { told = told _; left = state (scan_sheet s q x e).«record» },
    λ n p t o c h. (h.told.number, h.told.at, h.left.state_is, h.left.outputs_is, h.left.clock_is),
  );
  run = λ s r x e. (
    _,
    _,
    _,
    _,
    _,
    record { told = told _; left = flags (run_code s r x e).«record» },
    λ n p f o c h. (h.told.number, h.told.at, h.left.flags_is, h.left.outputs_is, h.left.clock_is),
  );
}
