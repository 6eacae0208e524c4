-- `machine::execute` meets its contract. At each turn the rest of the scan from here ends as the whole scan does; each word goes on to
-- a later one. Assumes nothing.
use mathlib.Core.Path.{◌≡◌, refl, sym, ap, ◌∙◌}
use mathlib.Core.Bool.{false}
use mathlib.Core.List.{List, [], map}
use Prim.Native.Nat.{ℕ, ◌*◌, ◌<◌}
use native.Mathlib.Omega.{arith}
use lib.ListN.{length, get_or}
use Rattle.words.specs.Op.{op_no}
use Rattle.words.specs.Word.{known, decode, words}
use Rattle.machine.specs.Machine.{Out, exec}
use Rattle.machine.specs.Run.{mach_of, record_of}
use Rattle.machine.specs.declared.Record.{Record}
use Rattle.words.proofs.OpLaws.{op-end, decodes_ok, decodes_to}
use Rattle.faults.proofs.KnownLaws.{named-code}
use Rattle.faults.proofs.PassedLaws.{accepted}
use Rattle.machine.proofs.RunLaws.{Going, going_start, going_end, going_on}
use Rattle.machine.proofs.execute.Goals as goal
use Rattle.machine.proofs.execute.Goals.{After-step}

-- the whole scan
abbrev whole : List ℕ → ℕ → Record → Out
whole code inputs given = exec inputs 0 (map decode (words code)) 0 (mach_of given) false [] 0

-- a turn goes on to a later word
went : (c : After-step) →
    let a = c.args in
    (c.loop-arg.m.at < c.step.new.self.at) × Going a.code.now a.inputs (whole a.code.now a.inputs a.given) c.step.new.self
unfolding decode
went c =
    let a = c.args in
    let l = c.loop-arg in
    let first : get_or a.code.now (l.m.at * 4) 0 ≡ op_no c.unwrap-op.result = decodes_to _ c.op_at.ensures.of_byte c.unwrap-op.ensures in
    going_on a.code.now a.inputs (whole a.code.now a.inputs a.given) l.m l.invariant
    (accepted a.code.now c.requires)
    (λ z. c.in_default.not-End (op-end c.unwrap-op.result (sym first ∙ z)))
    (known (op_no c.unwrap-op.result) c.operand-arg.result)
    (rw (decodes_to _ c.op_at.ensures.of_word c.unwrap-op.ensures, c.operand-arg.ensures.0) refl)
    c.step.new.self
    (c.step.ensures l.invariant.stack l.invariant.held)

pub loop-arg-init : goal.loop-arg-init
loop-arg-init c =
    let a = c.args in
    let p = accepted a.code.now c.requires in
    going_start a.code.now a.inputs (mach_of a.given) (omega (arith, p.ended.some, p.ended.whole))

pub op_at-requires : goal.op_at-requires
op_at-requires c =
    let p = accepted c.args.code.now c.requires in
    omega (arith, c.loop-arg.invariant.inside, p.ended.whole)

pub unwrap-op-requires : goal.unwrap-op-requires
unwrap-op-requires c =
    let l = c.loop-arg in
    let p = accepted c.args.code.now c.requires in
    decodes_ok _ c.op_at.result c.op_at.ensures.of_word
    (named-code (get_or (words c.args.code.now) l.m.at 0) (p.known l.m.at l.invariant.inside))

pub returns-in-End : goal.returns-in-End
unfolding decode known
returns-in-End c =
    let a = c.args in
    let l = c.loop-arg in
    let op = decodes_to _ c.op_at.ensures.of_word c.unwrap-op.ensures in
    ap record_of (going_end a.code.now a.inputs (whole a.code.now a.inputs a.given) l.m l.invariant (rw (op, c.in-End.is) refl))

pub operand-arg-requires : goal.operand-arg-requires
operand-arg-requires c =
    let p = accepted c.args.code.now c.requires in
    omega (arith, c.loop-arg.invariant.inside, p.ended.whole)

pub step-requires : goal.step-requires
unfolding decode
step-requires c =
    let l = c.loop-arg in
    let ws = words c.args.code.now in
    let p = accepted c.args.code.now c.requires in
    let op = decodes_to _ c.op_at.ensures.of_word c.unwrap-op.ensures in
    record {
      n = length ws;
      stack = l.invariant.stack;
      held = l.invariant.held;
      near = omega (arith, l.invariant.inside, p.ended.whole, p.ended.few);
      small = c.operand-arg.ensures.1;
      live = c.in_default.not-End;
      sound = rw (← op, c.operand-arg.ensures.0, l.invariant.deep) (p.sound l.m.at l.invariant.inside);
    }

pub loop-arg-preserved : goal.loop-arg-preserved
loop-arg-preserved c = (went (goal.at.loop-arg-preserved c).After-step).1
