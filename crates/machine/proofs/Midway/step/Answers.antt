-- `machine::Midway::step` meets its contract. Each arm is one word of the machine. Assumes nothing.
use native.Mathlib.Omega.{arith}
use Rattle.words.specs.Word.{known}
use Rattle.machine.proofs.StepLaws.{lds-small, ldi-small, r_small, s-small, ra-small, sa-small, and-room, or-room, jmpc-forward, jmp-forward, lds, ldi, turn, and-aside, or-aside, closes, andt, resets, sets, resets-out, sets-out, jmpc, jmp, tres}
use Rattle.machine.proofs.Midway.step.Goals as goal

pub get_bit-self-requires : goal.get_bit-self-requires
get_bit-self-requires c = lds-small c.requires c.in-Lds.is

pub get_bit-self-requires-in-Ldi : goal.get_bit-self-requires-in-Ldi
get_bit-self-requires-in-Ldi c = omega (arith, ldi-small c.requires c.in-Ldi.is)

pub put_aside-requires : goal.put_aside-requires
put_aside-requires c = and-room c.requires c.in-And.is

pub put_aside-requires-in-Or : goal.put_aside-requires-in-Or
put_aside-requires-in-Or c = or-room c.requires c.in-Or.is

pub flag_to-requires : goal.flag_to-requires
flag_to-requires c = r_small c.requires c.in-R.is

pub flag_to-requires-in-S : goal.flag_to-requires-in-S
flag_to-requires-in-S c = s-small c.requires c.in-S.is

pub output_to-requires : goal.output_to-requires
output_to-requires c = ra-small c.requires c.in-Ra.is

pub output_to-requires-in-Sa : goal.output_to-requires-in-Sa
output_to-requires-in-Sa c = sa-small c.requires c.in-Sa.is

pub returns-in-Lds : goal.returns-in-Lds
unfolding known
returns-in-Lds c = λ st e.
    let a = c.args in
    rw (c.in-Lds.is, c.get_bit-self.ensures) (lds a.inputs a.self.now st e a.arg)

pub returns-in-Ldi : goal.returns-in-Ldi
unfolding known
returns-in-Ldi c = λ st e.
    let a = c.args in
    rw (c.in-Ldi.is, c.get_bit-self-in-Ldi.ensures) (ldi a.inputs a.self.now st e a.arg)

pub returns-in-Not : goal.returns-in-Not
unfolding known
returns-in-Not c = λ st e. rw c.in-Not.is (turn c.args.inputs c.args.self.now st e)

pub returns-in-And : goal.returns-in-And
unfolding known
returns-in-And c = λ st e. rw (c.in-And.is, c.put_aside.ensures) (and-aside c.args.inputs c.args.self.now st e)

pub returns-in-Or : goal.returns-in-Or
unfolding known
returns-in-Or c = λ st e. rw (c.in-Or.is, c.put_aside-in-Or.ensures) (or-aside c.args.inputs c.args.self.now st e)

pub returns-in-Close : goal.returns-in-Close
unfolding known
returns-in-Close c = λ st e. rw (c.in-Close.is, c.join.ensures) (closes c.args.inputs c.args.self.now st e)

pub returns-in-Andt : goal.returns-in-Andt
unfolding known
returns-in-Andt c = λ st e. rw c.in-Andt.is (andt c.args.inputs c.args.self.now st e c.args.arg)

pub returns-in-R : goal.returns-in-R
unfolding known
returns-in-R c = λ st e. rw (c.in-R.is, c.flag_to.ensures) (resets c.args.inputs c.args.self.now st e c.args.arg)

pub returns-in-S : goal.returns-in-S
unfolding known
returns-in-S c = λ st e. rw (c.in-S.is, c.flag_to-in-S.ensures) (sets c.args.inputs c.args.self.now st e c.args.arg)

pub returns-in-Ra : goal.returns-in-Ra
unfolding known
returns-in-Ra c = λ st e. rw (c.in-Ra.is, c.output_to.ensures) (resets-out c.args.inputs c.args.self.now st e c.args.arg)

pub returns-in-Sa : goal.returns-in-Sa
unfolding known
returns-in-Sa c = λ st e. rw (c.in-Sa.is, c.output_to-in-Sa.ensures) (sets-out c.args.inputs c.args.self.now st e c.args.arg)

pub returns-then-self : goal.returns-then-self
unfolding known
returns-then-self c = λ st e.
    let m = c.args.self.now in
    rw c.in-Jmpc.is
    (jmpc c.args.inputs m st e c.args.arg c.args.arg (rw c.if-self.true (omega (arith, jmpc-forward c.requires c.in-Jmpc.is))))

pub returns-else-self : goal.returns-else-self
unfolding known
returns-else-self c = λ st e.
    let m = c.args.self.now in
    rw c.in-Jmpc.is (jmpc c.args.inputs m st e c.args.arg _ (rw c.if-self.false (omega arith)))

pub returns-in-Jmp : goal.returns-in-Jmp
unfolding known
returns-in-Jmp c = λ st e.
    rw c.in-Jmp.is (jmp c.args.inputs c.args.self.now st e c.args.arg (jmp-forward c.requires c.in-Jmp.is))

pub returns-in-Tres : goal.returns-in-Tres
unfolding known
returns-in-Tres c = λ st e. rw c.in-Tres.is (tres c.args.inputs c.args.self.now st e)
