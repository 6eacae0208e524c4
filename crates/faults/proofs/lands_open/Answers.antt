-- `faults::lands_open` meets its contract. The mark of the target word is the depth just before it. Assumes nothing.
use mathlib.Core.Path.{◌≡◌, refl, ◌∙◌}
use mathlib.Core.Bool.{true}
use mathlib.Core.List.{map}
use Prim.Native.Nat.{◌+◌, ◌/◌, ◌%◌, ◌<◌}
use native.Mathlib.Omega.{arith}
use lib.ListN.{length, get_or}
use Rattle.words.specs.Op.{op_no}
use Rattle.words.specs.Word.{decode, words}
use Rattle.words.proofs.WordLaws.{words-length, known-end}
use Rattle.faults.specs.Check.{lands_open}
use Rattle.faults.specs.inside.Marks.{jumps}
use Rattle.faults.proofs.CheckLaws.{sound-from, jump-code, lands-code, jumps-both, jumps-other}
use Rattle.faults.proofs.lands_open.Goals as goal
use Rattle.faults.proofs.lands_open.Goals.{After-operand}

-- a jump
jump : (c : After-operand) → jumps (get_or (words c.args.code.now) c.args.at 0 / 16777216) ≡ true
jump c = rw c.in-Ok.ensures.of_word (jumps-both c.in-Ok.op c.in-Jmpc.is)

-- its target is a word of the code
target : (c : After-operand) → c.operand.result < length (words c.args.code.now)
unfolding decode
target c =
    let a = c.args in
    let ws = words a.code.now in
    let w = get_or ws a.at 0 in
    let f = (sound-from (length ws) 0 0 ws c.requires.all_marked.sound a.at (omega arith)).1 in
    let j = jump-code (length ws) (0 + a.at) _ (w / 16777216) (w % 16777216) (jump c) f in
    omega (arith, j.1, c.operand.ensures.0)

pub op_at-requires : goal.op_at-requires
op_at-requires c = omega (arith, words-length c.args.code.now)

pub operand-requires : goal.operand-requires
operand-requires c = omega (arith, words-length c.args.code.now)

pub has-requires : goal.has-requires
has-requires c =
    omega (arith, target (goal.at.has-requires c).After-operand, words-length c.args.code.now, c.requires.all_marked.few)

pub returns-in-Jmpc : goal.returns-in-Jmpc
unfolding decode
returns-in-Jmpc c =
    let a = c.args in
    let ws = words a.code.now in
    let j = jump (goal.at.returns-in-Jmpc c).After-operand in
    c.has.ensures
    ∙ c.requires.all_marked.marks c.operand.result (target (goal.at.returns-in-Jmpc c).After-operand)
    ∙ rw (lands-code (map decode ws) (get_or ws a.at 0 / 16777216) (get_or ws a.at 0 % 16777216), j, ← c.operand.ensures.0) refl

pub returns-in_default : goal.returns-in_default
unfolding decode lands_open
returns-in_default c =
    let w = get_or (words c.args.code.now) c.args.at 0 in
    rw (known-end (w / 16777216) (w % 16777216) c.in_default.ensures.of_word.1) refl

pub returns-in_default-op : goal.returns-in_default-op
unfolding decode
returns-in_default-op c =
    let ws = words c.args.code.now in
    let w = get_or ws c.args.at 0 in
    let other = jumps-other c.in-Ok.op c.in_default-op.not-Jmpc c.in_default-op.not-Jmp in
    rw (c.in-Ok.ensures.of_word, lands-code (map decode ws) (op_no c.in-Ok.op) (w % 16777216), other) refl
