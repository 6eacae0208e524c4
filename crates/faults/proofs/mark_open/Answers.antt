-- `faults::mark_open` meets its contract. The depth is counted down the text. Assumes nothing.
use mathlib.Core.Path.{◌≡◌, refl, ◌∙◌}
use Prim.Native.Nat.{◌/◌, ◌%◌}
use native.Mathlib.Omega.{arith}
use borrow.Author.Tests.{lt-ltb, le-ltb}
use lib.Dec.{ltb}
use lib.ListN.{get_or}
use Rattle.words.specs.Word.{decode, words}
use Rattle.words.proofs.WordLaws.{words-length, known-end}
use Rattle.faults.specs.Check.{opens}
use Rattle.faults.specs.inside.Marks.{noted}
use Rattle.faults.proofs.MarkLaws.{marked-start, marked-on}
use Rattle.faults.proofs.FaultLaws.{inside, deep-start, deep-on}
use Rattle.faults.proofs.mark_open.Goals as goal
use Rattle.faults.proofs.mark_open.Goals.{then-d-gt0, else-d-gt0, in-Ok, in_default, Joined-d-gt0, Joined-op_at}

-- the word here is marked if a parenthesis is open before it
marks : (c : Joined-d-gt0) → c.if-d-gt0.marks.bits ≡ noted (ltb 0 c.loop-at.d) c.loop-at.marks.bits c.loop-at.at
unfolding noted
marks c =
    elim c.if-d-gt0.branch [
      | then-d-gt0 w ↦ rw (w.marks-is, w.mark.ensures, lt-ltb 0 c.loop-at.d w.if-d-gt0.true) refl
      | else-d-gt0 w ↦ rw (w.marks-is, le-ltb 0 c.loop-at.d w.if-d-gt0.false) refl
    ]

-- the depth after it; a code byte that nothing has changes none
deeper : (c : Joined-op_at) → c.match-op_at.d ≡ opens (decode (get_or (words c.args.code.now) c.loop-at.at 0)) c.loop-at.d
unfolding decode opens
deeper c =
    let w = get_or (words c.args.code.now) c.loop-at.at 0 in
    elim c.match-op_at.branch [
      | in-Ok v ↦ v.d-is ∙ v.opened-d.ensures (w % 16777216) ∙ rw v.in-Ok.ensures.of_word refl
      | in_default v ↦ rw (known-end (w / 16777216) (w % 16777216) v.in_default.ensures.of_word.1) v.d-is
    ]

pub loop-at-init : goal.loop-at-init
loop-at-init c =
    let ws = words c.args.code.now in
    (deep-start ws, rw c.requires.none (marked-start (inside ws)))

pub loop-at-preserved : goal.loop-at-preserved
loop-at-preserved c =
    let l = c.loop-at in
    let ws = words c.args.code.now in
    let size = words-length c.args.code.now in
    let m = marks (goal.at.loop-at-preserved c).Joined-d-gt0 in (
      deep-on ws l.at l.d (omega arith) l.invariant.0 (deeper (goal.at.loop-at-preserved c).Joined-op_at),
      rw (m, l.invariant.0.deep) (marked-on (inside ws) l.marks.bits l.at l.marks.full (omega arith) l.invariant.1),
    )

pub returns : goal.returns
returns c = λ k h. c.loop-at.invariant.1.below k (omega (arith, words-length c.args.code.now))
