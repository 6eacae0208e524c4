-- `faults::one_pass` meets its contract. At each turn the search from here finds what the whole search finds, and the targets of the
-- jumps passed by are marked. Assumes nothing.
use mathlib.Core.Path.{◌≡◌, refl, sym, ◌∙◌}
use mathlib.Core.Bool.{true, ◌&&◌, ◌||◌}
use mathlib.Core.List.{List}
use Prim.Native.Nat.{ℕ, ◌+◌, ◌*◌, ◌/◌, ◌%◌}
use native.Mathlib.Omega.{arith}
use borrow.Author.Tests.{lt-ltb, le-ltb}
use lib.Dec.{ltb}
use lib.ListN.{length, get_or}
use Rattle.std.specs.declared.option.Option.{Option}
use Rattle.words.specs.Word.{decode, words}
use Rattle.words.proofs.WordLaws.{words-length}
use Rattle.faults.specs.Check.{opens, faulty, unknown, first_fault}
use Rattle.faults.specs.inside.Marks.{marked, noted, jumps}
use Rattle.faults.proofs.CheckLaws.{jumps-both, jumps-other}
use Rattle.faults.proofs.FaultLaws.{looking-start, looking-on, looking-target, looking-hit, looking-unknown, looking-end, looking-sound, met-now, met-not}
use Rattle.faults.proofs.one_pass.Goals.{After-faulty, Joined-d-gt0, Joined-op, in-Jmpc, in_default-op, then-d-gt0+then-has, else-d-gt0, else-d-gt0-via-then-d-gt0+else-has, else-d-gt0-via-else-d-gt0}
use Rattle.faults.proofs.one_pass.Goals as goal

-- what the test of the word says, in the terms of the definition
tested : (c : After-faulty) →
    let l = c.loop-at in
    let w = get_or (words c.args.code.now) l.at 0 in
    c.faulty.result ≡ (unknown w || faulty (length c.args.code.now / 4) l.at l.d (decode w))
tested c =
    let w = get_or (words c.args.code.now) c.loop-at.at 0 in
    let arg = c.operand-arg.ensures in
    let whole : w / 16777216 * 16777216 + c.operand-arg.result ≡ w = omega (arith, arg.0) in
    rw (← c.in-Ok.ensures.of_word, whole) at c.faulty.ensures

-- whether a landing was met
met : (c : Joined-d-gt0) →
    let l = c.loop-at in
    c.if-d-gt0.landing ≡ (l.landing || (ltb 0 l.d && marked l.targets.bits l.at))
met c =
    let l = c.loop-at in
    elim c.if-d-gt0.branch [
      | then-d-gt0+then-has w ↦ met-now l.landing (rw (lt-ltb 0 l.d w.if-d-gt0.true, ← w.has.ensures) w.if-has.true) w.landing-is
      | else-d-gt0 w ↦
          elim w.else-d-gt0.branch [
            | else-d-gt0-via-then-d-gt0+else-has v ↦ met-not l.landing (rw (lt-ltb 0 l.d v.if-d-gt0.true, ← v.has.ensures) v.if-has.false) w.landing-is
            | else-d-gt0-via-else-d-gt0 v ↦ met-not l.landing (rw (le-ltb 0 l.d v.if-d-gt0.false) refl) w.landing-is
          ]
    ]

-- what the search found is told with the number of words as the definition has it
found : (s : List ℕ) {f : Option ℕ} → first_fault (length s / 4) 0 0 (words s) ≡ f → first_fault (length (words s)) 0 0 (words s) ≡ f
found s h = rw (words-length s) h

pub loop-at-init : goal.loop-at-init
loop-at-init c = rw c.none-targets.ensures (looking-start (words c.args.code.now) _)

pub returns-in_default : goal.returns-in_default
returns-in_default c =
    let l = c.loop-at in
    let s = c.args.code.now in (
      l.at,
      refl,
      found s (looking-unknown (sym (words-length s)) l.targets.full l.invariant (omega arith) c.in_default.ensures.of_word.1),
    )

pub returns-then-faulty : goal.returns-then-faulty
returns-then-faulty c =
    let l = c.loop-at in
    let s = c.args.code.now in (
      l.at,
      refl,
      found s (looking-hit (sym (words-length s)) l.targets.full l.invariant (omega arith)
          (sym (tested (goal.at.returns-then-faulty c).After-faulty) ∙ c.if-faulty.true)),
    )

-- the target of a jump is marked
aims : (c : Joined-op) →
    let w = get_or (words c.args.code.now) c.loop-at.at 0 in
    c.match-op.targets.bits ≡ noted (jumps (w / 16777216)) c.loop-at.targets.bits (w % 16777216)
unfolding noted
aims c =
    elim c.match-op.branch [
      | in-Jmpc v ↦
          rw (v.targets-is, v.mark.ensures, c.operand-arg.ensures.0, c.in-Ok.ensures.of_word, jumps-both c.in-Ok.op v.in-Jmpc.is) refl
      | in_default-op v ↦
          rw (v.targets-is, c.in-Ok.ensures.of_word, jumps-other c.in-Ok.op v.in_default-op.not-Jmpc v.in_default-op.not-Jmp) refl
    ]

pub mark-requires : goal.mark-requires
mark-requires c =
    let l = c.loop-at in
    let s = c.args.code.now in
    let sound = sym (tested (goal.at.mark-requires c).After-faulty) ∙ c.if-faulty.false in
    let jump : jumps (get_or (words s) l.at 0 / 16777216) ≡ true = rw c.in-Ok.ensures.of_word (jumps-both c.in-Ok.op c.in-Jmpc.is) in
    omega (arith, looking-target (sym (words-length s)) l.targets.full l.invariant sound jump, c.operand-arg.ensures.0)

pub loop-at-preserved : goal.loop-at-preserved
unfolding decode
loop-at-preserved c =
    let l = c.loop-at in
    let s = c.args.code.now in
    let w = get_or (words s) l.at 0 in
    let sound = sym (tested (goal.at.loop-at-preserved c).After-faulty) ∙ c.if-faulty.false in
    let deeper : c.opened-d.result ≡ opens (decode w) l.d = c.opened-d.ensures (w % 16777216) ∙ rw c.in-Ok.ensures.of_word refl in
    looking-on (sym (words-length s)) l.targets.full l.invariant (omega arith) (omega arith) sound deeper
    (met (goal.at.loop-at-preserved c).Joined-d-gt0) (aims (goal.at.loop-at-preserved c).Joined-op)

pub returns : goal.returns
returns c =
    let l = c.loop-at in
    let s = c.args.code.now in (
      found s (looking-end (sym (words-length s)) l.targets.full l.invariant (omega arith)),
      λ e. looking-sound (sym (words-length s)) l.targets.full l.invariant (omega arith) e,
    )
