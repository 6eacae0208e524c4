-- The promises about bytes, closed with what crate rules proves of an accepted sheet. Assumes nothing.
use mathlib.Core.Path.{◌≡◌, refl, sym, ap, ◌∙◌}
use mathlib.Core.Bool.{Bool, true, false}
use mathlib.Core.List.{List}
use Prim.Native.Nat.{ℕ, ◌*◌, ◌-◌, ◌≤◌, min}
use native.Mathlib.Omega.{arith}
use borrow.Author.Tests.{leb-true, leb-false, le-leb, lt-leb}
use lib.Dec.{leb}
use lib.ListN.{length, replicate, length-replicate}
use Rattle.bits.proofs.ReadLaws.{ok-is}
use Rattle.reader.specs.Sheet.{transition_of}
use Rattle.rules.proofs.Acceptance.{accepted-rules}
use Rattle.rules.proofs.Counting.{homes-few, pairs-few, weighed}
use Rattle.scan.specs.Scan.{scan_of, scan_sheet, Scanned}
use Rattle.machine.specs.Run.{run_code}
use Rattle.translate.specs.Translation.{translate}
use Rattle.translate.specs.Writing.{Written, code_of, translate_into, Cold}
use Rattle.same.specs.Same.{embed}
use Rattle.promises.specs.Moves.{MovesAsPublished, OneMove}
use Rattle.same.specs.Histories.{ref_after, run_after}
use Rattle.promises.specs.Demand3.{code_in, Demand3}
use Rattle.promises.specs.Order.{BlocksInOrder}
use Rattle.promises.specs.Length.{words_of, LengthRule}
use Rattle.promises.specs.Ignored.{InputsIgnored}
use Rattle.promises.specs.Hold.{HoldChangesNone}
use Rattle.promises.specs.Worthless.{NoInventedRoom, OneRunner}
use Rattle.translate.specs.declared.Translated.{Translated}
use Rattle.answer.specs.Number.{number_of, place_of}
use Rattle.same.proofs.AcceptedLaws.{scan-is, cold-scan-is, cold-run-is}
use Rattle.same.proofs.OrderProof.{block-order}
use Rattle.same.proofs.CheckProof.{check-code}
use Rattle.moves.proofs.MovesProof.{moves-scan, moves-only}
use Rattle.same.proofs.FollowsProof.{run_is, follows}
use Rattle.promises.proofs.Demand3Proof.{with-room, code-in}
use Rattle.promises.proofs.LengthProof.{bytes-are, fitted, at_most}
use Rattle.promises.proofs.IgnoredProof.{scan-ignores, run-ignores}
use Rattle.refusals.proofs.RefusalsProof.{refusals}

-- DEMAND 3
pub demand3 : Demand3 translate_into run_code
demand3 s acc =
    let r = accepted-rules s acc in (
      r.0,
      r.1,
      r.2,
      ap (λ (v : Scanned). v.verdict) (cold-scan-is s r.0 r.1 r.2 acc),
      ap (λ (v : Cold). v.verdict) (cold-run-is s r.0 r.1 r.2 acc),
      λ buffer h.
          let code : code_in (translate_into s buffer) ≡ code_of r.0 = code-in r.0 r.3 s r.1 r.2 acc buffer h in (
            ap (λ (w : Written). w.answer.verdict) (with-room r.0 r.3 s r.1 r.2 acc buffer h),
            rw code (check-code r.0 r.3),
            λ ticks. rw code (follows r.0 r.3 s r.1 r.2 acc ticks),
          ),
    )

pub moves_as_published : MovesAsPublished
moves_as_published s acc =
    let r = accepted-rules s acc in (
      r.0,
      r.1,
      r.2,
      λ q lt word elapsed.
          let is : (scan_sheet s q word elapsed).«record» ≡ scan_of r.0 q word elapsed =
          ap (λ (v : Scanned). v.«record») (scan-is s r.0 r.1 r.2 acc q lt word elapsed) in (
            ap (λ (v : Scanned). v.verdict) (scan-is s r.0 r.1 r.2 acc q lt word elapsed),
            rw is (moves-scan r.0 r.3 q word elapsed),
            λ p m. moves-only r.0 r.3 q word elapsed p m ∙ sym is,
          ),
    )

pub one_move : OneMove
one_move s acc =
    let r = accepted-rules s acc in (
      r.0,
      r.1,
      r.2,
      λ q good word elapsed. (scan_of r.0 q word elapsed, run_is r.0 r.3 q good word elapsed, moves-scan r.0 r.3 q word elapsed),
    )

pub inputs_ignored : InputsIgnored
inputs_ignored s acc =
    let r = accepted-rules s acc in (
      r.0,
      r.1,
      r.2,
      λ word other agree elapsed. (
        scan-ignores r.0 r.3 word other agree elapsed s r.1 r.2 acc,
        run-ignores r.0 r.3 word other agree elapsed,
      ),
    )

-- a wait that is no larger than the hold
held_same : (wait time : ℕ) → wait ≤ 16777215 → leb wait (min time 16777215) ≡ leb wait time
held_same wait time few = go (leb wait time) refl
  where
    go : (b : Bool) → leb wait time ≡ b → leb wait (min time 16777215) ≡ b
    go true e = le-leb wait (min time 16777215) (omega (arith, leb-true wait time e))
    go false e = lt-leb wait (min time 16777215) (omega (arith, leb-false wait time e))

pub hold_changes_none : HoldChangesNone
hold_changes_none s acc =
    let r = accepted-rules s acc in (
      r.0,
      r.1,
      r.2,
      λ i l.
          let few : (transition_of r.0 i).wait ≤ 16777215 = omega (arith, (r.3.fields i l).wait) in
          (few, λ time. held_same (transition_of r.0 i).wait time few),
    )

pub blocks_in_order : BlocksInOrder
unfolding translate
blocks_in_order s acc =
    let r = accepted-rules s acc in
    (r.0, r.1, r.2, block-order r.0 r.3, refl)

pub length_rule : LengthRule
length_rule s acc =
    let r = accepted-rules s acc in (
      r.0,
      r.1,
      r.2,
      bytes-are r.0 r.3,
      at_most r.0 r.3 (homes-few r.0 r.3) (pairs-few r.0 r.3) (weighed r.0 r.3),
      fitted r.0 r.3 s r.1 r.2 acc,
    )

pub no_invented_room : NoInventedRoom
no_invented_room f is s buffer place e other =
    let told : (f s buffer).answer.verdict ≡ (translate_into s buffer).answer.verdict = ap (λ (t : Translated). t.verdict) (is s buffer).answer in
    let h = (refusals.room s buffer place).0 (ap number_of (sym told) ∙ e.0, ap place_of (sym told) ∙ e.1) in
    let r = accepted-rules s h.3 in
    let same : h.0 ≡ r.0 = ok-is (sym h.2 ∙ r.2) in
    other (r.0, r.1, r.2, h.5 ∙ ap (λ a. length (code_of a)) same ∙ bytes-are r.0 r.3)

pub one_runner : OneRunner
one_runner f d s acc =
    let r = accepted-rules s acc in
    let h = d s acc in
    let same : h.0 ≡ r.0 = ok-is (sym h.2 ∙ r.2) in
    let room : List ℕ = replicate (4 * words_of r.0) 0 in
    let long : 4 * words_of r.0 ≤ length room = omega (arith, length-replicate {A = ℕ} (4 * words_of r.0) 0) in
    let code : code_in (translate_into s room) ≡ code_of r.0 = code-in r.0 r.3 s r.1 r.2 acc room long in (
      r.0,
      r.1,
      r.2,
      λ ticks.
          let it : run_after f s (code_in (translate_into s room)) ticks ≡ embed (ref_after s ticks) =
          ((h.5 room (omega (arith, ap words_of same))).2 ticks).same in
          rw code at it ∙ sym (follows r.0 r.3 s r.1 r.2 acc ticks).same,
    )
