-- The proof of the cycle of `condition::read_condition` and `condition::read_operands`: the bits left fall. Assumes nothing.
use borrow.Author.Tests.{lt-leb, le-leb}
use mathlib.Core.Path.{◌≡◌, sym, ap, ◌∙◌}
use native.Mathlib.Omega.{arith}
use Rattle.bits.proofs.FieldLaws.{field-got}
use Rattle.condition.specs.Reading.{cond_at}
use Rattle.condition.specs.declared.Facts.{Facts}
use Rattle.condition.specs.inside.Facts.{tag_of}
use Rattle.condition.proofs.Laws.{cond_short, cond-deep, cond-node, tag-known, same_not, same_and, facts-told, ops-bad, ops-one, ops-two-bad, ops-two}
use Rattle.condition.proofs.+read_condition_read_operands.Goals as goal
use Rattle.condition.proofs.+read_condition_read_operands.Goals.{read_condition-in-1, read_condition-in-2, read_condition-in_default-tag}
use Rattle.std.specs.Prelude.{Ok}
use Rattle.std.proofs.lemmas.Result.{err_from_is_err_and}

pub read_condition-returns-in_default : goal.read_condition-returns-in_default
read_condition-returns-in_default t c =
    let a = c.args in
    rw (cond_short a.room a.s.now a.inputs a.seen a.c.at (sym c.in_default.ensures))

pub read_condition-returns-then-room-eq0 : goal.read_condition-returns-then-room-eq0
read_condition-returns-then-room-eq0 t c =
    let a = c.args in
    rw (cond-deep a.room a.s.now a.inputs a.seen a.c.at _ _ (sym c.in-Some.ensures) c.if-room-eq0.true)

pub read_condition-returns-then-seen-ge31 : goal.read_condition-returns-then-seen-ge31
read_condition-returns-then-seen-ge31 t c =
    let a = c.args in
    let node = cond-node a.room a.s.now a.inputs a.seen a.c.at _ _ (sym c.in-Some.ensures) c.if-room-eq0.false in
    rw (node, le-leb _ _ c.if-seen-ge31.true)

pub read_condition-read_input-requires : goal.read_condition-read_input-requires
read_condition-read_input-requires t c =
    let a = c.args in
    omega (arith, (field-got a.s.now a.c.at 2 _ _ (sym c.in-Some.ensures)).after)

pub read_condition-read_operands-requires : goal.read_condition-read_operands-requires
read_condition-read_operands-requires t c =
    let a = c.args in
    let h = field-got a.s.now a.c.at 2 _ _ (sym c.in-Some.ensures) in
    omega arith

pub read_condition-returns-in-0 : goal.read_condition-returns-in-0
read_condition-returns-in-0 t c =
    let a = c.args in
    let node = cond-node a.room a.s.now a.inputs a.seen a.c.at _ _ (sym c.in-Some.ensures) c.if-room-eq0.false in
    rw (node, lt-leb _ _ c.if-seen-ge31.false, c.in-0.is) c.read_input.ensures

pub read_condition-returns : goal.read_condition-returns
read_condition-returns t c =
    let a = c.args in
    let h = field-got a.s.now a.c.at 2 _ _ (sym c.in-Some.ensures) in
    let is : c.in-Some.tag ≡ tag_of c.match-tag.operator =
    elim c.match-tag.branch [
      | read_condition-in-1 w ↦ rw w.operator-is w.in-1.is
      | read_condition-in-2 w ↦ rw w.operator-is w.in-2.is
      | read_condition-in_default-tag w ↦ rw w.operator-is (omega arith)
    ] in
    let node = cond-node a.room a.s.now a.inputs a.seen a.c.at _ _ (sym c.in-Some.ensures) c.if-room-eq0.false in
    rw (node, lt-leb _ _ c.if-seen-ge31.false, is, tag-known c.match-tag.operator) c.read_operands.ensures

pub read_operands-returns-in_err-f : goal.read_operands-returns-in_err-f
read_operands-returns-in_err-f t c =
    let a = c.args in
    let p = err_from_is_err_and c.from_residual.result c.from_residual.ensures.1 in
    rw (p.1, p.2) (sym (ops-bad a.word (cond_at a.room a.s.now a.inputs) a.seen a.c.at (tag_of a.operator) _ (sym c.in_err-f.ensures)))

pub read_operands-negated-requires : goal.read_operands-negated-requires
read_operands-negated-requires t c =
    let a = c.args in
    omega (arith, (facts-told a.word a.room a.s.now a.inputs a.seen a.c.at _ _ (sym c.in_ok-f.ensures)).words)

pub read_operands-returns-then-eq : goal.read_operands-returns-then-eq
read_operands-returns-then-eq t c =
    let a = c.args in
    let one = sym (same_not a.operator) ∙ sym c.eq.ensures ∙ c.if-eq.true in
    ap (λ (f : Facts). Ok (f, c.in_ok-f.next)) c.negated.ensures
    ∙ sym (ops-one a.word (cond_at a.room a.s.now a.inputs) a.seen a.c.at (tag_of a.operator) _ _ (sym c.in_ok-f.ensures) one)

pub read_operands-read_condition-requires-2 : goal.read_operands-read_condition-requires-2
read_operands-read_condition-requires-2 t c =
    let a = c.args in
    let n = facts-told a.word a.room a.s.now a.inputs a.seen a.c.at _ _ (sym c.in_ok-f.ensures) in
    omega arith

pub read_operands-returns-in_err-g : goal.read_operands-returns-in_err-g
read_operands-returns-in_err-g t c =
    let a = c.args in
    let p = err_from_is_err_and c.from_residual-in_err-g.result c.from_residual-in_err-g.ensures.1 in
    let two = sym (same_not a.operator) ∙ sym c.eq.ensures ∙ c.if-eq.false in
    rw (p.1, p.2)
    (sym (ops-two-bad a.word (cond_at a.room a.s.now a.inputs) a.seen a.c.at (tag_of a.operator) _ _ (sym c.in_ok-f.ensures) two _ (sym c.in_err-g.ensures)))

pub read_operands-joined-requires : goal.read_operands-joined-requires
read_operands-joined-requires t c =
    let a = c.args in
    let f = c.in_ok-f in
    omega (
      arith,
      (facts-told a.word a.room a.s.now a.inputs a.seen a.c.at _ _ (sym f.ensures)).words,
      (facts-told a.word a.room a.s.now a.inputs f.f.nodes f.next.at _ _ (sym c.in_ok-g.ensures)).words,
    )

pub read_operands-returns : goal.read_operands-returns
read_operands-returns t c =
    let a = c.args in
    let two = sym (same_not a.operator) ∙ sym c.eq.ensures ∙ c.if-eq.false in
    let and = c.eq-2.ensures ∙ same_and a.operator in
    rw (c.joined.ensures, and)
    (sym (ops-two a.word (cond_at a.room a.s.now a.inputs) a.seen a.c.at (tag_of a.operator) _ _ (sym c.in_ok-f.ensures) two _ _ (sym c.in_ok-g.ensures)))
