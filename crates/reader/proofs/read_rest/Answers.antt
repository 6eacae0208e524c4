-- `reader::read_rest` meets its contract. Assumes nothing.
use mathlib.Core.Path.{refl, sym}
use native.Mathlib.Omega.{arith}
use Rattle.bits.proofs.FieldLaws.{field-got}
use Rattle.reader.proofs.RestLaws.{rest-none, rest-short, rest-bad, cond-start, arrow-fits, rest-arrow}
use Rattle.reader.proofs.read_rest.Goals as goal

pub returns-in_default : goal.returns-in_default
returns-in_default c =
    let a = c.args in
    rw (rest-none a.s.now a.k a.source a.destination a.c.at (sym c.in_default.ensures)) refl

pub field-requires-2 : goal.field-requires-2
field-requires-2 c = omega (arith, (field-got _ _ _ _ _ (sym c.in-Some.ensures)).after)

pub returns-in_default-field : goal.returns-in_default-field
returns-in_default-field c =
    let a = c.args in
    let e1 = sym c.in-Some.ensures in
    rw (rest-short a.s.now a.k a.source a.destination a.c.at _ _ e1 (sym c.in_default-field.ensures)) refl

pub read_condition-read-requires : goal.read_condition-read-requires
read_condition-read-requires c =
    let a = c.args in
    let e1 = sym c.in-Some.ensures in
    let e2 = sym c.in-Some-field.ensures in
    let start = cond-start a.s.now a.k a.source a.destination a.c.at _ _ e1 _ _ e2 in
    omega arith

pub returns-in_default-read : goal.returns-in_default-read
returns-in_default-read c =
    let a = c.args in
    let e1 = sym c.in-Some.ensures in
    let e2 = sym c.in-Some-field.ensures in
    let e = sym c.in_default-read.ensures in
    rw (rest-bad a.s.now a.k a.source a.destination a.c.at _ _ e1 _ _ e2 _ e) c.in_default-read.is

pub overflow_cast-priority : goal.overflow_cast-priority
overflow_cast-priority c = omega (arith, (field-got _ _ _ _ _ (sym c.in-Some.ensures)).below)

pub packed-requires : goal.packed-requires
packed-requires c =
    let a = c.args in
    let e1 = sym c.in-Some.ensures in
    let e2 = sym c.in-Some-field.ensures in
    let e = sym c.in-Ok.ensures in
    arrow-fits a.s.now a.k a.source a.destination a.c.at _ _ e1 _ _ e2 _ _ e (omega arith) (omega arith) (omega arith)

pub returns : goal.returns
returns c =
    let a = c.args in
    let e1 = sym c.in-Some.ensures in
    let e2 = sym c.in-Some-field.ensures in
    let e = sym c.in-Ok.ensures in
    rw c.in-Ok.is
    (rest-arrow a.s.now a.k a.source a.destination a.c.at _ _ e1 _ _ e2 _ _ e (omega arith) (omega arith) (omega arith)
    c.packed.result c.packed.ensures)
