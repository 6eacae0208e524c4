-- `reader::read_header` meets its contract. Assumes nothing.
use borrow.Author.Tests.{eq-eqb, ne_eqb}
use mathlib.Core.Path.{sym}
use native.Mathlib.Omega.{arith}
use Rattle.bits.proofs.FieldLaws.{field-got}
use Rattle.reader.specs.Reading.{read_header}
use Rattle.reader.proofs.read_header.Goals as goal

pub returns-in_default : goal.returns-in_default
unfolding read_header
returns-in_default c = rw (sym c.in_default.ensures)

pub returns-then-n-eq0 : goal.returns-then-n-eq0
unfolding read_header
returns-then-n-eq0 c = rw (sym c.in-Some.ensures, eq-eqb _ _ c.if-n-eq0.true)

pub field-requires-2 : goal.field-requires-2
field-requires-2 c = omega (arith, (field-got _ _ _ _ _ (sym c.in-Some.ensures)).after)

pub returns-in_default-field : goal.returns-in_default-field
unfolding read_header
returns-in_default-field c =
    rw (sym c.in-Some.ensures, ne_eqb _ _ c.if-n-eq0.false, sym c.in_default-field.ensures)

pub field-requires-3 : goal.field-requires-3
field-requires-3 c =
    omega (
      arith,
      (field-got _ _ _ _ _ (sym c.in-Some.ensures)).after,
      (field-got _ _ _ _ _ (sym c.in-Some-field.ensures)).after,
    )

pub returns-in_default-field-2 : goal.returns-in_default-field-2
unfolding read_header
returns-in_default-field-2 c =
    rw (
      sym c.in-Some.ensures,
      ne_eqb _ _ c.if-n-eq0.false,
      sym c.in-Some-field.ensures,
      sym c.in_default-field-2.ensures,
    )

pub field-requires-4 : goal.field-requires-4
field-requires-4 c =
    omega (
      arith,
      (field-got _ _ _ _ _ (sym c.in-Some.ensures)).after,
      (field-got _ _ _ _ _ (sym c.in-Some-field.ensures)).after,
      (field-got _ _ _ _ _ (sym c.in-Some-field-2.ensures)).after,
    )

pub returns-in_default-field-3 : goal.returns-in_default-field-3
unfolding read_header
returns-in_default-field-3 c =
    rw (
      sym c.in-Some.ensures,
      ne_eqb _ _ c.if-n-eq0.false,
      sym c.in-Some-field.ensures,
      sym c.in-Some-field-2.ensures,
      sym c.in_default-field-3.ensures,
    )

pub overflow_add-header : goal.overflow_add-header
overflow_add-header c = omega (arith, (field-got _ _ _ _ _ (sym c.in-Some.ensures)).below)

pub overflow_add-header-2 : goal.overflow_add-header-2
overflow_add-header-2 c = omega (arith, (field-got _ _ _ _ _ (sym c.in-Some-field.ensures)).below)

pub overflow_add-header-3 : goal.overflow_add-header-3
overflow_add-header-3 c = omega (arith, (field-got _ _ _ _ _ (sym c.in-Some-field-2.ensures)).below)

pub overflow_add-header-4 : goal.overflow_add-header-4
overflow_add-header-4 c = omega (arith, (field-got _ _ _ _ _ (sym c.in-Some-field-3.ensures)).below)

pub returns : goal.returns
unfolding read_header
returns c =
    rw (
      sym c.in-Some.ensures,
      ne_eqb _ _ c.if-n-eq0.false,
      sym c.in-Some-field.ensures,
      sym c.in-Some-field-2.ensures,
      sym c.in-Some-field-3.ensures,
    )
