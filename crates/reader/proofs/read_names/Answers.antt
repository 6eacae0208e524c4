-- `reader::read_names` meets its contract. Assumes nothing.
use borrow.Author.Tests.{lt-ltb, le-ltb}
use mathlib.Core.Path.{sym}
use native.Mathlib.Omega.{arith}
use Rattle.bits.proofs.FieldLaws.{field-got}
use Rattle.reader.specs.inside.Decoding.{names_at}
use Rattle.reader.proofs.read_names.Goals as goal

pub returns-in_default : goal.returns-in_default
unfolding names_at
returns-in_default c = rw (sym c.in_default.ensures)

pub returns-then-n-source : goal.returns-then-n-source
unfolding names_at
returns-then-n-source c = rw (sym c.in-Some.ensures, le-ltb _ _ c.if-n-source.true)

pub field-requires-2 : goal.field-requires-2
field-requires-2 c = omega (arith, (field-got _ _ _ _ _ (sym c.in-Some.ensures)).after)

pub returns-in_default-field : goal.returns-in_default-field
unfolding names_at
returns-in_default-field c =
    rw (sym c.in-Some.ensures, lt-ltb _ _ c.if-n-source.false, sym c.in_default-field.ensures)

pub returns-then-n-destination : goal.returns-then-n-destination
unfolding names_at
returns-then-n-destination c =
    rw (
      sym c.in-Some.ensures,
      lt-ltb _ _ c.if-n-source.false,
      sym c.in-Some-field.ensures,
      le-ltb c.in-Some-field.destination c.args.n (omega arith),
    )

pub overflow_cast-result : goal.overflow_cast-result
overflow_cast-result c = omega (arith, (field-got _ _ _ _ _ (sym c.in-Some.ensures)).below)

pub overflow_cast-result-2 : goal.overflow_cast-result-2
overflow_cast-result-2 c = omega (arith, (field-got _ _ _ _ _ (sym c.in-Some-field.ensures)).below)

pub returns : goal.returns
unfolding names_at
returns c =
    rw (
      sym c.in-Some.ensures,
      lt-ltb _ _ c.if-n-source.false,
      sym c.in-Some-field.ensures,
      lt-ltb c.in-Some-field.destination c.args.n (omega arith),
    )
