-- `faults::faulty` meets its contract. Each arm is the fault of its words. Assumes nothing.
use mathlib.Core.Path.{refl, sym}
use mathlib.Core.Logic.{inl, inr}
use Rattle.words.specs.Word.{known, word_no, code_no, operand}
use Rattle.faults.specs.Check.{faulty}
use Rattle.faults.proofs.CheckLaws.{spare, bare, used}
use Rattle.faults.proofs.faulty.Goals as goal

pub returns-in-End : goal.returns-in-End
unfolding known word_no code_no operand faulty
returns-in-End c = rw c.in-End.is (sym (spare _ _ _ 0 c.args.arg c.requires refl))

pub returns-in-Lds : goal.returns-in-Lds
unfolding known word_no code_no operand faulty
returns-in-Lds c = rw c.in-Lds.is (sym (used _ _ _ 1 c.args.arg c.requires refl))

pub returns-in-Not : goal.returns-in-Not
unfolding known word_no code_no operand faulty
returns-in-Not c =
    elim c.in-Not.is [
      | inl e ↦ rw e (sym (bare _ _ _ 3 c.args.arg c.requires refl refl))
      | inr e ↦ rw e (sym (bare _ _ _ 14 c.args.arg c.requires refl refl))
    ]

pub returns-in-And : goal.returns-in-And
unfolding known word_no code_no operand faulty
returns-in-And c =
    elim c.in-And.is [
      | inl e ↦ rw e (sym (spare _ _ _ 4 c.args.arg c.requires refl))
      | inr e ↦ rw e (sym (spare _ _ _ 5 c.args.arg c.requires refl))
    ]

pub returns-in-Close : goal.returns-in-Close
unfolding known word_no code_no operand faulty
returns-in-Close c = rw c.in-Close.is (sym (spare _ _ _ 6 c.args.arg c.requires refl))

pub returns-in-Andt : goal.returns-in-Andt
unfolding known word_no code_no operand faulty
returns-in-Andt c = rw c.in-Andt.is (sym (used _ _ _ 7 c.args.arg c.requires refl))

pub returns-in-R : goal.returns-in-R
unfolding known word_no code_no operand faulty
returns-in-R c =
    elim c.in-R.is [
      | inl e ↦ rw e (sym (used _ _ _ 8 c.args.arg c.requires refl))
      | inr e ↦ rw e (sym (used _ _ _ 9 c.args.arg c.requires refl))
    ]

pub returns-in-Ldi : goal.returns-in-Ldi
unfolding known word_no code_no operand faulty
returns-in-Ldi c =
    elim c.in-Ldi.is [
      | inl e ↦ rw e (sym (used _ _ _ 2 c.args.arg c.requires refl))
      | inr (inl e) ↦ rw e (sym (used _ _ _ 10 c.args.arg c.requires refl))
      | inr (inr e) ↦ rw e (sym (used _ _ _ 11 c.args.arg c.requires refl))
    ]

pub returns-in-Jmpc : goal.returns-in-Jmpc
unfolding known word_no code_no operand faulty
returns-in-Jmpc c =
    elim c.in-Jmpc.is [
      | inl e ↦ rw e (sym (used _ _ _ 12 c.args.arg c.requires refl))
      | inr e ↦ rw e (sym (used _ _ _ 13 c.args.arg c.requires refl))
    ]
