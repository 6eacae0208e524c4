-- What calls answer: that they accept, or why they refuse; and the record that some hand on.
use Rattle.std.specs.Prelude.{Ok, Err}
use Rattle.std.specs.declared.result.Result.{Result}
use Rattle.answer.specs.declared.Refusal.{Refusal}
use Rattle.answer.specs.declared.Answered.{Answered}

abbrev pub Checked : Type 0
Checked = Result (Unit {0}) Refusal

-- "hands back unaltered any record it was given": the record that a call comes to, or the given one with the refusal
abbrev pub answered_of : {R : Type 0} → Result R Refusal → R → Answered R
answered_of (Ok next) given = record { verdict = Ok tt; «record» = next }
answered_of (Err why) given = record { verdict = Err why; «record» = given }
