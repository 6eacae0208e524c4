-- What the code answers of what is read: not needed to read the promises.
use Rattle.std.specs.Prelude.{Ok, Err}
use Rattle.std.specs.declared.result.Result.{Result}
use Rattle.answer.specs.declared.Refusal.{Refusal}
use Rattle.bits.specs.Read.{Ans, ok, no}
use Rattle.bits.specs.declared.Cursor.{Cursor}

-- what was read, as the code holds it, with the cursor after it; or the refusal
abbrev pub told : {A B : Type 0} → (A → B) → Ans A → Result (B × Cursor) Refusal
told held (ok a next) = Ok (held a, record { at = next })
told held (no why) = Err why
