-- The steps of a reading that ended well, each with a name for what was read. Assumes nothing.
use mathlib.Core.Path.{◌≡◌}
use mathlib.Core.List.{List}
use mathlib.Core.Bool.{Bool, true}
use Prim.Native.Nat.{ℕ, ◌+◌}
use Rattle.answer.specs.declared.Refusal.{Refusal}
use Rattle.bits.specs.Read.{Ans, ok, bind, guard, read_field}
use Rattle.bits.proofs.FieldLaws.{Here}
use Rattle.bits.proofs.ReadLaws.{bind_ok, guard_ok, field-read}

module _ {A : Type 0} {a : A} {next : ℕ} {C : Type 0} where
  pub field-then : (s : List ℕ) (w at : ℕ) (f : ℕ → ℕ → Ans A) → bind (read_field s w at) f ≡ ok a next
      → ((v : ℕ) → Here s at w v (at + w) → f v (at + w) ≡ ok a next → C) → C
  field-then s w at f h then =
      let x = bind_ok (read_field s w at) f h in
      let here = field-read s w at x.2 in
      then x.0 (rw here.after at here) (rw here.after at x.3)

  pub bind-then : {B : Type 0} (x : Ans B) (f : B → ℕ → Ans A) → bind x f ≡ ok a next → ((b : B) (m : ℕ) → x ≡ ok b m → f b m ≡ ok a next → C) → C
  bind-then x f h then = let y = bind_ok x f h in then y.0 y.1 y.2 y.3

  pub guard-then : (t : Bool) (r : Refusal) (x : Ans A) → guard t r x ≡ ok a next → (t ≡ true → x ≡ ok a next → C) → C
  guard-then t r x h then = let y = guard_ok t r x h in then y.0 y.1
