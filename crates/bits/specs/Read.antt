-- Reading: the value read with the next bit, or the refusal met first. One answer type for all that is read from a sheet.
use Rattle.std.specs.Prelude.{ℕ, zero, suc, List, [], ◌∷◌, ◌++◌, Bool, true, false, Some, None}
use Rattle.answer.specs.declared.Refusal.{Refusal}
use Rattle.answer.specs.declared.Refusal.TheVariants as refuse
use Rattle.bits.specs.Field.{Got, field_at}

pub data Ans (A : Type 0) : Type 0 where
  ok : A → ℕ → Ans A
  no : Refusal → Ans A

-- goes on with what was read, at the next bit
abbrev pub bind : {A B : Type 0} → Ans A → (A → ℕ → Ans B) → Ans B
bind (ok a next) f = f a next
bind (no r) f = no r

-- refuses unless the test holds
abbrev pub guard : {A : Type 0} → Bool → Refusal → Ans A → Ans A
guard true r x = x
guard false r x = no r

abbrev pub or_short : ℕ → Got → Ans ℕ
or_short at (Some g) = ok g.0 g.1.at
or_short at None = no (refuse.Short at)

-- a field of w bits; 1 SHORT where it "isn't wholly there", at "its first bit"
abbrev pub read_field : List ℕ → ℕ → ℕ → Ans ℕ
read_field s w at = or_short at (field_at s at w)

-- the first i things that `read` reads, one behind the other
unfoldable pub upto : {A : Type 0} → (ℕ → Ans A) → ℕ → ℕ → Ans (List A)
upto read at zero = ok [] at
upto read at (suc i) =
    bind (upto read at i) λ xs a.
    bind (read a) λ x b.
    ok (xs ++ x ∷ []) b
