-- A fact of every transition of a list, and of some transition of it.
use mathlib.Core.Logic.{◌⊎◌, inl, inr}
use mathlib.Core.List.{List, [], ◌∷◌}
use Prim.Native.Nat.{ℕ, zero, suc, ◌<◌}
use native.Mathlib.Omega.{arith}
use lib.ListN.{length, get_or}
use Rattle.reader.specs.Sheet.{Transition, no_transition}

abbrev pub All : (Transition → Type 0) → List Transition → Type 0
All P [] = Unit {0}
All P (t ∷ ts) = P t × All P ts

abbrev pub Any : (Transition → Type 0) → List Transition → Type 0
Any P [] = ⊥
Any P (t ∷ ts) = P t ⊎ Any P ts

-- the same by places
pub all_of : (P : Transition → Type 0) (ts : List Transition) → ((i : ℕ) → i < length ts → P (get_or ts i no_transition)) → All P ts
all_of P [] h = tt
all_of P (t ∷ ts) h = (h 0 (omega arith), all_of P ts (λ i l. h (suc i) (omega arith)))

pub all-at : (P : Transition → Type 0) (ts : List Transition) → All P ts → (i : ℕ) → i < length ts → P (get_or ts i no_transition)
all-at P [] h i l = absurd (omega arith)
all-at P (t ∷ ts) h zero l = h.0
all-at P (t ∷ ts) h (suc i) l = all-at P ts h.1 i (omega arith)

pub any_of : (P : Transition → Type 0) (ts : List Transition) (i : ℕ) → i < length ts → P (get_or ts i no_transition) → Any P ts
any_of P [] i l p = absurd (omega arith)
any_of P (t ∷ ts) zero l p = inl p
any_of P (t ∷ ts) (suc i) l p = inr (any_of P ts i (omega arith) p)

-- a law of each transition, put to use along the list
pub all_map : {P Q : Transition → Type 0} → ((t : Transition) → P t → Q t) → (ts : List Transition) → All P ts → All Q ts
all_map f [] h = tt
all_map f (t ∷ ts) h = (f t h.0, all_map f ts h.1)

pub any-with : {P Q W : Transition → Type 0} → ((t : Transition) → P t → Q t → W t) → (ts : List Transition) → All P ts → Any Q ts → Any W ts
any-with f [] a n = n
any-with f (t ∷ ts) a (inl q) = inl (f t a.0 q)
any-with f (t ∷ ts) a (inr n) = inr (any-with f ts a.1 n)
