-- The bits that stand in the bytes of a sheet, and the fields that are read from them. Assumes nothing.
use mathlib.Core.Path.{◌≡◌, refl, sym, ap, ◌∙◌, subst}
use mathlib.Core.List.{List, [], ◌∷◌, ◌++◌}
use mathlib.Core.Bool.{Bool}
use Prim.Native.Nat.{ℕ, zero, suc, ◌+◌, ◌*◌, ◌^◌, ◌≤◌, ◌<◌}
use native.Mathlib.Omega.{arith}
use lib.ListN.{length}
use lib.Dec.{eqb}
use Rattle.bits.specs.Field.{bit_at, num_at}
use Rattle.bits.specs.Word.{bit_no, bits_of}
use Rattle.bits.specs.Read.{ok, read_field}
use Rattle.bits.proofs.FieldLaws.{bit-lt, num-join, Here}
use Rattle.bits.proofs.ReadLaws.{read_here}
use Rattle.bits.proofs.WordLaws.{bits-length}
use Rattle.format.specs.Writing.{num_of}
use Rattle.format.proofs.BitNumbers.{bit_is, bits-num, num-bits}

-- the bits xs stand in the bytes s from `at` on, and are wholly there
abbrev pub Stands : List ℕ → ℕ → List Bool → Type 0
Stands s at [] = at ≤ length s * 8
Stands s at (b ∷ bs) = (bit_at s at ≡ bit_no b) × Stands s (at + 1) bs

pub stands-inside : (s : List ℕ) (at : ℕ) (xs : List Bool) → Stands s at xs → at + length xs ≤ length s * 8
stands-inside s at [] h = omega arith
stands-inside s at (b ∷ bs) h = omega (arith, stands-inside s (at + 1) bs h.1)

module _ (s : List ℕ) where
  pub stands-join : (at : ℕ) (xs ys : List Bool) → Stands s at xs → Stands s (at + length xs) ys → Stands s at (xs ++ ys)
  stands-join at [] ys h g = let e : at + 0 ≡ at = omega arith in rw e at g
  stands-join at (b ∷ bs) ys h g =
      let e : at + suc (length bs) ≡ at + 1 + length bs = omega arith in
      (h.0, stands-join (at + 1) bs ys h.1 (rw e at g))

  pub stands-split : (at : ℕ) (xs ys : List Bool) → Stands s at (xs ++ ys) → Stands s at xs × Stands s (at + length xs) ys
  stands-split at [] ys h = let e : at + 0 ≡ at = omega arith in (omega (arith, stands-inside s at ys h), rw e h)
  stands-split at (b ∷ bs) ys h =
      let e : at + suc (length bs) ≡ at + 1 + length bs = omega arith in
      let ih = stands-split (at + 1) bs ys h.1 in
      ((h.0, ih.0), rw e ih.1)

-- some bits stand wherever there is room
abbrev Some : List ℕ → ℕ → ℕ → Type 0
Some s at w = (xs : List Bool) × (length xs ≡ w) × Stands s at xs

pub stands-some : (s : List ℕ) (w at : ℕ) → at + w ≤ length s * 8 → Some s at w
stands-some s zero at h = ([], refl, omega arith)
stands-some s (suc w) at h =
    let ih = stands-some s w (at + 1) (omega arith) in
    (eqb (bit_at s at) 1 ∷ ih.0, ap suc ih.1, (bit_is (bit_at s at) (bit-lt s at), ih.2))

bit-num : (s : List ℕ) (at : ℕ) → num_at s at 1 ≡ bit_at s at
unfolding num_at
bit-num s at = let z : at + 0 ≡ at = omega arith in rw z (omega arith)

-- the number of a field by its first bit
num-first : (s : List ℕ) (at w : ℕ) → num_at s at (suc w) ≡ bit_at s at * 2 ^ w + num_at s (at + 1) w
num-first s at w =
    let e : suc w ≡ 1 + w = omega arith in
    ap (num_at s at) e ∙ num-join s at 1 w ∙ rw (bit-num s at)

none-num : (s : List ℕ) (at : ℕ) → num_at s at 0 ≡ 0
unfolding num_at
none-num s at = refl

all-num : (s : List ℕ) (at : ℕ) (xs : List Bool) → Stands s at xs → num_at s at (length xs) ≡ num_of (length xs) xs
unfolding num_of
all-num s at [] h = none-num s at
all-num s at (b ∷ bs) h = num-first s at (length bs) ∙ rw (h.0, all-num s (at + 1) bs h.1)

-- the field where w bits stand is their number
pub stands-num : (s : List ℕ) (at w : ℕ) (xs : List Bool) → length xs ≡ w → Stands s at xs → num_at s at w ≡ num_of w xs
stands-num s at w xs e h = rw e at (all-num s at xs h)

-- and the bits of a field stand there
pub num-stands : (s : List ℕ) (at w v : ℕ) → at + w ≤ length s * 8 → num_at s at w ≡ v → Stands s at (bits_of w v)
num-stands s at w v l e =
    let some = stands-some s w at l in
    let same : bits_of w v ≡ some.0 = ap (bits_of w) (sym e ∙ stands-num s at w some.0 some.1 some.2) ∙ bits-num w some.0 some.1 in
    subst (Stands s at) (sym same) some.2

pub field-stands : (s : List ℕ) (at w v next : ℕ) → Here s at w v next → Stands s at (bits_of w v)
field-stands s at w v next here = num-stands s at w v (omega arith) (sym here.value)

-- where w bits stand a field of w bits is read, their number
pub stands_read : (s : List ℕ) (at w : ℕ) (xs : List Bool) → length xs ≡ w → Stands s at xs → read_field s w at ≡ ok (num_of w xs) (at + w)
stands_read s at w xs e h =
    read_here s w at (omega (arith, stands-inside s at xs h)) ∙ ap (λ (v : ℕ). ok v (at + w)) (stands-num s at w xs e h)

pub bits-read : (s : List ℕ) (at w v : ℕ) → v < 2 ^ w → Stands s at (bits_of w v) → read_field s w at ≡ ok v (at + w)
bits-read s at w v l h = stands_read s at w (bits_of w v) (bits-length w v) h ∙ ap (λ (x : ℕ). ok x (at + w)) (num-bits w v l)

-- a field and the bits behind it
module _ (s : List ℕ) (at w v : ℕ) (ys : List Bool) where
  pub put : Stands s at (bits_of w v) → Stands s (at + w) ys → Stands s at (bits_of w v ++ ys)
  put h g = stands-join s at (bits_of w v) ys h (rw (bits-length w v) g)

  pub cut : Stands s at (bits_of w v ++ ys) → Stands s at (bits_of w v) × Stands s (at + w) ys
  cut h = let p = stands-split s at (bits_of w v) ys h in (p.0, rw (bits-length w v) at p.1)
