-- Laws of fields: the number at bits at .. at + w. Assumes nothing.
use mathlib.Core.Path.{◌≡◌, refl, sym, ap, ◌∙◌}
use mathlib.Core.Logic.{◌⊎◌, ⊎_elim}
use mathlib.Core.List.{List}
use Prim.Native.Nat.{ℕ, zero, suc, ◌+◌, ◌*◌, ◌-◌, ◌/◌, ◌%◌, ◌^◌, ◌≤◌, ◌<◌}
use native.Mathlib.Nat.{mod-lt, two-pow-succ, pow-succ', add-suc, add-zero, add_assoc, mul_assoc, mul_comm, add-mul}
use native.Mathlib.Omega.{arith}
use lib.ListN.{length, get_or}
use lib.Pow.{high, low, pow_pos, pow-add, shr-shr}
use mathlib.Core.Bool.{Bool, true, false}
use lib.Dec.{leb}
use borrow.Author.Tests.{le-leb, lt-leb, leb-true, leb-false}
use Rattle.bits.specs.declared.Cursor.{Cursor}
use Rattle.bits.specs.Field.{Got, bit_at, num_at, field_at}
use Rattle.std.specs.Prelude.{Some, None}

pub bit-lt : (s : List ℕ) (i : ℕ) → bit_at s i < 2
unfolding bit_at
bit-lt s i = mod-lt _ (pow_pos 1)

pub num-lt : (s : List ℕ) (at w : ℕ) → num_at s at w < 2 ^ w
unfolding num_at
num-lt s at zero = omega arith
num-lt s at (suc w) = omega (arith, num-lt s at w, bit-lt s (at + w), two-pow-succ w)

-- a field is its first part and the rest
pub num-join : (s : List ℕ) (at a b : ℕ) → num_at s at (a + b) ≡ num_at s at a * 2 ^ b + num_at s (at + a) b
unfolding num_at
num-join s at a zero = rw add-zero (omega arith)
num-join s at a (suc b) =
    rw (add-suc, pow-succ', num-join s at a b, ← add_assoc)
    (omega (arith, mul_comm 2 (2 ^ b), mul_assoc (num_at s at a) (2 ^ b) 2))

-- the field of w bits behind a and before b bits, cut out of all of them
pub num-cut : (s : List ℕ) (p a w b : ℕ) → num_at s p (a + w + b) / 2 ^ b % 2 ^ w ≡ num_at s (p + a) w
num-cut s p a w b =
    rw (num-join s p (a + w) b, high (num_at s p (a + w)) b (num-lt s (p + (a + w)) b), num-join s p a w)
    (low (num_at s p a) w (num-lt s (p + a) w))

-- the first k bits of byte i
byte-part : (s : List ℕ) (i k j : ℕ) → k + j ≡ 8 → get_or s i 0 < 256 → num_at s (i * 8) k ≡ get_or s i 0 / 2 ^ j
unfolding num_at bit_at
byte-part s i zero j e h = let e8 : j ≡ 8 = omega arith in rw e8 (omega arith)
byte-part s i (suc k) j e h =
    let which : (i * 8 + k) / 8 ≡ i = omega arith in
    let place : 7 - (i * 8 + k) % 8 ≡ j = omega arith in
    let ih : num_at s (i * 8) k ≡ get_or s i 0 / 2 ^ (j + 1) = byte-part s i k (j + 1) (omega arith) h in
    let half : get_or s i 0 / 2 ^ j / 2 ≡ get_or s i 0 / 2 ^ (j + 1) = shr-shr (get_or s i 0) j 1 in
    rw (which, place, ih, ← half) (omega arith)

-- a whole byte
pub num-byte : (s : List ℕ) (i : ℕ) → get_or s i 0 < 256 → num_at s (i * 8) 8 ≡ get_or s i 0
num-byte s i h = byte-part s i 8 0 refl h ∙ omega arith

-- whatever stands above those bits is cut off
cut-above : (y : ℕ) (s : List ℕ) (p a w b : ℕ) → (y * 2 ^ (a + w + b) + num_at s p (a + w + b)) / 2 ^ b % 2 ^ w ≡ num_at s (p + a) w
cut-above y s p a w b =
    rw (split, high ((y * 2 ^ a + num_at s p a) * 2 ^ w + num_at s (p + a) w) b (num-lt s (p + (a + w)) b))
    (low (y * 2 ^ a + num_at s p a) w (num-lt s (p + a) w))
  where
    raised : (y * 2 ^ a + num_at s p a) * 2 ^ w + num_at s (p + a) w ≡ y * 2 ^ (a + w) + num_at s p (a + w)
    raised = rw (num-join s p a w, pow-add 2 a w, ← mul_assoc y (2 ^ a) (2 ^ w)) (omega (arith, add-mul (y * 2 ^ a) (num_at s p a) (2 ^ w)))

    split : y * 2 ^ (a + w + b) + num_at s p (a + w + b)
        ≡ ((y * 2 ^ a + num_at s p a) * 2 ^ w + num_at s (p + a) w) * 2 ^ b + num_at s (p + (a + w)) b
    split =
        rw (raised, num-join s p (a + w) b, pow-add 2 (a + w) b, ← mul_assoc y (2 ^ (a + w)) (2 ^ b))
        (omega (arith, add-mul (y * 2 ^ (a + w)) (num_at s p (a + w)) (2 ^ b)))

cut_all : (y : ℕ) (s : List ℕ) (p a w b n : ℕ) → a + w + b ≡ n → (y * 2 ^ n + num_at s p n) / 2 ^ b % 2 ^ w ≡ num_at s (p + a) w
cut_all y s p a w b n e = rw (← e) (cut-above y s p a w b)

-- a field cut out of the last bytes that it is in, k of them, with its first byte above them, which may be the first of the k
pub num-tail : (s : List ℕ) (at w stop k b : ℕ) → stop ≡ (at + w + 7) / 8 → b ≡ stop * 8 - (at + w) → 1 ≤ w → k ≤ stop
    → (at / 8 ≡ stop - k) ⊎ (at / 8 + 1 ≡ stop - k) → get_or s (at / 8) 0 < 256
    → (get_or s (at / 8) 0 * 2 ^ (k * 8) + num_at s ((stop - k) * 8) (k * 8)) / 2 ^ b % 2 ^ w ≡ num_at s at w
num-tail s at w stop k b e f l h q x = ⊎_elim within above q
  where
    start : at / 8 * 8 + at % 8 ≡ at
    start = omega arith

    within : at / 8 ≡ stop - k → (get_or s (at / 8) 0 * 2 ^ (k * 8) + num_at s ((stop - k) * 8) (k * 8)) / 2 ^ b % 2 ^ w ≡ num_at s at w
    within q =
        let cut = cut_all (get_or s (at / 8) 0) s (at / 8 * 8) (at % 8) w b (k * 8) (omega arith) in
        rw (← q) (rw start at cut)

    above : at / 8 + 1 ≡ stop - k → (get_or s (at / 8) 0 * 2 ^ (k * 8) + num_at s ((stop - k) * 8) (k * 8)) / 2 ^ b % 2 ^ w ≡ num_at s at w
    above q =
        let next : (stop - k) * 8 ≡ at / 8 * 8 + 8 = omega arith in
        let bits : at % 8 + w + b ≡ 8 + k * 8 = omega arith in
        let all : num_at s (at / 8 * 8) (at % 8 + w + b) ≡ get_or s (at / 8) 0 * 2 ^ (k * 8) + num_at s ((stop - k) * 8) (k * 8) =
        rw (bits, num-join s (at / 8 * 8) 8 (k * 8), num-byte s (at / 8) x, next) refl in
        rw (← all) (rw start at (num-cut s (at / 8 * 8) (at % 8) w b))

-- one byte more
pub num-bytes : (s : List ℕ) (i k : ℕ) → get_or s (i + k) 0 < 256 → num_at s (i * 8) ((k + 1) * 8) ≡ num_at s (i * 8) (k * 8) * 256 + get_or s (i + k) 0
num-bytes s i k h =
    let bits : (k + 1) * 8 ≡ k * 8 + 8 = omega arith in
    let place : i * 8 + k * 8 ≡ (i + k) * 8 = omega arith in
    rw (bits, num-join s (i * 8) (k * 8) 8, place, num-byte s (i + k) h) refl

pub field-here : (s : List ℕ) (at w : ℕ) → at + w ≤ length s * 8 → field_at s at w ≡ Some (num_at s at w, record { at = at + w })
unfolding field_at
field-here s at w h = rw (le-leb (at + w) (length s * 8) h)

pub field-short : (s : List ℕ) (at w : ℕ) → length s * 8 < at + w → field_at s at w ≡ None
unfolding field_at
field-short s at w h = rw (lt-leb (at + w) (length s * 8) h)

-- the value and the next bit of a field that is there
abbrev value_of : Got → ℕ
value_of (Some g) = g.0
value_of None = 0

abbrev next_of : Got → ℕ
next_of (Some g) = g.1.at
next_of None = 0

-- what a field that is there says of its cursor and its value
pub record Here (s : List ℕ) (at w v next : ℕ) : Type 0 where
  pub after : next ≡ at + w
  pub inside : next ≤ length s * 8
  pub value : v ≡ num_at s at w
  pub below : v < 2 ^ w

pub field-got : (s : List ℕ) (at w v : ℕ) (n : Cursor) → field_at s at w ≡ Some (v, n) → Here s at w v n.at
field-got s at w v n e = go (leb (at + w) (length s * 8)) refl
  where
    go : (b : Bool) → leb (at + w) (length s * 8) ≡ b → Here s at w v n.at
    go true t =
        let f : ◌≡◌ {A = Got} (Some (v, n)) (Some (num_at s at w, record { at = at + w })) = sym e ∙ field-here s at w (leb-true _ _ t) in
        let p : v ≡ num_at s at w = ap value_of f in
        let r : n.at ≡ at + w = ap next_of f in
        record { after = r; inside = omega (arith, leb-true (at + w) (length s * 8) t); value = p; below = rw p (num-lt s at w) }
    go false t =
        let f : ◌≡◌ {A = Got} (Some (v, n)) None = sym e ∙ field-short s at w (leb-false _ _ t) in
        let z : ◌≡◌ {A = ℕ} 0 1 = cc in
        absurd (omega arith)
