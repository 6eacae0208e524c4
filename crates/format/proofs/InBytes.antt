-- Bits packed into bytes: they stand there with zero bits behind them, and no other byte string has them so. Assumes nothing.
use mathlib.Core.Path.{◌≡◌, refl, sym, ap, ap₂, ◌∙◌, subst}
use mathlib.Core.List.{List, [], ◌∷◌, ◌++◌}
use mathlib.Core.Bool.{Bool, true, false}
use Prim.Native.Nat.{ℕ, zero, suc, ◌+◌, ◌*◌, ◌-◌, ◌/◌, ◌%◌, ◌≤◌, ◌<◌}
use native.Mathlib.Omega.{arith}
use lib.ListN.{length, take, drop, replicate, length-append, length-drop, length-take, length-replicate, take-append-drop}
use lib.Dec.{eqb}
use borrow.Author.Tests.{eq-eqb, eqb-true}
use Rattle.answer.proofs.BoolLaws.{and-true}
use Rattle.bits.specs.Field.{bit_at, num_at}
use Rattle.bits.proofs.FieldLaws.{num-byte}
use Rattle.reader.specs.Reading.{ends_at}
use Rattle.format.specs.Writing.{num_of, n_bytes, in_bytes, Bytes}
use Rattle.format.proofs.BitNumbers.{num_of-lt, bits-num, num_of-zeros, bits-zero}
use Rattle.format.proofs.Stands.{Stands, stands-join, stands-split, stands-num, num-stands}

-- zero bits behind count for nothing
num_of-pad : (w : ℕ) (xs : List Bool) (m : ℕ) → num_of w (xs ++ replicate m false) ≡ num_of w xs
unfolding num_of
num_of-pad zero xs m = refl
num_of-pad (suc w) [] m = num_of-zeros (suc w) m
num_of-pad (suc w) (x ∷ xs) m = rw (num_of-pad w xs m)

drop-pad : (k : ℕ) (xs : List Bool) (m : ℕ) → (l : ℕ) × (drop k (xs ++ replicate m false) ≡ drop k xs ++ replicate l false)
drop-pad zero xs m = (m, refl)
drop-pad (suc k) [] zero = (0, refl)
drop-pad (suc k) [] (suc m) = drop-none k m
  where
    drop-none : (k m : ℕ) → (l : ℕ) × (drop k (replicate m false) ≡ replicate l false)
    drop-none zero m = (m, refl)
    drop-none (suc k) zero = (0, refl)
    drop-none (suc k) (suc m) = drop-none k m
drop-pad (suc k) (x ∷ xs) m = drop-pad k xs m

bytes-pad : (n : ℕ) (xs : List Bool) (m : ℕ) → n_bytes n (xs ++ replicate m false) ≡ n_bytes n xs
unfolding n_bytes
bytes-pad zero xs m = refl
bytes-pad (suc n) xs m =
    let d = drop-pad 8 xs m in
    ap₂ ◌∷◌ (num_of-pad 8 xs m) (ap (n_bytes n) d.1 ∙ bytes-pad n (drop 8 xs) d.0)

bytes-length : (n : ℕ) (xs : List Bool) → length (n_bytes n xs) ≡ n
unfolding n_bytes
bytes-length zero xs = refl
bytes-length (suc n) xs = ap suc (bytes-length n (drop 8 xs))

bytes_below : (n : ℕ) (xs : List Bool) → Bytes (n_bytes n xs)
unfolding n_bytes
bytes_below zero xs i l = omega arith
bytes_below (suc n) xs zero l = num_of-lt 8 xs
bytes_below (suc n) xs (suc i) l = bytes_below n (drop 8 xs) i (omega arith)

-- the bits of the bytes behind the first
bit-behind : (y : ℕ) (s : List ℕ) (i : ℕ) → bit_at (y ∷ s) (i + 8) ≡ bit_at s i
unfolding bit_at
bit-behind y s i =
    let e : (i + 8) / 8 ≡ suc (i / 8) = omega arith in
    let f : (i + 8) % 8 ≡ i % 8 = omega arith in
    rw (e, f)

stands-behind : (y : ℕ) (s : List ℕ) (at : ℕ) (xs : List Bool) → Stands s at xs → Stands (y ∷ s) (at + 8) xs
stands-behind y s at [] h = omega arith
stands-behind y s at (x ∷ xs) h =
    let e : at + 1 + 8 ≡ at + 8 + 1 = omega arith in
    (bit-behind y s at ∙ h.0, rw e at (stands-behind y s (at + 1) xs h.1))

behind-stands : (y : ℕ) (s : List ℕ) (at : ℕ) (xs : List Bool) → Stands (y ∷ s) (at + 8) xs → Stands s at xs
behind-stands y s at [] h = omega arith
behind-stands y s at (x ∷ xs) h =
    let e : at + 8 + 1 ≡ at + 1 + 8 = omega arith in
    (sym (bit-behind y s at) ∙ h.0, behind-stands y s (at + 1) xs (rw e at h.1))

-- eight bits stand in the first byte exactly where it is their number
byte-is : (y : ℕ) (s : List ℕ) (xs : List Bool) → y < 256 → length xs ≡ 8 → Stands (y ∷ s) 0 xs → y ≡ num_of 8 xs
byte-is y s xs l e h = sym (num-byte (y ∷ s) 0 l) ∙ stands-num (y ∷ s) 0 8 xs e h

byte-stands : (s : List ℕ) (xs : List Bool) → length xs ≡ 8 → Stands (num_of 8 xs ∷ s) 0 xs
byte-stands s xs e =
    let y = num_of 8 xs in
    subst (Stands (y ∷ s) 0) (bits-num 8 xs e) (num-stands (y ∷ s) 0 8 y (omega arith) (num-byte (y ∷ s) 0 (num_of-lt 8 xs)))

num_of-take : (w : ℕ) (xs : List Bool) → num_of w (take w xs) ≡ num_of w xs
unfolding num_of
num_of-take zero xs = refl
num_of-take (suc w) [] = refl
num_of-take (suc w) (x ∷ xs) = rw (num_of-take w xs)

eight : (xs : List Bool) (n : ℕ) → length xs ≡ suc n * 8 → (length (take 8 xs) ≡ 8) × (length (drop 8 xs) ≡ n * 8)
eight xs n e = (omega (arith, length-take 8 xs), omega (arith, length-drop 8 xs))

-- whole bytes: their bits stand in them
bytes-stand : (n : ℕ) (xs : List Bool) → length xs ≡ n * 8 → Stands (n_bytes n xs) 0 xs
unfolding n_bytes
bytes-stand zero [] e = omega arith
bytes-stand zero (x ∷ xs) e = absurd (omega arith)
bytes-stand (suc n) xs e =
    let s = n_bytes n (drop 8 xs) in
    let long = eight xs n e in
    let first : Stands (num_of 8 xs ∷ s) 0 (take 8 xs) = rw (num_of-take 8 xs) at (byte-stands s (take 8 xs) long.0) in
    let rest : Stands (num_of 8 xs ∷ s) 8 (drop 8 xs) = stands-behind (num_of 8 xs) s 0 (drop 8 xs) (bytes-stand n (drop 8 xs) long.1) in
    subst (Stands (num_of 8 xs ∷ s) 0) (take-append-drop 8 xs)
    (stands-join (num_of 8 xs ∷ s) 0 (take 8 xs) (drop 8 xs) first (rw long.0 rest))

-- and in no other byte string of that length
bytes-only : (s : List ℕ) → Bytes s → (xs : List Bool) → length xs ≡ length s * 8 → Stands s 0 xs → s ≡ n_bytes (length s) xs
unfolding n_bytes
bytes-only [] b xs e h = refl
bytes-only (y ∷ s) b xs e h =
    let long = eight xs (length s) e in
    let both = stands-split (y ∷ s) 0 (take 8 xs) (drop 8 xs) (subst (Stands (y ∷ s) 0) (sym (take-append-drop 8 xs)) h) in
    let first : y ≡ num_of 8 xs = byte-is y s (take 8 xs) (b 0 (omega arith)) long.0 both.0 ∙ num_of-take 8 xs in
    let rest : Stands s 0 (drop 8 xs) = behind-stands y s 0 (drop 8 xs) (rw long.0 at both.1) in
    ap₂ ◌∷◌ first (bytes-only s (λ i l. b (suc i) (omega arith)) (drop 8 xs) long.1 rest)

-- zero bits stand exactly where the field is 0
zeros-num : (s : List ℕ) (at m : ℕ) → Stands s at (replicate m false) → num_at s at m ≡ 0
zeros-num s at m h = stands-num s at m (replicate m false) (length-replicate m false) h ∙ num_of-zeros m m

zeros-stand : (s : List ℕ) (at m : ℕ) → at + m ≤ length s * 8 → num_at s at m ≡ 0 → Stands s at (replicate m false)
zeros-stand s at m l e = subst (Stands s at) (bits-zero m) (num-stands s at m 0 l e)

-- the bits with zero bits behind them up to the byte
module _ (bs : List Bool) where
  abbrev many : ℕ
  many = (length bs + 7) / 8

  abbrev spare : ℕ
  spare = many * 8 - length bs

  abbrev padded : List Bool
  padded = bs ++ replicate spare false

  padded-length : length padded ≡ many * 8
  padded-length = length-append bs (replicate spare false) ∙ omega (arith, length-replicate spare false)

  pub in-bytes-stand : Stands (in_bytes bs) 0 bs × (ends_at (in_bytes bs) (length bs) ≡ true)
  unfolding in_bytes ends_at
  in-bytes-stand =
      let whole = subst (λ (s : List ℕ). Stands s 0 padded) (bytes-pad many bs spare) (bytes-stand many padded padded-length) in
      let both = stands-split (n_bytes many bs) 0 bs (replicate spare false) whole in
      let here : 0 + length bs ≡ length bs = omega arith in
      let zero = zeros-num (n_bytes many bs) (length bs) spare (rw here at both.1) in
      (both.0, rw (eq-eqb (length (n_bytes many bs)) many (bytes-length many bs), eq-eqb _ 0 zero))

  pub in-bytes-below : Bytes (in_bytes bs)
  unfolding in_bytes
  in-bytes-below = bytes_below many bs

  pub in-bytes-only : (s : List ℕ) → Bytes s → Stands s 0 bs → ends_at s (length bs) ≡ true → s ≡ in_bytes bs
  unfolding in_bytes ends_at
  in-bytes-only s b h e =
      let both = and-true (eqb (length s) many) (eqb (num_at s (length bs) spare) 0) e in
      let long : length s ≡ many = eqb-true _ _ both.0 in
      let here : 0 + length bs ≡ length bs = omega arith in
      let zeros = zeros-stand s (length bs) spare (omega arith) (eqb-true _ _ both.1) in
      let whole : Stands s 0 padded = stands-join s 0 bs (replicate spare false) h (rw here zeros) in
      bytes-only s b padded (padded-length ∙ ap (λ (n : ℕ). n * 8) (sym long)) whole
      ∙ ap (λ (n : ℕ). n_bytes n padded) long ∙ bytes-pad many bs spare
