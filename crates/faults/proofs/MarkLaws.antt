-- Marks: 8,192 bits in 256 numbers. Assumes nothing.
use mathlib.Core.Path.{◌≡◌, refl, ap, ◌∙◌}
use mathlib.Core.Logic.{◌≢◌}
use mathlib.Core.Bool.{Bool, true, false}
use mathlib.Core.List.{List}
use Prim.Native.Nat.{ℕ, zero, suc, ◌+◌, ◌*◌, ◌/◌, ◌%◌, ◌≤◌, ◌<◌}
use native.Mathlib.Omega.{arith}
use borrow.Author.Count.{below_more}
use borrow.Author.Tests.{eqb-true, eqb-false}
use lib.Dec.{eqb}
use lib.ListN.{length, get_or, set, replicate, get_or-replicate}
use lib.Seq.{get_or-set_same, get_or-set_other}
use Rattle.bits.specs.Word.{get_bit, put_bit}
use Rattle.faults.specs.inside.Marks.{marked, noted}

low : (w y : ℕ) → (w % 2 + 2 * y) % 2 ≡ w % 2
low w y = omega arith

high : (w y : ℕ) → (w % 2 + 2 * y) / 2 ≡ y
high w y = omega arith

-- a bit that was put is there, and every other bit is as it was
pub get-put-same : (w i : ℕ) (b : Bool) → get_bit (put_bit w i b) i ≡ b
unfolding get_bit put_bit
get-put-same w zero true = let e : (w / 2 * 2 + 1) % 2 ≡ 1 = omega arith in rw e refl
get-put-same w zero false = let e : (w / 2 * 2 + 0) % 2 ≡ 0 = omega arith in rw e refl
get-put-same w (suc i) b = rw (high w (put_bit (w / 2) i b)) (get-put-same (w / 2) i b)

pub get-put-other : (w i j : ℕ) (b : Bool) → j ≢ i → get_bit (put_bit w i b) j ≡ get_bit w j
unfolding get_bit put_bit
get-put-other w zero zero b h = absurd (h refl)
get-put-other w zero (suc j) true h = let e : (w / 2 * 2 + 1) / 2 ≡ w / 2 = omega arith in rw e refl
get-put-other w zero (suc j) false h = let e : (w / 2 * 2 + 0) / 2 ≡ w / 2 = omega arith in rw e refl
get-put-other w (suc i) zero b h = rw (low w (put_bit (w / 2) i b)) refl
get-put-other w (suc i) (suc j) b h =
    rw (high w (put_bit (w / 2) i b)) (get-put-other (w / 2) i j b (λ e. h (ap suc e)))

bit-zero : (i : ℕ) → get_bit 0 i ≡ false
unfolding get_bit
bit-zero zero = refl
bit-zero (suc i) = bit-zero i

-- no mark at the start
pub blank : (k : ℕ) → k < 8192 → marked (replicate 256 0) k ≡ false
unfolding marked
blank k h = rw (get_or-replicate {A = ℕ} 256 (k / 32) 0 0 (omega arith)) (bit-zero (k % 32))

module _ (marks : List ℕ) (k : ℕ) (size : length marks ≡ 256) (small : k < 8192) where
  pub noted-now : marked (noted true marks k) k ≡ true
  unfolding marked noted
  noted-now =
      rw (get_or-set_same marks (k / 32) (put_bit (get_or marks (k / 32) 0) (k % 32) true) 0 (omega arith))
      (get-put-same (get_or marks (k / 32) 0) (k % 32) true)

  pub noted-same : (b : Bool) → marked marks k ≡ false → marked (noted b marks k) k ≡ b
  unfolding noted
  noted-same true e = noted-now
  noted-same false e = e

  pub noted_other : (b : Bool) (j : ℕ) → j ≢ k → marked (noted b marks k) j ≡ marked marks j
  unfolding marked noted
  noted_other true j h = go (eqb (j / 32) (k / 32)) refl (get_or marks (k / 32) 0) refl
    where
      go : (b : Bool) → eqb (j / 32) (k / 32) ≡ b → (w : ℕ) → get_or marks (k / 32) 0 ≡ w
          → get_bit (get_or (set marks (k / 32) (put_bit w (k % 32) true)) (j / 32) 0) (j % 32) ≡ get_bit (get_or marks (j / 32) 0) (j % 32)
      go true e w q =
          let s : j / 32 ≡ k / 32 = eqb-true (j / 32) (k / 32) e in
          rw (s, get_or-set_same marks (k / 32) (put_bit w (k % 32) true) 0 (omega arith), q)
          (get-put-other w (k % 32) (j % 32) true (λ z. h (omega arith)))
      go false e w q = rw (get_or-set_other marks (k / 32) (j / 32) (put_bit w (k % 32) true) 0 (eqb-false (j / 32) (k / 32) e))
  noted_other false j h = refl

  -- a mark stays
  noted-keep : (j : ℕ) → marked marks j ≡ true → marked (noted true marks k) j ≡ true
  noted-keep j m = go (eqb j k) refl
    where
      go : (b : Bool) → eqb j k ≡ b → marked (noted true marks k) j ≡ true
      go true e = rw (eqb-true j k e) noted-now
      go false e = noted_other true j (eqb-false j k e) ∙ m

-- the same where it is known to be small only if it is noted
module _ (marks : List ℕ) (k : ℕ) (size : length marks ≡ 256) where
  pub noted-keeps : (b : Bool) → (b ≡ true → k < 8192) → (j : ℕ) → marked marks j ≡ true → marked (noted b marks k) j ≡ true
  unfolding noted
  noted-keeps true small j m = noted-keep marks k size (small refl) j m
  noted-keeps false small j m = m

  pub noted-before : (b : Bool) → (b ≡ true → k < 8192) → (j : ℕ) → (b ≡ true → j < k) → marked (noted b marks k) j ≡ marked marks j
  unfolding noted
  noted-before true small j less = noted_other marks k size (small refl) true j (λ e. omega (arith, less refl))
  noted-before false small j less = refl

-- below `at` the marks are p, and from there on there is none
pub record Marked (p : ℕ → Bool) (marks : List ℕ) (at : ℕ) : Type 0 where
  pub below : (k : ℕ) → k < at → marked marks k ≡ p k
  pub above : (k : ℕ) → at ≤ k → k < 8192 → marked marks k ≡ false

pub marked-start : (p : ℕ → Bool) → Marked p (replicate 256 0) 0
marked-start p = record { below = λ k h. absurd (omega arith); above = λ k l h. blank k h }

pub marked-on : (p : ℕ → Bool) (marks : List ℕ) (at : ℕ) → length marks ≡ 256 → at < 8192 → Marked p marks at → Marked p (noted (p at) marks at) (at + 1)
marked-on p marks at full h m =
    record {
      below =
          below_more _ _ (λ k l. noted_other marks at full h (p at) k (λ e. omega arith) ∙ m.below k l)
          (noted-same marks at full h (p at) (m.above at (omega arith) h));
      above = λ k l b. noted_other marks at full h (p at) k (λ e. omega arith) ∙ m.above k (omega arith) b;
    }
