-- What fires is the best of those that can, by places in the list.
use mathlib.Core.Path.{◌≡◌, refl}
use mathlib.Core.Bool.{Bool, true, false, cond}
use mathlib.Core.List.{List, [], ◌∷◌}
use Prim.Native.Nat.{ℕ, zero, suc, ◌≤◌, ◌<◌}
use native.Mathlib.Omega.{arith}
use borrow.Author.Tests.{leb-true, leb-false}
use lib.Dec.{leb}
use lib.ListN.{length, get_or}
use Rattle.reader.specs.Sheet.{Transition, no_transition}
use Rattle.scan.specs.Scan.{Choice, none, some, can, better, best}

-- t stands in the list, can fire, and no other that can has a smaller priority number
pub record Chosen (s x c : ℕ) (ts : List Transition) (t : Transition) : Type 0 where
  pub place : ℕ
  pub inside : place < length ts
  pub there : get_or ts place no_transition ≡ t
  pub able : can s x c t ≡ true
  pub least : (j : ℕ) → j < length ts → can s x c (get_or ts j no_transition) ≡ true → t.priority ≤ (get_or ts j no_transition).priority

abbrev pub BestIs : ℕ → ℕ → ℕ → List Transition → Choice → Type 0
BestIs s x c ts none = (j : ℕ) → j < length ts → can s x c (get_or ts j no_transition) ≡ false
BestIs s x c ts (some t) = Chosen s x c ts t

module _ (s x c : ℕ) where
  -- the head of a list, joined with what is known of the tail
  join : (t : Transition) (ts : List Transition) (b : Bool) → can s x c t ≡ b → (ch : Choice) → BestIs s x c ts ch
      → BestIs s x c (t ∷ ts) (cond b (better t ch) ch)
  join t ts true e none h = record { place = 0; inside = omega arith; there = refl; able = e; least = each }
    where
      each : (j : ℕ) → j < suc (length ts) → can s x c (get_or (t ∷ ts) j no_transition) ≡ true → t.priority ≤ (get_or (t ∷ ts) j no_transition).priority
      each zero l f = omega arith
      each (suc j) l f = absurd (let z : ◌≡◌ {A = ℕ} 0 1 = cc (h j (omega arith)) in omega arith)
  join t ts true e (some u) h = pick (leb t.priority u.priority) refl
    where
      pick : (b : Bool) → leb t.priority u.priority ≡ b → BestIs s x c (t ∷ ts) (cond b (some t) (some u))
      pick true le = record { place = 0; inside = omega arith; there = refl; able = e; least = each }
        where
          each : (j : ℕ) → j < suc (length ts) → can s x c (get_or (t ∷ ts) j no_transition) ≡ true → t.priority ≤ (get_or (t ∷ ts) j no_transition).priority
          each zero l f = omega arith
          each (suc j) l f = omega (arith, leb-true t.priority u.priority le, h.least j (omega arith) f)
      pick false gt = record { place = suc h.place; inside = omega (arith, h.inside); there = h.there; able = h.able; least = each }
        where
          each : (j : ℕ) → j < suc (length ts) → can s x c (get_or (t ∷ ts) j no_transition) ≡ true → u.priority ≤ (get_or (t ∷ ts) j no_transition).priority
          each zero l f = omega (arith, leb-false t.priority u.priority gt)
          each (suc j) l f = h.least j (omega arith) f
  join t ts false e none h = each
    where
      each : (j : ℕ) → j < suc (length ts) → can s x c (get_or (t ∷ ts) j no_transition) ≡ false
      each zero l = e
      each (suc j) l = h j (omega arith)
  join t ts false e (some u) h = record { place = suc h.place; inside = omega (arith, h.inside); there = h.there; able = h.able; least = each }
    where
      each : (j : ℕ) → j < suc (length ts) → can s x c (get_or (t ∷ ts) j no_transition) ≡ true → u.priority ≤ (get_or (t ∷ ts) j no_transition).priority
      each zero l f = absurd (let z : ◌≡◌ {A = ℕ} 0 1 = cc in omega arith)
      each (suc j) l f = h.least j (omega arith) f

  pub best-is : (ts : List Transition) → BestIs s x c ts (best s x c ts)
  unfolding best
  best-is [] = λ j l. absurd (omega arith)
  best-is (t ∷ ts) = join t ts (can s x c t) refl (best s x c ts) (best-is ts)
