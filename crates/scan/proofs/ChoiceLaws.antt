-- The transition that fires: what is known of it, and how a loop over the transitions finds it.
use mathlib.Core.Path.{◌≡◌, refl}
use mathlib.Core.Bool.{Bool, true, false, ◌&&◌, cond}
use mathlib.Core.List.{List, [], ◌∷◌}
use Prim.Native.Nat.{ℕ}
use native.Mathlib.Omega.{arith}
use borrow.Author.Tests.{leb-true, leb-false, le-leb, lt-leb, eqb-true}
use lib.Dec.{leb, eqb}
use Rattle.reader.specs.Sheet.{Transition}
use Rattle.scan.specs.Scan.{Choice, none, some, can, better, best}
use Rattle.scan.proofs.AllLaws.{All}

abbrev pub OnChoice : (Transition → Type 0) → Choice → Type 0
OnChoice P none = Unit {0}
OnChoice P (some t) = P t

-- the first of a list that passes a test
unfoldable pub first : (Transition → Bool) → List Transition → Choice
first f [] = none
first f (t ∷ ts) = cond (f t) (some t) (first f ts)

module _ (s x c : ℕ) where
  -- what can fire is of the active state
  pub can-source : (t : Transition) → can s x c t ≡ true → t.source ≡ s
  unfolding can
  can-source t e = eqb-true _ _ (left (eqb t.source s) _ _ e)
    where
      left : (a b d : Bool) → a && b && d ≡ true → a ≡ true
      left true b d e = refl
      left false b d e = e

  -- the choice is one of the list, and can fire
  pub best-on : (P : Transition → Type 0) (ts : List Transition) → All P ts → OnChoice (λ t. P t × (can s x c t ≡ true)) (best s x c ts)
  unfolding best
  best-on P [] h = tt
  best-on P (t ∷ ts) h = go (can s x c t) refl (best s x c ts) (best-on P ts h.1)
    where
      Q : Transition → Type 0
      Q t = P t × (can s x c t ≡ true)

      pick : (b : Bool) (u : Transition) → can s x c t ≡ true → Q u → OnChoice Q (cond b (some t) (some u))
      pick true u e k = (h.0, e)
      pick false u e k = k

      go : (b : Bool) → can s x c t ≡ b → (ch : Choice) → OnChoice Q ch → OnChoice Q (cond b (better t ch) ch)
      go true e none k = (h.0, e)
      go true e (some u) k = pick (leb t.priority u.priority) u e k
      go false e ch k = k

  -- where none can fire, none is chosen
  pub best_none : (ts : List Transition) → All (λ t. can s x c t ≡ false) ts → best s x c ts ≡ none
  unfolding best
  best_none [] h = refl
  best_none (t ∷ ts) h = rw h.0 (best_none ts h.1)

-- A loop over the transitions in the sheet's order: what is chosen so far, joined with the choice of the rest
abbrev pub merge : Choice → Choice → Choice
merge none c = c
merge (some t) c = better t c

-- one more: what was chosen gives way only to a smaller priority number
abbrev pub nearer : Choice → Transition → Choice
nearer none t = some t
nearer (some u) t = cond (leb u.priority t.priority) (some u) (some t)

better-better : (u t : Transition) (c : Choice) → better u (better t c) ≡ merge (nearer (some u) t) c
better-better u t none = go (leb u.priority t.priority)
  where
    go : (b : Bool) → cond b (some u) (some t) ≡ merge (cond b (some u) (some t)) none
    go true = refl
    go false = refl
better-better u t (some v) = go (leb u.priority t.priority) refl (leb t.priority v.priority) refl
  where
    go : (a : Bool) → leb u.priority t.priority ≡ a → (b : Bool) → leb t.priority v.priority ≡ b
        → better u (cond b (some t) (some v)) ≡ merge (cond a (some u) (some t)) (some v)
    go true p true q =
        rw (p, le-leb u.priority v.priority (omega (arith, leb-true u.priority t.priority p, leb-true t.priority v.priority q))) refl
    go true p false q = refl
    go false p true q = rw (p, q) refl
    go false p false q =
        rw (q, lt-leb u.priority v.priority (omega (arith, leb-false u.priority t.priority p, leb-false t.priority v.priority q))) refl

pub merge_step : (s x c : ℕ) (ch : Choice) (t : Transition) (ts : List Transition)
    → merge ch (best s x c (t ∷ ts)) ≡ merge (cond (can s x c t) (nearer ch t) ch) (best s x c ts)
unfolding best
merge_step s x c ch t ts = go (can s x c t) ch
  where
    go : (b : Bool) (ch : Choice) → merge ch (cond b (better t (best s x c ts)) (best s x c ts)) ≡ merge (cond b (nearer ch t) ch) (best s x c ts)
    go true none = refl
    go true (some u) = better-better u t (best s x c ts)
    go false ch = refl
