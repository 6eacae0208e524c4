-- How large the place of refused code can be: it is that of one of 8,192 words. Assumes nothing.
use Rattle.std.specs.Prelude.{Ok, Err, Some}
use mathlib.Core.Path.{◌≡◌, refl}
use mathlib.Core.Bool.{Bool, true, false, ◌||◌, cond}
use mathlib.Core.List.{List, [], ◌∷◌, map}
use Prim.Native.Nat.{ℕ, suc, ◌+◌, ◌≤◌, ◌<◌}
use native.Mathlib.Omega.{arith}
use lib.ListN.{length, length-map}
use Rattle.answer.specs.Number.{place_of, farthest}
use Rattle.answer.specs.declared.Refusal.TheVariants as refuse
use Rattle.std.specs.declared.option.Option.{Option}
use Rattle.answer.specs.Lowest.{refuse_at}
use Rattle.answer.proofs.PlaceLaws.{some-is, none-some, found-fits}
use Rattle.words.specs.Word.{Word, decode, words}
use Rattle.faults.specs.Check.{end_fault, opens, faulty, unknown, here_or, first_fault, lands_open, first_landing, check_code}
use Rattle.faults.proofs.PassedLaws.{end-good}

-- found here or later, before word `end`
here-below : (b : Bool) (pc end : ℕ) (later : Option ℕ) → pc < end → ((i : ℕ) → later ≡ Some i → i < end) → (i : ℕ) → here_or b pc later ≡ Some i → i < end
here-below true pc end later l h i e = omega (arith, some-is e)
here-below false pc end later l h i e = h i e

fault-below : (n pc d : ℕ) (ws : List ℕ) (i : ℕ) → first_fault n pc d ws ≡ Some i → i < pc + length ws
unfolding first_fault
fault-below n pc d [] i e = none-some e
fault-below n pc d (w ∷ ws) i e =
    here-below (unknown w || faulty n pc d (decode w)) pc (pc + suc (length ws)) (first_fault n (suc pc) (opens (decode w) d) ws) (omega arith)
    (λ j q. omega (arith, fault-below n (suc pc) (opens (decode w) d) ws j q)) i e

landing-below : (code : List Word) (pc : ℕ) (is : List Word) (i : ℕ) → first_landing code pc is ≡ Some i → i < pc + length is
unfolding first_landing
landing-below code pc [] i e = none-some e
landing-below code pc (w ∷ is) i e =
    here-below (lands_open code w) pc (pc + suc (length is)) (first_landing code (suc pc) is) (omega arith)
    (λ j q. omega (arith, landing-below code (suc pc) is j q)) i e

pub place-fits : (s : List ℕ) → place_of (check_code s) ≤ farthest
unfolding check_code
place-fits s = go (end_fault s) refl
  where
    is : List Word
    is = map decode (words s)

    go : (b : Bool) → end_fault s ≡ b
        → place_of (cond b (Err refuse.CodeEnd)
        (refuse_at refuse.Word (first_fault (length (words s)) 0 0 (words s)) (refuse_at refuse.Landing (first_landing is 0 is) (Ok tt)))) ≤ farthest
    go true e = omega arith
    go false e =
        let few : length (words s) ≤ 8192 = let f = end-good s e in omega (arith, f.few, f.whole) in
        found-fits refuse.Word (λ i. refl) farthest (first_fault (length (words s)) 0 0 (words s))
        (λ i q. omega (arith, fault-below (length (words s)) 0 0 (words s) i q)) _
        (found-fits refuse.Landing (λ i. refl) farthest (first_landing is 0 is)
        (λ i q. omega (arith, landing-below is 0 is i q, length-map (words s) decode)) (Ok tt) (omega arith))
