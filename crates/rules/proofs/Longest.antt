-- "No accepted sheet is longer than 2,537 bytes." Assumes nothing.
use mathlib.Core.Path.{◌≡◌, refl, ap, ◌∙◌}
use mathlib.Core.List.{List, [], ◌∷◌}
use mathlib.Core.Bool.{Bool, true, false}
use Prim.Native.Nat.{ℕ, suc, ◌+◌, ◌*◌, ◌-◌, ◌/◌, ◌≤◌, ◌<◌}
use native.Mathlib.Omega.{arith}
use native.Mathlib.Nat.{mul-le-mul_right, mul-le-mul_left}
use lib.ListN.{length, get_or, length-append}
use lib.Dec.{eqb, leb}
use borrow.Author.Tests.{eqb-true, leb-true, leb-false}
use Rattle.bits.specs.Word.{bits_of}
use Rattle.bits.specs.Field.{num_at}
use Rattle.bits.specs.Read.{ok}
use Rattle.condition.specs.Cond.{Cond, inp, neg, conj, disj, nodes, cond_bits}
use Rattle.reader.specs.Sheet.{Transition, Sheet, count, transition_of, sum_over}
use Rattle.reader.specs.Reading.{ends_at, read_sheet}
use Rattle.rules.specs.Rules.{Rules}
use Rattle.format.specs.Writing.{transition_bits, sheet_bits}
use Rattle.answer.proofs.BoolLaws.{and-true}
use Rattle.format.proofs.ListStands.{join_all}
use Rattle.format.proofs.TransitionStands.{transition-length}
use Rattle.format.proofs.SheetStands.{sheet-said, sheet-length}
use Rattle.rules.proofs.Counting.{homes-few, pairs-few, weighed}

-- 6 bits for an input and 2 for any other node
cond-bits : (t : Cond) → length (cond_bits t) ≤ 4 * nodes t + 2
unfolding cond_bits nodes bits_of
cond-bits (inp i) = omega arith
cond-bits (neg t) = omega (arith, cond-bits t)
cond-bits (conj t u) = omega (arith, length-append (cond_bits t) (cond_bits u), cond-bits t, cond-bits u)
cond-bits (disj t u) = omega (arith, length-append (cond_bits t) (cond_bits u), cond-bits t, cond-bits u)

off-bits : length (cond_bits (neg (inp 0))) ≡ 8
unfolding cond_bits bits_of
off-bits = refl

rows-length : (rows : List (List Bool)) (l : ℕ) → ((i : ℕ) → i < length rows → length (get_or rows i []) ≡ l) → length (join_all (λ r. r) rows) ≡ length rows * l
rows-length [] l h = omega arith
rows-length (row ∷ rows) l h =
    length-append row (join_all (λ r. r) rows) ∙ omega (arith, h 0 (omega arith), rows-length rows l (λ i m. h (suc i) (omega arith)))

transitions-length : (ts : List Transition) → length (join_all transition_bits ts) ≡ sum_over (λ t. length (transition_bits t)) ts
transitions-length [] = refl
transitions-length (t ∷ ts) = length-append (transition_bits t) (join_all transition_bits ts) ∙ omega (arith, transitions-length ts)

-- from 12 states on the transitions home keep the bits down; up to 11 there are too few pairs
at_most : (n m : ℕ) → 2 ≤ n → m ≤ 128 → n - 1 ≤ m → m ≤ n * n → 20 + n * 16 + ((n - 1) * 49 + (m - (n - 1)) * 167) ≤ 20290
at_most n m some many homes pairs = go (leb n 11) refl
  where
    go : (b : Bool) → leb n 11 ≡ b → 20 + n * 16 + ((n - 1) * 49 + (m - (n - 1)) * 167) ≤ 20290
    go true e = omega (arith, leb-true n 11 e, mul-le-mul_right n (leb-true n 11 e))
    go false e = omega (arith, leb-false n 11 e)

module _ (a : Sheet) (r : Rules a) where
  home-bits : (i : ℕ) → i < count a → (transition_of a i).destination ≡ 0 → length (transition_bits (transition_of a i)) ≤ 49
  home-bits i l z =
      omega (arith, transition-length (transition_of a i), ap (λ (c : Cond). length (cond_bits c)) (r.home_form i l z).off, off-bits)

  any-bits : (i : ℕ) → i < count a → length (transition_bits (transition_of a i)) ≤ 167
  any-bits i l = omega (arith, transition-length (transition_of a i), cond-bits (transition_of a i).condition, (r.fields i l).nodes)

  rows-bits : length (join_all (λ r. r) a.rows) ≤ a.states * 16
  rows-bits =
      let wide = mul-le-mul_left (length a.rows) r.outputs.1 in
      omega (arith, r.rows, rows-length a.rows a.outputs (λ i l. r.row i (omega (arith, r.rows))))

  few_bits : length (sheet_bits a) ≤ 20290
  few_bits =
      let weight = weighed a r (λ t. length (transition_bits t)) 49 167 (omega arith) home-bits any-bits in
      let most = at_most a.states (count a) r.states.0 r.transitions.1 (homes-few a r) (pairs-few a r) in
      omega (arith, sheet-length a, rows-bits, transitions-length a.transitions)

-- bits up to the byte, and no further byte
ends-length : (s : List ℕ) (at : ℕ) → ends_at s at ≡ true → length s ≡ (at + 7) / 8
unfolding ends_at
ends-length s at e = eqb-true _ _ (and-true (eqb (length s) ((at + 7) / 8)) (eqb (num_at s at ((at + 7) / 8 * 8 - at)) 0) e).0

pub few_bytes : (s : List ℕ) (a : Sheet) (end : ℕ) → read_sheet s ≡ ok a end → Rules a → length s ≤ 2537
few_bytes s a end e r =
    let said = sheet-said s a end e in
    omega (arith, ends-length s end said.ends, said.after, few_bits a r)
