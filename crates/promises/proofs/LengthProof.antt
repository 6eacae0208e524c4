-- The length rule, for a sheet that keeps the rules.
use Rattle.std.specs.Prelude.{Ok}
use mathlib.Core.Path.{◌≡◌, refl, ap, ◌∙◌}
use mathlib.Core.Bool.{Bool, true, false}
use mathlib.Core.List.{List, [], ◌∷◌}
use Prim.Native.Nat.{ℕ, ◌+◌, ◌*◌, ◌-◌, ◌≤◌, ◌<◌}
use native.Mathlib.Omega.{arith}
use native.Mathlib.Nat.{mul-le-mul_left, mul-le-mul_right}
use borrow.Author.Tests.{leb-true, leb-false}
use lib.Dec.{leb}
use lib.ListN.{length}
use Rattle.bits.specs.Read.{ok}
use Rattle.condition.specs.Cond.{word_count}
use Rattle.reader.specs.Sheet.{Transition, Sheet, count, transition_of, sum_over}
use Rattle.reader.specs.Reading.{read_sheet}
use Rattle.rules.specs.Rules.{Rules}
use Rattle.sheet.specs.Judging.{check_sheet}
use Rattle.translate.specs.Translation.{wait_count, block_len, blocks_len, translate}
use Rattle.translate.specs.Writing.{code_of, translate_into}
use Rattle.translate.proofs.LengthLaws.{code-length, code-bytes}
use Rattle.translate.proofs.RoomLaws.{block_words}
use Rattle.promises.specs.Length.{words_of, most_words, fitting}
use Rattle.same.proofs.AcceptedLaws.{translate-is}
use Rattle.promises.proofs.RoomLaws.{home-words}

-- the sum is that of the blocks' words
pub sum-blocks : (ts : List Transition) → sum_over (λ t. 6 + word_count t.condition + wait_count t.wait) ts ≡ blocks_len ts
unfolding blocks_len block_len
sum-blocks [] = refl
sum-blocks (t ∷ ts) = ap (λ n. 6 + word_count t.condition + wait_count t.wait + n) (sum-blocks ts)

module _ (a : Sheet) (rules : Rules a) where
  pub words_are : length (translate a) ≡ words_of a
  unfolding words_of
  words_are = code-length a rules.rows rules.row ∙ rw (sum-blocks a.transitions) (omega arith)

  pub bytes-are : length (code_of a) ≡ 4 * words_of a
  bytes-are = code-bytes a ∙ ap (λ n. 4 * n) words_are

  pub fitted : (s : List ℕ) (end : ℕ) → read_sheet s ≡ ok a end → check_sheet s ≡ Ok tt → (buffer : List ℕ)
      → translate_into s buffer ≡ fitting buffer (4 * words_of a) (code_of a)
  fitted s end read acc buffer = translate-is s a end read acc buffer ∙ ap (λ n. fitting buffer n (code_of a)) bytes-are

  -- THE BOUND, by the counting of crate rules: n - 1 transitions at least lead home, and no pair of states has two
  module _ (homes : a.states - 1 ≤ count a) (pairs : count a ≤ a.states * a.states)
      (weighed : (f : Transition → ℕ) (h w : ℕ) → h ≤ w
      → ((i : ℕ) → i < count a → (transition_of a i).destination ≡ 0 → f (transition_of a i) ≤ h)
      → ((i : ℕ) → i < count a → f (transition_of a i) ≤ w)
      → sum_over f a.transitions ≤ (a.states - 1) * h + (count a - (a.states - 1)) * w) where
    weight : Transition → ℕ
    weight t = 6 + word_count t.condition + wait_count t.wait

    blocks-most : sum_over weight a.transitions ≤ (a.states - 1) * 8 + (count a - (a.states - 1)) * 53
    unfolding weight
    blocks-most =
        weighed weight 8 53 (omega arith)
        (λ i l home. unfold block_len in omega (arith, home-words (transition_of a i) (rules.home_form i l home)))
        (λ i l. unfold block_len in omega (arith, block_words (transition_of a i) (rules.fields i l).nodes))

    pub at_most : words_of a ≤ most_words
    unfolding words_of weight
    at_most = go (leb a.states 11) refl
      where
        rows : a.states * (a.outputs + 2) ≤ a.states * 18
        rows = mul-le-mul_left a.states (omega (arith, rules.outputs.1))

        go : (b : Bool) → leb a.states 11 ≡ b → words_of a ≤ most_words
        go true e =
            let few : a.states ≤ 11 = leb-true a.states 11 e in
            let square : a.states * a.states ≤ 11 * a.states = mul-le-mul_right a.states few in
            omega (arith, blocks-most, rows, rules.states.0)
        go false e = omega (arith, blocks-most, rows, leb-false a.states 11 e, rules.transitions.1)
