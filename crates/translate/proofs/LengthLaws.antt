-- How long the code is, and each part of it; parts of the code one behind the other.
use mathlib.Core.Path.{◌≡◌, refl, sym, ap, ◌∙◌}
use mathlib.Core.Bool.{Bool, true, false}
use mathlib.Core.List.{List, [], ◌∷◌, ◌++◌, append_assoc}
use Prim.Native.Nat.{ℕ, zero, suc, ◌+◌, ◌*◌, ◌<◌}
use native.Mathlib.Omega.{arith}
use native.Mathlib.Nat.{suc-mul}
use lib.ListN.{length, length-append, get_or}
use Rattle.std.specs.List.{sum_by}
use Rattle.std.proofs.lemmas.List.Sums.{sum_by-cons}
use Rattle.condition.specs.Cond.{Cond, inp, neg, conj, disj, word_count}
use Rattle.reader.specs.Sheet.{Transition, Sheet, row_of}
use Rattle.words.specs.Word.{TRES, JMP}
use Rattle.translate.specs.Translation.{cond_code, wait_code, block, sort, blocks, row_code, state_blocks, wait_count, block_len, blocks_len, state_at, end_at, translate}
use Rattle.translate.specs.Writing.{code_of}
use Rattle.words.proofs.WordLaws.{bytes-length}
use Rattle.translate.proofs.SortLaws.{sort-sum}

-- the words of a condition, of a wait and of a block
pub cond-length : (c : Cond) → length (cond_code c) ≡ word_count c
unfolding cond_code word_count
cond-length (inp i) = refl
cond-length (neg c) = simp length-append (omega (arith, cond-length c))
cond-length (conj a b) = simp length-append (omega (arith, cond-length a, cond-length b))
cond-length (disj a b) = simp length-append (omega (arith, cond-length a, cond-length b))

pub wait-length : (w : ℕ) → length (wait_code w) ≡ wait_count w
unfolding wait_code
wait-length zero = refl
wait-length (suc w) = refl

pub block-length : (t : Transition) (to : ℕ) → length (block t to) ≡ block_len t
unfolding block block_len
block-length t to = simp length-append (omega (arith, cond-length t.condition, wait-length t.wait))

pub blocks-length : (to : ℕ → ℕ) (ts : List Transition) → length (blocks to ts) ≡ blocks_len ts
unfolding blocks blocks_len
blocks-length to [] = refl
blocks-length to (t ∷ ts) = rw (length-append, block-length, blocks-length to ts) refl

-- the blocks of two lists, one behind the other
pub blocks-append : (to : ℕ → ℕ) (ts us : List Transition) → blocks to (ts ++ us) ≡ blocks to ts ++ blocks to us
unfolding blocks
blocks-append to [] us = refl
blocks-append to (t ∷ ts) us =
    rw (blocks-append to ts us) (sym (append_assoc (block t (to t.destination)) (blocks to ts) (blocks to us)))

pub blocks_len-append : (ts us : List Transition) → blocks_len (ts ++ us) ≡ blocks_len ts + blocks_len us
unfolding blocks_len
blocks_len-append [] us = omega arith
blocks_len-append (t ∷ ts) us = omega (arith, blocks_len-append ts us)

-- sorting keeps the words
blocks_len-sum : (ts : List Transition) → blocks_len ts ≡ sum_by block_len ts
unfolding blocks_len
blocks_len-sum [] = refl
blocks_len-sum (t ∷ ts) = omega (arith, sum_by-cons block_len t ts, blocks_len-sum ts)

pub sort-blocks_len : (ts : List Transition) → blocks_len (sort ts) ≡ blocks_len ts
sort-blocks_len ts = omega (arith, blocks_len-sum ts, blocks_len-sum (sort ts), sort-sum block_len ts)

-- the words of a state's block and of all of them: every row has l outputs
abbrev pub AllLen : ℕ → List (List Bool) → Type 0
AllLen l [] = Unit {0}
AllLen l (row ∷ rows) = (length row ≡ l) × AllLen l rows

pub all-len : (l : ℕ) (rows : List (List Bool)) → ((s : ℕ) → s < length rows → length (get_or rows s []) ≡ l)
    → AllLen l rows
all-len l [] h = tt
all-len l (row ∷ rows) h = (h 0 (omega arith), all-len l rows (λ s lt. h (suc s) (omega arith)))

pub row-length : (i : ℕ) (row : List Bool) → length (row_code i row) ≡ length row
unfolding row_code
row-length i [] = refl
row-length i (true ∷ bs) = ap suc (row-length (suc i) bs)
row-length i (false ∷ bs) = ap suc (row-length (suc i) bs)

pub state-length : (end : ℕ) (row : List Bool) (rows : List (List Bool))
    → length (state_blocks end (row ∷ rows)) ≡ length row + 2 + length (state_blocks end rows)
unfolding state_blocks
state-length end row rows = rw (length-append, row-length) (omega arith)

pub states-length : (end l : ℕ) (rows : List (List Bool)) → AllLen l rows → length (state_blocks end rows)
    ≡ length rows * (l + 2)
unfolding state_blocks
states-length end l [] h = omega arith
states-length end l (row ∷ rows) h =
    rw (state-length end row rows, states-length end l rows h.1, suc-mul (length rows) (l + 2)) (omega (arith, h.0))

-- the state blocks of two lists of rows, one behind the other
pub states-append : (end : ℕ) (rows more : List (List Bool)) → state_blocks end (rows ++ more)
    ≡ state_blocks end rows ++ state_blocks end more
unfolding state_blocks
states-append end [] more = refl
states-append end (row ∷ rows) more =
    rw (states-append end rows more)
    (sym (append_assoc (row_code 0 row) (TRES ∷ JMP end ∷ state_blocks end rows) (state_blocks end more)))

-- the words of a row's part, and the word behind it
pub rows_append : (i : ℕ) (row more : List Bool)
    → row_code i (row ++ more) ≡ row_code i row ++ row_code (i + length row) more
unfolding row_code
rows_append i [] more = let e : i + 0 ≡ i = omega arith in rw e refl
rows_append i (true ∷ bs) more = let e : i + suc (length bs) ≡ suc i + length bs = omega arith in
    rw (rows_append (suc i) bs more, e) refl
rows_append i (false ∷ bs) more = let e : i + suc (length bs) ≡ suc i + length bs = omega arith in
    rw (rows_append (suc i) bs more, e) refl

-- the whole code, of a sheet with a row for each state and in it a bit for each output:
-- "the code has the sum of (6 + e + t) over transitions, plus 2 + n(l + 2) words"
module _ (a : Sheet) (rows : length a.rows ≡ a.states)
    (row : (s : ℕ) → s < a.states → length (row_of a s) ≡ a.outputs) where
  pub all-rows : AllLen a.outputs a.rows
  all-rows = all-len a.outputs a.rows (λ s lt. row s (omega arith))

  pub code-length : length (translate a) ≡ blocks_len a.transitions + 2 + a.states * (a.outputs + 2)
  unfolding translate
  code-length =
      rw (
        length-append,
        length-append,
        blocks-length (state_at a) (sort a.transitions),
        sort-blocks_len a.transitions,
        states-length (end_at a) a.outputs a.rows all-rows,
        rows,
      )
      (omega arith)

  -- END is the last word
  pub code_end : length (translate a) ≡ suc (end_at a)
  unfolding end_at state_at
  code_end = code-length ∙ omega arith

-- four bytes to a word
pub code-bytes : (a : Sheet) → length (code_of a) ≡ 4 * length (translate a)
unfolding code_of
code-bytes a = bytes-length (translate a)
