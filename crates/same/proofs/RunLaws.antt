-- The machine on the pieces of code: a condition, a block with any gate, all blocks, the states' blocks with any last words. Assumes nothing.
use mathlib.Core.Path.{◌≡◌, refl, ap, ◌∙◌}
use mathlib.Core.Bool.{Bool, true, false, not, ◌&&◌, ◌||◌, cond}
use mathlib.Core.List.{List, [], ◌∷◌, ◌++◌, append_assoc}
use Prim.Native.Nat.{ℕ, zero, suc, ◌+◌, ◌-◌, ◌*◌, ◌≤◌, ◌<◌}
use native.Mathlib.Omega.{arith}
use native.Mathlib.Nat.{add_assoc, add-zero, add-suc, suc-add, zero-mul, suc-mul}
use lib.ListN.{length, length-append, get_or}
use Rattle.bits.specs.Word.{get_bit}
use Rattle.bits.proofs.WordLaws.{put_all}
use Rattle.condition.specs.Cond.{Cond, inp, neg, conj, disj, eval, word_count}
use Rattle.reader.specs.Sheet.{Transition}
use Rattle.scan.specs.Scan.{Choice, none, some}
use Rattle.scan.proofs.ChoiceLaws.{first}
use Rattle.machine.specs.Machine.{Mach, Out, exec, Frame, and_f, or_f, flag_to, out_to, with_outputs}
use Rattle.translate.specs.Translation.{cond_code, row_code, wait_count, block_len, blocks_len}
use Rattle.translate.proofs.LengthLaws.{AllLen, cond-length, row-length}
use Rattle.same.specs.Same.{spent}
use Rattle.words.specs.Word.{Word, NOT, ANDP, ORP, PAR, R, S, JMPC, JMP}
use Rattle.same.specs.inside.Pieces.{block, blocks, state_blocks}

-- LENGTHS
-- a gate has one word with a wait, else none
abbrev pub OneWord : (ℕ → ℕ → List Word) → Type 0
OneWord gate = (i w : ℕ) → length (gate i w) ≡ wait_count w

pub blocks-length : (gate : ℕ → ℕ → List Word) → OneWord gate → (to : ℕ → ℕ) (i : ℕ) (ts : List Transition)
    → length (blocks gate to i ts) ≡ blocks_len ts
unfolding blocks blocks_len block block_len
blocks-length gate one to i [] = refl
blocks-length gate one to i (t ∷ ts) =
    simp length-append
    (omega (arith, cond-length t.condition, one i t.wait, blocks-length gate one to (i + wait_count t.wait) ts))

pub state-length : (last : List Word) (end : ℕ) (row : List Bool) (rows : List (List Bool))
    → length (state_blocks last end (row ∷ rows)) ≡ length row + suc (length last) + length (state_blocks last end rows)
unfolding state_blocks
state-length last end row rows = simp length-append (omega (arith, row-length 0 row))

pub states-length : (last : List Word) (end l : ℕ) (rows : List (List Bool)) → AllLen l rows
    → length (state_blocks last end rows) ≡ length rows * (l + suc (length last))
unfolding state_blocks
states-length last end l [] h = omega arith
states-length last end l (row ∷ rows) h =
    rw (state-length last end row rows, states-length last end l rows h.1, suc-mul (length rows) (l + suc (length last))) (omega (arith, h.0))

-- RUNS
-- both numbers of a run, moved
pub run_at : (x : ℕ) (ys : List Word) (k : ℕ) (r : Mach) (a : Bool) (st : List Frame) {p q n m : ℕ} → p ≡ q → n ≡ m
    → exec x p ys k r a st n ≡ exec x q ys k r a st m
run_at x ys k r a st {p} {q} {n} {m} e f = ap (λ u. exec x u ys k r a st n) e ∙ ap (λ u. exec x q ys k r a st u) f

-- the code of a condition leaves record and stack, and the result is the condition's value
pub cond-run : (x : ℕ) (c : Cond) (pc : ℕ) (ys : List Word) (r : Mach) (a : Bool) (st : List Frame) (n : ℕ)
    → exec x pc (cond_code c ++ ys) 0 r a st n ≡ exec x (pc + length (cond_code c)) ys 0 r (eval x c) st (n + length (cond_code c))
unfolding exec cond_code eval
cond-run x (inp i) pc ys r a st n = run_at x ys 0 r (eval x (inp i)) st (omega arith) (omega arith)
cond-run x (neg c) pc ys r a st n =
    rw append_assoc
    (cond-run x c pc (NOT ∷ ys) r a st n
    ∙ run_at x ys 0 r (not (eval x c)) st (simp length-append (omega arith)) (simp length-append (omega arith)))
cond-run x (conj c d) pc ys r a st n =
    rw (append_assoc (cond_code c), append_assoc (cond_code d))
    (cond-run x c pc (ANDP ∷ cond_code d ++ (PAR ∷ ys)) r a st n
    ∙ cond-run x d (suc (pc + length (cond_code c))) (PAR ∷ ys) r (eval x c) (and_f (eval x c) ∷ st) (suc (n + length (cond_code c)))
    ∙ run_at x ys 0 r (eval x c && eval x d) st (simp length-append (omega arith)) (simp length-append (omega arith)))
cond-run x (disj c d) pc ys r a st n =
    rw (append_assoc (cond_code c), append_assoc (cond_code d))
    (cond-run x c pc (ORP ∷ cond_code d ++ (PAR ∷ ys)) r a st n
    ∙ cond-run x d (suc (pc + length (cond_code c))) (PAR ∷ ys) r (eval x c) (or_f (eval x c) ∷ st) (suc (n + length (cond_code c)))
    ∙ run_at x ys 0 r (eval x c || eval x d) st (simp length-append (omega arith)) (simp length-append (omega arith)))

-- the words of xs are passed over
pub skip : (x pc : ℕ) (xs ys : List Word) (k : ℕ) (r : Mach) (a : Bool) (st : List Frame) (n : ℕ)
    → exec x pc (xs ++ ys) (length xs + k) r a st n ≡ exec x (pc + length xs) ys k r a st n
unfolding exec
skip x pc [] ys k r a st n = rw (zero-add k, add-zero pc) refl
  where
    zero-add : (k : ℕ) → 0 + k ≡ k
    zero-add k = omega arith
skip x pc (i ∷ xs) ys k r a st n =
    rw (suc-add (length xs) k, add-suc pc (length xs), ← suc-add pc (length xs)) (skip x (suc pc) xs ys k r a st n)

-- the same, with the numbers as equations: a jump over xs
pub hop : (x pc : ℕ) (xs ys : List Word) (m k q : ℕ) (r : Mach) (a : Bool) (st : List Frame) (n : ℕ)
    → m ≡ length xs + k → pc + length xs ≡ q → exec x pc (xs ++ ys) m r a st n ≡ exec x q ys k r a st n
hop x pc xs ys m k q r a st n e f =
    ap (λ u. exec x pc (xs ++ ys) u r a st n) e ∙ skip x pc xs ys k r a st n ∙ ap (λ p. exec x p ys k r a st n) f

-- the words g make the result b of a, and leave the rest
abbrev pub Turns : ℕ → Mach → List Word → Bool → Bool → Type 0
Turns x r g a b = (pc : ℕ) (ys : List Word) (n : ℕ) → exec x pc (g ++ ys) 0 r a [] n ≡ exec x (pc + length g) ys 0 r b [] (n + length g)

unfoldable pub moved : Bool → Mach → Transition → Mach
moved f r t = flag_to f (flag_to f r t.source false) t.destination true

-- what the gate of a block starts from
abbrev pub asked : ℕ → Mach → Transition → Bool
asked x r t = get_bit r.flags t.source && eval x t.condition

-- a block: where its transition fires, its flags are moved and the jump is taken
pub block_run : (x : ℕ) (gate : List Word) (t : Transition) (to pc : ℕ) (ys : List Word) (r : Mach) (a f : Bool) (n : ℕ)
    → length gate ≡ wait_count t.wait → Turns x r gate (asked x r t) f
    → exec x pc (block gate t to ++ ys) 0 r a [] n
    ≡ exec x (pc + block_len t) ys (cond f (to - (pc + block_len t)) 0) (moved f r t) f [] (n + block_len t)
unfolding exec block block_len moved
block_run x gate t to pc ys r a f n w turns =
    let e : length (cond_code t.condition) ≡ word_count t.condition = cond-length t.condition in
    rw (append_assoc (cond_code t.condition), append_assoc gate)
    (cond-run x t.condition (suc (suc pc)) (PAR ∷ gate ++ (R t.source ∷ S t.destination ∷ JMPC to ∷ ys)) r
    (get_bit r.flags t.source) (and_f (get_bit r.flags t.source) ∷ []) (suc (suc n))
    ∙ turns (suc (suc (suc pc) + length (cond_code t.condition))) (R t.source ∷ S t.destination ∷ JMPC to ∷ ys) (suc (suc (suc n) + length (cond_code t.condition)))
    ∙ ap (λ p. exec x p ys (cond f (to - p) 0) (moved f r t) f []
    (suc (suc (suc (suc (suc (suc n) + length (cond_code t.condition)) + length gate))))) (omega arith)
    ∙ ap (λ m. exec x (pc + block_len t) ys (cond f (to - (pc + block_len t)) 0) (moved f r t) f [] m) (omega arith))

-- each block's gate makes f of its transition, i waits standing in the blocks before
abbrev pub Gates : ℕ → Mach → (ℕ → ℕ → List Word) → (Transition → Bool) → ℕ → List Transition → Type 0
Gates x r gate f i [] = Unit {0}
Gates x r gate f i (t ∷ ts) = Turns x r (gate i t.wait) (asked x r t) (f t) × Gates x r gate f (i + wait_count t.wait) ts

-- after the blocks, P being the word after them: on to the next word, or at a state's block
unfoldable pub landed : ℕ → ℕ → List Word → (ℕ → ℕ) → Mach → ℕ → Choice → Out
landed x P ys to r n none = exec x P ys 0 r false [] n
landed x P ys to r n (some t) = exec x P ys (to t.destination - P) (moved true r t) true [] n

module _ (x : ℕ) (gate : ℕ → ℕ → List Word) (one : OneWord gate) (P : ℕ) (to : ℕ → ℕ) (low : (d : ℕ) → P ≤ to d) (ys : List Word) (r : Mach)
    (f : Transition → Bool) where
  pub blocks-run : (ts : List Transition) (i pc n : ℕ) (a : Bool) → Gates x r gate f i ts
      → pc + blocks_len ts ≡ P → (ts ≡ [] → a ≡ false)
      → exec x pc (blocks gate to i ts ++ ys) 0 r a [] n ≡ landed x P ys to r (n + spent f ts) (first f ts)
  unfolding blocks blocks_len first spent landed
  blocks-run [] i pc n a h e z = rw (z refl) (run_at x ys 0 r false [] (omega arith) (omega arith))
  blocks-run (t ∷ ts) i pc n a h e z =
      rw (append_assoc (block (gate i t.wait) t (to t.destination)), ← add_assoc n (block_len t))
      (block_run x (gate i t.wait) t (to t.destination) pc (blocks gate to (i + wait_count t.wait) ts ++ ys) r a (f t) n (one i t.wait) h.0
      ∙ step (f t) (blocks-run ts (i + wait_count t.wait) (pc + block_len t) (n + block_len t) false h.1 (omega arith) (λ q. refl)))
    where
      j : ℕ
      j = i + wait_count t.wait

      step : (b : Bool) → exec x (pc + block_len t) (blocks gate to j ts ++ ys) 0 r false [] (n + block_len t)
          ≡ landed x P ys to r (n + block_len t + spent f ts) (first f ts)
          → exec x (pc + block_len t) (blocks gate to j ts ++ ys) (cond b (to t.destination - (pc + block_len t)) 0) (moved b r t) b [] (n + block_len t)
          ≡ landed x P ys to r (n + block_len t + cond b 0 (spent f ts)) (cond b (some t) (first f ts))
      step true ih =
          rw (add-zero (n + block_len t))
          (hop x (pc + block_len t) (blocks gate to j ts) ys (to t.destination - (pc + block_len t)) (to t.destination - P) P (moved true r t) true [] (n + block_len t)
          (omega (arith, blocks-length gate one to j ts, low t.destination)) (omega (arith, blocks-length gate one to j ts)))
      step false ih = unfold moved flag_to in ih

pub row-run : (x : ℕ) (row : List Bool) (i pc : ℕ) (ys : List Word) (r : Mach) (st : List Frame) (n : ℕ)
    → exec x pc (row_code i row ++ ys) 0 r true st n
    ≡ exec x (pc + length row) ys 0 (with_outputs r (put_all r.outputs i row)) true st (n + length row)
unfolding exec row_code put_all out_to
row-run x [] i pc ys r st n = rw (add-zero pc, add-zero n) refl
row-run x (true ∷ bs) i pc ys r st n =
    row-run x bs (suc i) (suc pc) ys (out_to true r i true) st (suc n)
    ∙ run_at x ys 0 (with_outputs r (put_all r.outputs i (true ∷ bs))) true st (omega arith) (omega arith)
row-run x (false ∷ bs) i pc ys r st n =
    row-run x bs (suc i) (suc pc) ys (out_to true r i false) st (suc n)
    ∙ run_at x ys 0 (with_outputs r (put_all r.outputs i (false ∷ bs))) true st (omega arith) (omega arith)

-- the last words of a state's block, with the result true, make `done` of the record
abbrev pub Lasts : ℕ → List Word → (Mach → Mach) → Type 0
Lasts x last done =
    (pc : ℕ) (ys : List Word) (r : Mach) (n : ℕ) → exec x pc (last ++ ys) 0 r true [] n ≡ exec x (pc + length last) ys 0 (done r) true [] (n + length last)

-- a state's block, from the first of them on, up to the word `end` that stands behind them
module _ (x : ℕ) (last : List Word) (done : Mach → Mach) (lasts : Lasts x last done) (end l : ℕ) (ys : List Word) where
  pub state-run : (rows : List (List Bool)) (d pc : ℕ) (r : Mach) (n : ℕ) → AllLen l rows → d < length rows
      → pc + length (state_blocks last end rows) ≡ end
      → exec x pc (state_blocks last end rows ++ ys) (d * (l + suc (length last))) r true [] n
      ≡ exec x end ys 0 (done (with_outputs r (put_all r.outputs 0 (get_or rows d [])))) true [] (n + (l + suc (length last)))
  unfolding state_blocks exec
  state-run [] d pc r n h lt e = absurd (omega arith)
  state-run (row ∷ rows) zero pc r n h lt e =
      rw (zero-mul (l + suc (length last)), append_assoc (row_code 0 row), append_assoc last)
      (row-run x row 0 pc (last ++ (JMP end ∷ state_blocks last end rows ++ ys)) r [] n
      ∙ lasts (pc + length row) (JMP end ∷ state_blocks last end rows ++ ys) (with_outputs r (put_all r.outputs 0 row)) (n + length row)
      ∙ hop x (suc (pc + length row + length last)) (state_blocks last end rows) ys (end - suc (pc + length row + length last)) 0 end
      (done (with_outputs r (put_all r.outputs 0 row))) true [] (suc (n + length row + length last)) (omega (arith, state-length last end row rows)) (omega (arith, state-length last end row rows))
      ∙ ap (λ m. exec x end ys 0 (done (with_outputs r (put_all r.outputs 0 row))) true [] m) (omega (arith, h.0)))
  state-run (row ∷ rows) (suc d) pc r n h lt e =
      rw (append_assoc (row_code 0 row), append_assoc last)
      (hop x pc (row_code 0 row) (last ++ (JMP end ∷ state_blocks last end rows ++ ys)) (suc d * (l + suc (length last))) (length last + suc (d * (l + suc (length last)))) (pc + length row) r true [] n
      (omega (arith, row-length 0 row, h.0, suc-mul d (l + suc (length last)))) (omega (arith, row-length 0 row))
      ∙ skip x (pc + length row) last (JMP end ∷ state_blocks last end rows ++ ys) (suc (d * (l + suc (length last)))) r true [] n
      ∙ state-run rows d (suc (pc + length row + length last)) r n h.1 (omega arith) (omega (arith, state-length last end row rows)))
