-- The check of code on the pieces: faults word by word, depths, and a fact of every word. Assumes nothing.
use Rattle.std.specs.Prelude.{None}
use mathlib.Core.Path.{◌≡◌, refl, sym, ap, ◌∙◌}
use mathlib.Core.Bool.{Bool, true, false, ◌||◌}
use mathlib.Core.List.{List, [], ◌∷◌, ◌++◌, append_assoc}
use Prim.Native.Nat.{ℕ, zero, suc, ◌+◌, ◌-◌, ◌*◌, ◌≤◌, ◌<◌}
use native.Mathlib.Omega.{arith}
use native.Mathlib.Nat.{add-zero, suc-add, zero-add}
use borrow.Author.Tests.{le-ltb, lt-ltb, lt-leb, ne_eqb}
use lib.Dec.{ltb}
use lib.ListN.{length, length-append}
use Rattle.std.specs.declared.option.Option.{Option}
use Rattle.condition.specs.Cond.{Cond, inp, neg, conj, disj, depth, word_count}
use Rattle.reader.specs.Sheet.{Transition}
use Rattle.format.specs.Fields.{InputsBelow, Fields}
use Rattle.scan.proofs.AllLaws.{All}
use Rattle.words.specs.Word.{Word, LDS, LDI, NOT, ANDP, ORP, PAR, R, S, RA, SA, JMPC, JMP}
use Rattle.faults.specs.Check.{opens, strays, faulty, here_or, depth_at, lands_open, first_landing}
use Rattle.faults.proofs.TextLaws.{first_among}
use Rattle.translate.specs.Translation.{cond_code, row_code, wait_count, block_len, blocks_len}
use Rattle.translate.proofs.LengthLaws.{AllLen, cond-length, row-length}
use Rattle.same.proofs.EachLaws.{Each, each_append}
use Rattle.same.specs.inside.Pieces.{block, blocks, state_blocks}
use Rattle.same.proofs.RunLaws.{OneWord, state-length}

-- FAULTS
-- these words, with nothing open, are without fault and leave nothing open
abbrev pub Passes : ℕ → List Word → Type 0
Passes n g = (pc : ℕ) (ys : List Word) → first_among n pc 0 (g ++ ys) ≡ first_among n (pc + length g) 0 ys

pub pass : {b : Bool} (pc : ℕ) (later : Option ℕ) → b ≡ false → here_or b pc later ≡ later
pass pc later e = rw e refl

pub neither : {b c : Bool} → b ≡ false → c ≡ false → b || c ≡ false
neither e f = rw (e, f) refl

pub jump : (n pc t : ℕ) → pc < t → t < n → strays n pc t || false ≡ false
jump n pc t h g = rw (lt-ltb pc t h, lt-ltb t n g) refl

depth_pos : (c : Cond) → 0 < depth c
unfolding depth
depth_pos (inp i) = omega arith
depth_pos (neg c) = omega arith
depth_pos (conj a b) = omega arith
depth_pos (disj a b) = omega arith

module _ (n k : ℕ) (few : k ≤ 16) where
  cond-ok : (c : Cond) (pc d : ℕ) (ys : List Word) → InputsBelow k c → depth c + d ≤ 9
      → first_among n pc d (cond_code c ++ ys) ≡ first_among n (pc + length (cond_code c)) d ys
  unfolding first_among faulty opens cond_code depth
  cond-ok (inp i) pc d ys h le = rw (le-ltb 15 i (omega arith)) (ap (λ p. first_among n p d ys) (omega arith))
  cond-ok (neg c) pc d ys h le =
      rw append_assoc (cond-ok c pc d (NOT ∷ ys) h (omega arith) ∙ ap (λ p. first_among n p d ys) (simp length-append (omega arith)))
  cond-ok (conj a b) pc d ys h le =
      rw (append_assoc (cond_code a), append_assoc (cond_code b))
      (cond-ok a pc d (ANDP ∷ cond_code b ++ (PAR ∷ ys)) h.0 (omega arith)
      ∙ pass _ _ (lt-leb 8 d (omega (arith, depth_pos b)))
      ∙ cond-ok b (suc (pc + length (cond_code a))) (suc d) (PAR ∷ ys) h.1 (omega arith)
      ∙ pass _ _ (ne_eqb (suc d) 0 (omega arith))
      ∙ ap (λ p. first_among n p d ys) (simp length-append (omega arith)))
  cond-ok (disj a b) pc d ys h le =
      rw (append_assoc (cond_code a), append_assoc (cond_code b))
      (cond-ok a pc d (ORP ∷ cond_code b ++ (PAR ∷ ys)) h.0 (omega arith)
      ∙ pass _ _ (lt-leb 8 d (omega (arith, depth_pos b)))
      ∙ cond-ok b (suc (pc + length (cond_code a))) (suc d) (PAR ∷ ys) h.1 (omega arith)
      ∙ pass _ _ (ne_eqb (suc d) 0 (omega arith))
      ∙ ap (λ p. first_among n p d ys) (simp length-append (omega arith)))

  module _ (states : ℕ) (up32 : states ≤ 32) where
    block-ok : (gate : List Word) (t : Transition) (to pc : ℕ) (ys : List Word) → Fields states k t → length gate ≡ wait_count t.wait → Passes n gate
        → pc + block_len t ≤ to → to < n → first_among n pc 0 (block gate t to ++ ys) ≡ first_among n (pc + block_len t) 0 ys
    unfolding first_among faulty opens block block_len
    block-ok gate t to pc ys f w passes low high =
        let e : length (cond_code t.condition) ≡ word_count t.condition = cond-length t.condition in
        let s : ltb 31 t.source ≡ false = le-ltb 31 t.source (omega (arith, f.source)) in
        let d : ltb 31 t.destination ≡ false = le-ltb 31 t.destination (omega (arith, f.destination)) in
        pass _ _ (neither s refl)
        ∙ rw (append_assoc (cond_code t.condition), append_assoc gate)
        (cond-ok t.condition (suc (suc pc)) 1 (PAR ∷ gate ++ (R t.source ∷ S t.destination ∷ JMPC to ∷ ys)) f.inputs (omega (arith, f.depth))
        ∙ passes (suc (suc (suc pc) + length (cond_code t.condition))) (R t.source ∷ S t.destination ∷ JMPC to ∷ ys)
        ∙ pass _ _ s
        ∙ pass _ _ d
        ∙ pass _ _ (jump n _ to (omega arith) high)
        ∙ ap (λ p. first_among n p 0 ys) (omega arith))

    -- each gate, i waits standing in the blocks before
    abbrev pub GatesPass : (ℕ → ℕ → List Word) → ℕ → List Transition → Type 0
    GatesPass gate i [] = Unit {0}
    GatesPass gate i (t ∷ ts) = Passes n (gate i t.wait) × GatesPass gate (i + wait_count t.wait) ts

    pub blocks-ok : (gate : ℕ → ℕ → List Word) → OneWord gate → (P : ℕ) (to : ℕ → ℕ) (low : (d : ℕ) → P ≤ to d) (high : (d : ℕ) → d < states → to d < n) (ys : List Word)
        (ts : List Transition) (i pc : ℕ) → All (Fields states k) ts → GatesPass gate i ts → pc + blocks_len ts ≡ P
        → first_among n pc 0 (blocks gate to i ts ++ ys) ≡ first_among n P 0 ys
    unfolding blocks blocks_len
    blocks-ok gate one P to low high ys [] i pc h g e = ap (λ p. first_among n p 0 ys) (omega arith)
    blocks-ok gate one P to low high ys (t ∷ ts) i pc h g e =
        rw (append_assoc (block (gate i t.wait) t (to t.destination)))
        (block-ok (gate i t.wait) t (to t.destination) pc (blocks gate to (i + wait_count t.wait) ts ++ ys) h.0 (one i t.wait) g.0 (omega (arith, low t.destination)) (high t.destination h.0.destination)
        ∙ blocks-ok gate one P to low high ys ts (i + wait_count t.wait) (pc + block_len t) h.1 g.1 (omega arith))

  row_ok : (row : List Bool) (i pc : ℕ) (ys : List Word) → i + length row ≤ 16 → first_among n pc 0 (row_code i row ++ ys) ≡ first_among n (pc + length row) 0 ys
  unfolding first_among faulty opens row_code
  row_ok [] i pc ys h = rw (add-zero pc) refl
  row_ok (true ∷ bs) i pc ys h =
      pass _ _ (le-ltb 15 i (omega arith)) ∙ row_ok bs (suc i) (suc pc) ys (omega arith) ∙ ap (λ p. first_among n p 0 ys) (omega arith)
  row_ok (false ∷ bs) i pc ys h =
      pass _ _ (le-ltb 15 i (omega arith)) ∙ row_ok bs (suc i) (suc pc) ys (omega arith) ∙ ap (λ p. first_among n p 0 ys) (omega arith)

  pub states-ok : (last : List Word) → Passes n last → (end l : ℕ) (ys : List Word) (rows : List (List Bool)) (pc : ℕ) → l ≤ 16 → AllLen l rows
      → pc + length (state_blocks last end rows) ≡ end → end < n → first_among n pc 0 (state_blocks last end rows ++ ys) ≡ first_among n end 0 ys
  unfolding first_among faulty opens state_blocks
  states-ok last passes end l ys [] pc small h e lt = ap (λ p. first_among n p 0 ys) (omega arith)
  states-ok last passes end l ys (row ∷ rows) pc small h e lt =
      rw (append_assoc (row_code 0 row), append_assoc last)
      (row_ok row 0 pc (last ++ (JMP end ∷ state_blocks last end rows ++ ys)) (omega (arith, h.0))
      ∙ passes (pc + length row) (JMP end ∷ state_blocks last end rows ++ ys)
      ∙ pass _ _ (jump n _ end (omega (arith, state-length last end row rows)) lt)
      ∙ states-ok last passes end l ys rows (suc (pc + length row + length last)) small h.1 (omega (arith, state-length last end row rows)) lt)

-- DEPTHS
-- words that open and close nothing
abbrev pub Level : List Word → Type 0
Level xs = Each (λ i. opens i 0 ≡ 0) xs

pub level-flat : (xs : List Word) → Level xs → (k : ℕ) → depth_at 0 xs k ≡ 0
unfolding depth_at
level-flat [] h k = refl
level-flat (i ∷ xs) h zero = refl
level-flat (i ∷ xs) h (suc k) = rw h.0 (level-flat xs h.1 k)

pub level-skip : (xs ys : List Word) (m k : ℕ) → Level xs → m ≡ length xs + k → depth_at 0 (xs ++ ys) m ≡ depth_at 0 ys k
unfolding depth_at
level-skip [] ys m k h e = ap (depth_at 0 ys) (omega arith)
level-skip (i ∷ xs) ys zero k h e = absurd (omega arith)
level-skip (i ∷ xs) ys (suc m) k h e = ap (λ d. depth_at d (xs ++ ys) m) h.0 ∙ level-skip xs ys m k h.1 (omega arith)

cond-depth : (c : Cond) (d : ℕ) (ys : List Word) (m k : ℕ) → m ≡ length (cond_code c) + k → depth_at d (cond_code c ++ ys) m ≡ depth_at d ys k
unfolding depth_at opens cond_code
cond-depth (inp i) d ys m k e = ap (depth_at d (LDI i ∷ ys)) e ∙ ap (depth_at d (LDI i ∷ ys)) (suc-add 0 k ∙ ap suc (zero-add k))
cond-depth (neg c) d ys m k e =
    rw append_assoc (cond-depth c d (NOT ∷ ys) m (suc k) (e ∙ simp length-append (omega arith)))
cond-depth (conj a b) d ys m k e =
    rw (append_assoc (cond_code a), append_assoc (cond_code b))
    (cond-depth a d (ANDP ∷ cond_code b ++ (PAR ∷ ys)) m (suc (length (cond_code b) + suc k)) (e ∙ simp length-append (omega arith))
    ∙ cond-depth b (suc d) (PAR ∷ ys) (length (cond_code b) + suc k) (suc k) refl)
cond-depth (disj a b) d ys m k e =
    rw (append_assoc (cond_code a), append_assoc (cond_code b))
    (cond-depth a d (ORP ∷ cond_code b ++ (PAR ∷ ys)) m (suc (length (cond_code b) + suc k)) (e ∙ simp length-append (omega arith))
    ∙ cond-depth b (suc d) (PAR ∷ ys) (length (cond_code b) + suc k) (suc k) refl)

block-depth : (gate : List Word) (t : Transition) (to : ℕ) (ys : List Word) (m k : ℕ) → length gate ≡ wait_count t.wait → Level gate → m ≡ block_len t + k
    → depth_at 0 (block gate t to ++ ys) m ≡ depth_at 0 ys k
unfolding depth_at opens block block_len
block-depth gate t to ys m k w level e =
    let c : length (cond_code t.condition) ≡ word_count t.condition = cond-length t.condition in
    let C : ℕ = length (cond_code t.condition) in
    let W : ℕ = length gate in
    let f : m ≡ suc (suc (C + suc (W + suc (suc (suc k))))) = omega arith in
    rw (f, append_assoc (cond_code t.condition), append_assoc gate)
    (cond-depth t.condition 1 (PAR ∷ gate ++ (R t.source ∷ S t.destination ∷ JMPC to ∷ ys)) (C + suc (W + suc (suc (suc k)))) (suc (W + suc (suc (suc k)))) refl
    ∙ level-skip gate (R t.source ∷ S t.destination ∷ JMPC to ∷ ys) (W + suc (suc (suc k))) (suc (suc (suc k))) level refl)

pub blocks-depth : (gate : ℕ → ℕ → List Word) → OneWord gate → ((i w : ℕ) → Level (gate i w)) → (to : ℕ → ℕ) (ts : List Transition) (i : ℕ) (ys : List Word) (m k : ℕ)
    → m ≡ blocks_len ts + k → depth_at 0 (blocks gate to i ts ++ ys) m ≡ depth_at 0 ys k
unfolding blocks blocks_len
blocks-depth gate one level to [] i ys m k e = ap (depth_at 0 ys) (omega arith)
blocks-depth gate one level to (t ∷ ts) i ys m k e =
    rw (append_assoc (block (gate i t.wait) t (to t.destination)))
    (block-depth (gate i t.wait) t (to t.destination) (blocks gate to (i + wait_count t.wait) ts ++ ys) m (blocks_len ts + k) (one i t.wait) (level i t.wait) (omega arith)
    ∙ blocks-depth gate one level to ts (i + wait_count t.wait) ys (blocks_len ts + k) k refl)

-- EVERY WORD
-- the words that both translations are made of
pub record Rows (l end : ℕ) (P : Word → Type 0) : Type 0 where
  pub on : (i : ℕ) → i < l → P (SA i)
  pub off : (i : ℕ) → i < l → P (RA i)
  pub done : P (JMP end)

pub record Kinds (k states : ℕ) (to : ℕ → ℕ) (P : Word → Type 0) : Type 0 where
  pub input : (i : ℕ) → i < k → P (LDI i)
  pub turn : P NOT
  pub both : P ANDP
  pub either : P ORP
  pub join : P PAR
  pub load : (s : ℕ) → s < states → P (LDS s)
  pub leave : (s : ℕ) → s < states → P (R s)
  pub enter : (s : ℕ) → s < states → P (S s)
  pub go : (d : ℕ) → d < states → P (JMPC (to d))

module _ (k states : ℕ) (to : ℕ → ℕ) (P : Word → Type 0) (kinds : Kinds k states to P) where
  each-cond : (c : Cond) → InputsBelow k c → Each P (cond_code c)
  unfolding cond_code
  each-cond (inp i) h = (kinds.input i h, tt)
  each-cond (neg c) h = each_append P (cond_code c) (NOT ∷ []) (each-cond c h) (kinds.turn, tt)
  each-cond (conj b c) h =
      each_append P (cond_code b) (ANDP ∷ cond_code c ++ (PAR ∷ [])) (each-cond b h.0)
      (kinds.both, each_append P (cond_code c) (PAR ∷ []) (each-cond c h.1) (kinds.join, tt))
  each-cond (disj b c) h =
      each_append P (cond_code b) (ORP ∷ cond_code c ++ (PAR ∷ [])) (each-cond b h.0)
      (kinds.either, each_append P (cond_code c) (PAR ∷ []) (each-cond c h.1) (kinds.join, tt))

  abbrev pub GatesEach : (ℕ → ℕ → List Word) → ℕ → List Transition → Type 0
  GatesEach gate i [] = Unit {0}
  GatesEach gate i (t ∷ ts) = Each P (gate i t.wait) × GatesEach gate (i + wait_count t.wait) ts

  pub each-blocks : (gate : ℕ → ℕ → List Word) (ts : List Transition) (i : ℕ) → All (Fields states k) ts → GatesEach gate i ts → Each P (blocks gate to i ts)
  unfolding blocks block
  each-blocks gate [] i h g = tt
  each-blocks gate (t ∷ ts) i h g =
      let rest : List Word = R t.source ∷ S t.destination ∷ JMPC (to t.destination) ∷ [] in
      each_append P (block (gate i t.wait) t (to t.destination)) (blocks gate to (i + wait_count t.wait) ts) (
        kinds.load t.source h.0.source,
        (
          kinds.both,
          each_append P (cond_code t.condition) (PAR ∷ gate i t.wait ++ rest) (each-cond t.condition h.0.inputs)
              (kinds.join, each_append P (gate i t.wait) rest g.0 (kinds.leave t.source h.0.source, (kinds.enter t.destination h.0.destination, (kinds.go t.destination h.0.destination, tt)))),
        ),
      )
      (each-blocks gate ts (i + wait_count t.wait) h.1 g.1)

module _ (l end : ℕ) (P : Word → Type 0) (rows : Rows l end P) where
  each_row : (i : ℕ) (row : List Bool) → i + length row ≤ l → Each P (row_code i row)
  unfolding row_code
  each_row i [] h = tt
  each_row i (true ∷ bs) h = (rows.on i (omega arith), each_row (suc i) bs (omega arith))
  each_row i (false ∷ bs) h = (rows.off i (omega arith), each_row (suc i) bs (omega arith))

  pub each-states : (last : List Word) → Each P last → (rs : List (List Bool)) → AllLen l rs → Each P (state_blocks last end rs)
  unfolding state_blocks
  each-states last g [] h = tt
  each-states last g (row ∷ rs) h =
      each_append P (row_code 0 row) (last ++ (JMP end ∷ state_blocks last end rs)) (each_row 0 row (omega (arith, h.0)))
      (each_append P last (JMP end ∷ state_blocks last end rs) g (rows.done, each-states last g rs h.1))

-- no jump of these lands where a parenthesis is open
pub no-landing : (code : List Word) (pc : ℕ) (is : List Word) → Each (λ i. lands_open code i ≡ false) is → first_landing code pc is ≡ None
unfolding first_landing
no-landing code pc [] h = refl
no-landing code pc (i ∷ is) h = rw h.0 (no-landing code (suc pc) is h.1)
