-- The translation passes the check of code. Assumes nothing.
use Rattle.std.specs.Prelude.{Ok, None}
use mathlib.Core.Path.{◌≡◌, refl, sym, ap, ◌∙◌}
use mathlib.Core.Bool.{Bool, true, false}
use mathlib.Core.List.{List, [], ◌∷◌, ◌++◌, append_assoc}
use Prim.Native.Nat.{ℕ, zero, suc, ◌+◌, ◌*◌, ◌≤◌, ◌<◌}
use native.Mathlib.Omega.{arith}
use native.Mathlib.Nat.{add-zero, zero-add}
use lib.Dec.{ltb}
use lib.ListN.{length}
use Rattle.reader.specs.Sheet.{Transition, Sheet}
use Rattle.format.specs.Fields.{Fields}
use Rattle.rules.specs.Rules.{Rules}
use Rattle.scan.proofs.AllLaws.{All}
use Rattle.words.specs.Word.{Word, END, JMP, ANDT, TRES, operand}
use Rattle.words.proofs.WordLaws.{Fit}
use Rattle.faults.specs.Check.{opens, faulty, depth_at, lands_open, check_code}
use Rattle.faults.proofs.TextLaws.{first_among, passes}
use Rattle.translate.specs.Translation.{wait_code, wait_count, sort, blocks_len, state_at, end_at, translate}
use Rattle.translate.specs.Writing.{code_of}
use Rattle.translate.proofs.LengthLaws.{all-rows, sort-blocks_len, code_end}
use Rattle.translate.proofs.SortLaws.{all-sort}
use Rattle.translate.proofs.RoomLaws.{state-words}
use Rattle.same.specs.inside.Pieces.{blocks, state_blocks, clock_gate}
use Rattle.same.proofs.EachLaws.{Each, each_append, all-fields}
use Rattle.same.proofs.CheckLaws.{
  Passes,
  pass,
  jump,
  GatesPass,
  blocks-ok,
  states-ok,
  Level,
  level-flat,
  blocks-depth,
  Rows,
  Kinds,
  GatesEach,
  each-blocks,
  each-states,
  no-landing,
}
use Rattle.same.proofs.PiecesLaws.{wait-one, ending, translate-is}
use Rattle.same.proofs.RoomLaws.{end-words}
use Rattle.same.proofs.SameProof.{end_of, low}

-- a fact of each kind of word that a sheet's translation has
pub record Words (a : Sheet) (P : Word → Type 0) : Type 0 where
  pub kinds : Kinds a.inputs a.states (state_at a) P
  pub rows : Rows a.outputs (end_at a) P
  pub wait : (w : ℕ) → w < 16777216 → P (ANDT w)
  pub zeroed : P TRES
  pub end : P END

wait-passes : (n w : ℕ) → Passes n (wait_code w)
unfolding wait_code first_among faulty opens
wait-passes n zero = λ pc ys. rw (add-zero pc) refl
wait-passes n (suc w) = λ pc ys. ap (λ p. first_among n p 0 ys) (omega arith)

wait-level : (i w : ℕ) → Level (clock_gate i w)
unfolding wait_code opens
wait-level i zero = tt
wait-level i (suc w) = (refl, tt)

tres-passes : (n : ℕ) → Passes n (TRES ∷ [])
unfolding first_among faulty opens
tres-passes n pc ys = ap (λ p. first_among n p 0 ys) (omega arith)

fits : (is : List Word) → Each (λ i. operand i < 16777216) is → Fit is
fits [] h = tt
fits (i ∷ is) h = (h.0, fits is h.1)

module _ (a : Sheet) (rules : Rules a) where
  fields : All (Fields a.states a.inputs) (sort a.transitions)
  fields = all-sort (Fields a.states a.inputs) a.transitions (all-fields a rules)

  -- a fact of every word, from the fact of each kind
  module _ (P : Word → Type 0) (facts : Words a P) where
    each-wait : (w : ℕ) → w < 16777216 → Each P (wait_code w)
    unfolding wait_code
    each-wait zero h = tt
    each-wait (suc w) h = (facts.wait (suc w) h, tt)

    each-gate : (ts : List Transition) (i : ℕ) → All (Fields a.states a.inputs) ts
        → GatesEach a.inputs a.states (state_at a) P facts.kinds clock_gate i ts
    each-gate [] i h = tt
    each-gate (t ∷ ts) i h = (each-wait t.wait h.0.wait, each-gate ts (i + wait_count t.wait) h.1)

    each-ending : Each P (ending a)
    each-ending = (
      facts.rows.done,
      each_append P (state_blocks (TRES ∷ []) (end_at a) a.rows) (END ∷ [])
          (each-states a.outputs (end_at a) P facts.rows (TRES ∷ []) (facts.zeroed, tt) a.rows
          (all-rows a rules.rows rules.row)) (facts.end, tt),
    )

    pub each-code : Each P (translate a)
    each-code =
        rw (translate-is a)
        (each_append P (blocks clock_gate (state_at a) 0 (sort a.transitions)) (ending a)
        (each-blocks a.inputs a.states (state_at a) P facts.kinds clock_gate (sort a.transitions) 0 fields
        (each-gate (sort a.transitions) 0 fields)) each-ending)

  gates-pass : (n : ℕ) (ts : List Transition) (i : ℕ)
      → GatesPass n a.inputs rules.inputs.1 a.states rules.states.1 clock_gate i ts
  gates-pass n [] i = tt
  gates-pass n (t ∷ ts) i = (wait-passes n t.wait, gates-pass n ts (i + wait_count t.wait))

  -- no word is at fault
  words-ok : (n : ℕ) → n ≡ suc (end_at a) → first_among n 0 0 (translate a) ≡ None
  unfolding first_among faulty opens
  words-ok n e =
      ap (first_among n 0 0) (translate-is a)
      ∙ blocks-ok n a.inputs rules.inputs.1 a.states rules.states.1 clock_gate wait-one (blocks_len a.transitions)
      (state_at a) (low a rules) (λ d h. omega (arith, state-words a d (omega arith))) (ending a) (sort a.transitions) 0 0
      fields (gates-pass n (sort a.transitions) 0) (zero-add _ ∙ sort-blocks_len a.transitions)
      ∙ pass _ _ (jump n (blocks_len a.transitions) (end_at a) (omega (arith, end_of a rules)) (omega arith))
      ∙ states-ok n a.inputs rules.inputs.1 (TRES ∷ []) (tres-passes n) (end_at a) a.outputs (END ∷ []) a.rows
      (suc (blocks_len a.transitions)) rules.outputs.1 (all-rows a rules.rows rules.row)
      (omega (arith, end_of a rules)) (omega arith)

  -- a state's block begins where no parenthesis is open
  ending-level : Level (ending a)
  unfolding opens
  ending-level = (
    refl,
    each_append (λ i. opens i 0 ≡ 0) (state_blocks (TRES ∷ []) (end_at a) a.rows) (END ∷ [])
        (each-states a.outputs (end_at a) (λ i. opens i 0 ≡ 0)
        (record { on = λ i h. refl; off = λ i h. refl; done = refl }) (TRES ∷ []) (refl, tt) a.rows
        (all-rows a rules.rows rules.row)) (refl, tt),
  )

  at-flat : (d : ℕ) → depth_at 0 (translate a) (state_at a d) ≡ 0
  unfolding state_at
  at-flat d =
      let k = 1 + d * (a.outputs + 2) in
      ap (λ is. depth_at 0 is (state_at a d)) (translate-is a)
      ∙ blocks-depth clock_gate wait-one wait-level (state_at a) (sort a.transitions) 0 (ending a) (state_at a d) k
      (omega (arith, sort-blocks_len a.transitions))
      ∙ level-flat (ending a) ending-level k

  flat : (to : ℕ) → depth_at 0 (translate a) to ≡ 0 → ltb 0 (depth_at 0 (translate a) to) ≡ false
  flat to e = rw e refl

  -- no jump lands inside a parenthesis
  lands-ok : Each (λ i. lands_open (translate a) i ≡ false) (translate a)
  unfolding lands_open end_at
  lands-ok = each-code (λ i. lands_open (translate a) i ≡ false) (record {
    kinds = record {
      input = λ i h. refl;
      turn = refl;
      both = refl;
      either = refl;
      join = refl;
      load = λ s h. refl;
      leave = λ s h. refl;
      enter = λ s h. refl;
      go = λ d h. flat (state_at a d) (at-flat d);
    };
    rows = record {
      on = λ i h. refl;
      off = λ i h. refl;
      done = flat (state_at a a.states) (at-flat a.states);
    };
    wait = λ w h. refl;
    zeroed = refl;
    end = refl;
  })

  -- every operand fits its 24 bits
  pub fit : Fit (translate a)
  unfolding operand
  fit = fits (translate a) (each-code (λ i. operand i < 16777216) (record {
    kinds = record {
      input = λ i h. omega (arith, rules.inputs.1);
      turn = omega arith;
      both = omega arith;
      either = omega arith;
      join = omega arith;
      load = λ s h. omega (arith, rules.states.1);
      leave = λ s h. omega (arith, rules.states.1);
      enter = λ s h. omega (arith, rules.states.1);
      go = λ d h. omega (arith, state-words a d (omega arith), end-words a rules);
    };
    rows = record {
      on = λ i h. omega (arith, rules.outputs.1);
      off = λ i h. omega (arith, rules.outputs.1);
      done = omega (arith, end-words a rules);
    };
    wait = λ w h. h;
    zeroed = omega arith;
    end = omega arith;
  }))

  -- all but END
  front : List Word
  front = blocks clock_gate (state_at a) 0 (sort a.transitions) ++ (JMP (end_at a) ∷ state_blocks (TRES ∷ []) (end_at a) a.rows)

  front-is : translate a ≡ front ++ END ∷ []
  unfolding front
  front-is =
      translate-is a
      ∙ sym (append_assoc (blocks clock_gate (state_at a) 0 (sort a.transitions))
      (JMP (end_at a) ∷ state_blocks (TRES ∷ []) (end_at a) a.rows) (END ∷ []))

  -- the translation is accepted
  pub check-code : check_code (code_of a) ≡ Ok tt
  unfolding code_of
  check-code =
      let long : length (translate a) ≡ suc (end_at a) = code_end a rules.rows rules.row in
      let few : length (translate a) ≤ 8192 = omega (arith, end-words a rules) in
      let sound : first_among (length (translate a)) 0 0 (translate a) ≡ None = words-ok (length (translate a)) long in
      let lands = no-landing (translate a) 0 (translate a) lands-ok in
      rw front-is
      (passes front (rw front-is at fit) (rw front-is at few) (rw front-is at sound) (rw front-is at lands))
