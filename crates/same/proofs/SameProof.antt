-- A scan of the translated code is the scan of the sheet. Assumes nothing.
use mathlib.Core.Path.{◌≡◌, refl, sym, ap, ◌∙◌}
use mathlib.Core.Bool.{Bool, true, false, ◌&&◌, cond}
use mathlib.Core.List.{List, [], ◌∷◌, ◌++◌}
use Prim.Native.Nat.{ℕ, suc, ◌+◌, ◌-◌, ◌*◌, ◌^◌, ◌≤◌, ◌<◌}
use native.Mathlib.Omega.{arith}
use native.Mathlib.Nat.{zero-add}
use lib.Dec.{leb}
use lib.ListN.{length}
use Rattle.bits.proofs.WordLaws.{bit-pow, clear-pow, set-zero, put_all, put-all, word_lt}
use Rattle.clock.specs.Onward.{onward}
use Rattle.reader.specs.Sheet.{Transition, Sheet, row_of}
use Rattle.rules.specs.Rules.{Rules}
use Rattle.scan.specs.declared.State.{State}
use Rattle.scan.specs.Scan.{Choice, none, some, can, best, outputs_of, after, scan_of}
use Rattle.scan.proofs.AllLaws.{All, all_of}
use Rattle.scan.proofs.ChoiceLaws.{OnChoice, first, can-source, best-on}
use Rattle.words.specs.Word.{Word, END, TRES}
use Rattle.machine.specs.Machine.{Mach, out, exec, run_scan, with_clock, with_flags, flag_to}
use Rattle.machine.specs.Run.{mach_of}
use Rattle.translate.specs.Translation.{wait_code, wait_count, sort, block_len, blocks_len, state_at, end_at}
use Rattle.translate.proofs.LengthLaws.{sort-blocks_len, all-rows}
use Rattle.translate.proofs.SortLaws.{best-first}
use Rattle.same.specs.Same.{embed, Fits, spent, leaving, executed, Same}
use Rattle.same.specs.inside.Pieces.{blocks, state_blocks, clock_gate}
use Rattle.same.proofs.RunLaws.{asked, Gates, states-length, moved, landed, blocks-run, hop, state-run}
use Rattle.same.proofs.PiecesLaws.{wait-one, ending, translate-is, wait-turns, zeroes}

module _ (a : Sheet) (rules : Rules a) where
  -- each destination is a state
  pub targets : All (λ t. t.destination < a.states) a.transitions
  targets = all_of (λ t. t.destination < a.states) a.transitions (λ i l. (rules.fields i l).destination)

  -- END stands behind the states' blocks
  pub end_of : blocks_len a.transitions + 1 + length (state_blocks (TRES ∷ []) (end_at a) a.rows) ≡ end_at a
  unfolding end_at state_at
  end_of =
      let all = states-length (TRES ∷ []) (end_at a) a.outputs a.rows (all-rows a rules.rows rules.row) in
      rw (all, rules.rows) refl

  pub low : (d : ℕ) → blocks_len a.transitions ≤ state_at a d
  unfolding state_at
  low d = omega arith

  module _ (q : State) (good : Fits a q) (x c : ℕ) where
    now : Mach
    now = with_clock (mach_of (embed q)) c

    fires-can : (t : Transition) → asked x now t && leb t.wait now.clock ≡ can q.state x c t
    unfolding can now embed
    fires-can t = rw (bit-pow q.state t.source) refl

    -- each gate asks whether its transition can fire
    gates : (ts : List Transition) (i : ℕ) → Gates x now clock_gate (can q.state x c) i ts
    gates [] i = tt
    gates (t ∷ ts) i = (turns, gates ts (i + wait_count t.wait))
      where
        turns : (pc : ℕ) (ys : List Word) (n : ℕ) → exec x pc (wait_code t.wait ++ ys) 0 now (asked x now t) [] n
            ≡ exec x (pc + length (wait_code t.wait)) ys 0 now (can q.state x c t) [] (n + length (wait_code t.wait))
        turns pc ys n =
            wait-turns x now t.wait (asked x now t) pc ys n
            ∙ ap (λ b. exec x (pc + length (wait_code t.wait)) ys 0 now b [] (n + length (wait_code t.wait))) (fires-can t)

    -- the flag moved
    moved-is : (t : Transition) → t.source ≡ q.state → moved true now t ≡ with_flags now (2 ^ t.destination)
    unfolding moved flag_to now embed
    moved-is t e = rw (e, clear-pow q.state, set-zero t.destination) refl

    -- the outputs made those of the new state's row
    outputs-are : (d : ℕ) → d < a.states → put_all q.outputs 0 (row_of a d) ≡ outputs_of a d
    unfolding outputs_of
    outputs-are d lt =
        let ld : length (row_of a d) ≡ a.outputs = rules.row d lt in
        put-all q.outputs (row_of a d) (rw ld good.within)

    far : (d : ℕ) → state_at a d - blocks_len a.transitions ≡ suc (d * (a.outputs + 2))
    unfolding state_at
    far d = omega arith

    landed-is : (n : ℕ) (ch : Choice) → OnChoice (λ t. (t.destination < a.states) × (can q.state x c t ≡ true)) ch
        → landed x (blocks_len a.transitions) (ending a) (state_at a) now n ch
        ≡ out (mach_of (embed (after a q c ch))) (leaving a.outputs n ch)
    unfolding landed exec after now embed leaving
    landed-is n none h =
        let behind = suc (blocks_len a.transitions) in
        hop x behind (state_blocks (TRES ∷ []) (end_at a) a.rows) (END ∷ []) (end_at a - behind) 0 (end_at a) now false [] (suc n)
        (omega (arith, end_of)) (omega (arith, end_of))
        ∙ ap (out now) (omega arith)
    landed-is n (some t) h =
        let behind = suc (blocks_len a.transitions) in
        ap (λ m. exec x (blocks_len a.transitions) (ending a) m (moved true now t) true [] n) (far t.destination)
        ∙ state-run x (TRES ∷ []) (λ r. with_clock r 0) (zeroes x) (end_at a) a.outputs (END ∷ []) a.rows t.destination
        behind (moved true now t) n (all-rows a rules.rows rules.row) (omega (arith, h.0, rules.rows))
        (omega (arith, end_of))
        ∙ rw (moved-is t (can-source q.state x c t h.1), outputs-are t.destination h.0)
        (ap (out (mach_of (embed (after a q c (some t))))) (omega arith))

    chosen : Choice
    chosen = best q.state x c a.transitions

    ran : ℕ
    ran = spent (can q.state x c) (sort a.transitions)

    code_run : exec x 0 (blocks clock_gate (state_at a) 0 (sort a.transitions) ++ ending a) 0 now false [] 0
        ≡ out (mach_of (embed (after a q c chosen))) (leaving a.outputs ran chosen)
    unfolding chosen ran
    code_run =
        let P = blocks_len a.transitions in
        let able = can q.state x c in
        blocks-run x clock_gate wait-one P (state_at a) low (ending a) now able (sort a.transitions) 0 0 0 false
        (gates (sort a.transitions) 0) (zero-add _ ∙ sort-blocks_len a.transitions) (λ z. refl)
        ∙ ap (λ n. landed x P (ending a) (state_at a) now n (first able (sort a.transitions))) (zero-add ran)
        ∙ ap (landed x P (ending a) (state_at a) now ran) (sym (best-first q.state x c a.transitions))
        ∙ landed-is ran chosen (best-on q.state x c (λ t. t.destination < a.states) a.transitions targets)

  -- one scan
  pub scan-same : Same a
  unfolding run_scan scan_of embed now executed chosen ran
  scan-same q good x e =
      let start = with_clock (mach_of (embed q)) (onward q.clock e) in
      ap (λ is. exec x 0 is 0 start false [] 0) (translate-is a) ∙ code_run q good x (onward q.clock e)

  -- a record that shows its state's row fits, and a scan leads to another one
  pub record Shows (q : State) : Type 0 where
    pub active : q.state < a.states
    pub shown : q.outputs ≡ outputs_of a q.state

  pub shows-fits : (q : State) → Shows q → Fits a q
  unfolding outputs_of
  shows-fits q g =
      let l : length (row_of a q.state) ≡ a.outputs = rules.row q.state g.active in
      record { active = g.active; within = rw g.shown (rw l at (word_lt (row_of a q.state))) }

  pub scan-shows : (q : State) → Shows q → (x e : ℕ) → Shows (scan_of a q x e)
  unfolding scan_of after
  scan-shows q g x e = go (best q.state x (onward q.clock e) a.transitions) (best-on q.state x (onward q.clock e) (λ t. t.destination < a.states) a.transitions targets)
    where
      go : (ch : Choice) → OnChoice (λ t. (t.destination < a.states) × (can q.state x (onward q.clock e) t ≡ true)) ch → Shows (after a q (onward q.clock e) ch)
      go none h = record { active = g.active; shown = g.shown }
      go (some t) h = record { active = h.0; shown = refl }

spent-most : (f : Transition → Bool) (ts : List Transition) → spent f ts ≤ blocks_len ts
unfolding spent blocks_len
spent-most f [] = omega arith
spent-most f (t ∷ ts) = go (f t) (spent-most f ts)
  where
    go : (b : Bool) → spent f ts ≤ blocks_len ts → block_len t + cond b 0 (spent f ts) ≤ block_len t + blocks_len ts
    go true h = omega arith
    go false h = omega arith

-- no scan executes more words than the blocks have, and l + 3
pub executed-most : (a : Sheet) (q : State) (word elapsed : ℕ) → executed a q word elapsed ≤ blocks_len a.transitions + (a.outputs + 3)
unfolding executed
executed-most a q x e = go (best q.state x (onward q.clock e) a.transitions)
  where
    n : ℕ
    n = spent (can q.state x (onward q.clock e)) (sort a.transitions)

    few : n ≤ blocks_len a.transitions
    few = omega (arith, spent-most (can q.state x (onward q.clock e)) (sort a.transitions), sort-blocks_len a.transitions)

    go : (ch : Choice) → leaving a.outputs n ch ≤ blocks_len a.transitions + (a.outputs + 3)
    go none = unfold leaving in omega (arith, few)
    go (some t) = unfold leaving in omega (arith, few)
