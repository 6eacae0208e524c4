-- Document 01's translation is made of the pieces: its gate is ANDT, a state block's last word TRES. Assumes nothing.
use mathlib.Core.Path.{◌≡◌, refl, ap, ◌∙◌}
use mathlib.Core.Bool.{Bool, true, false, ◌&&◌}
use mathlib.Core.List.{List, [], ◌∷◌, ◌++◌}
use Prim.Native.Nat.{ℕ, zero, suc, ◌+◌}
use native.Mathlib.Omega.{arith}
use native.Mathlib.Nat.{add-zero}
use lib.Dec.{leb, leb-zero}
use lib.ListN.{length}
use Rattle.reader.specs.Sheet.{Transition, Sheet}
use Rattle.words.specs.Word.{Word, END, JMP, TRES}
use Rattle.machine.specs.Machine.{Mach, exec, with_clock}
use Rattle.translate.specs.Translation as base
use Rattle.translate.specs.Translation.{wait_code, wait_count, sort, state_at, end_at, translate}
use Rattle.same.specs.inside.Pieces.{block, blocks, state_blocks, clock_gate}
use Rattle.same.proofs.RunLaws.{run_at, OneWord, Turns, Lasts}

pub wait-one : OneWord clock_gate
unfolding wait_code
wait-one i zero = refl
wait-one i (suc w) = refl

pub blocks_is : (to : ℕ → ℕ) (i : ℕ) (ts : List Transition) → base.blocks to ts ≡ blocks clock_gate to i ts
unfolding base.blocks base.block blocks block
blocks_is to i [] = refl
blocks_is to i (t ∷ ts) = rw (blocks_is to (i + wait_count t.wait) ts) refl

pub states-is : (end : ℕ) (rows : List (List Bool)) → base.state_blocks end rows ≡ state_blocks (TRES ∷ []) end rows
unfolding base.state_blocks state_blocks
states-is end [] = refl
states-is end (row ∷ rows) = rw (states-is end rows) refl

-- what stands behind the blocks: JMP to END, the state blocks, END
abbrev pub ending : Sheet → List Word
ending a = JMP (end_at a) ∷ state_blocks (TRES ∷ []) (end_at a) a.rows ++ (END ∷ [])

pub translate-is : (a : Sheet) → translate a ≡ blocks clock_gate (state_at a) 0 (sort a.transitions) ++ ending a
unfolding translate
translate-is a = rw (blocks_is (state_at a) 0 (sort a.transitions), states-is (end_at a) a.rows) refl

and-true : (a : Bool) → a && true ≡ a
and-true true = refl
and-true false = refl

-- ANDT, if there is a wait: the result stays true only if the clock is at least the wait
pub wait-turns : (x : ℕ) (r : Mach) (w : ℕ) (a : Bool) → Turns x r (wait_code w) a (a && leb w r.clock)
unfolding exec wait_code
wait-turns x r zero a pc ys n = rw (leb-zero r.clock, and-true a, add-zero pc, add-zero n) refl
wait-turns x r (suc w) a pc ys n = run_at x ys 0 r (a && leb (suc w) r.clock) [] (omega arith) (omega arith)

-- TRES
pub zeroes : (x : ℕ) → Lasts x (TRES ∷ []) (λ r. with_clock r 0)
unfolding exec
zeroes x pc ys r n = run_at x ys 0 (with_clock r 0) true [] (omega arith) (omega arith)
