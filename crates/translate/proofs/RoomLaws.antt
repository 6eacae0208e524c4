-- A first bound for the code: enough for every operand, and for the code's own counting.
use mathlib.Core.List.{List, [], ◌∷◌}
use Prim.Native.Nat.{ℕ, zero, suc, ◌+◌, ◌*◌, ◌≤◌}
use native.Mathlib.Omega.{arith}
use native.Mathlib.Nat.{mul-le-mul_right}
use lib.ListN.{length}
use Rattle.condition.specs.Cond.{Cond, inp, neg, conj, disj, nodes, word_count}
use Rattle.reader.specs.Sheet.{Transition, Sheet, count}
use Rattle.scan.proofs.AllLaws.{All}
use Rattle.translate.specs.Translation.{wait_count, block_len, blocks_len, state_at, end_at}

-- a condition of n nodes has at most (3 n - 1) / 2 words
pub cond-words : (c : Cond) → 2 * word_count c + 1 ≤ 3 * nodes c
unfolding word_count nodes
cond-words (inp i) = omega arith
cond-words (neg c) = omega (arith, cond-words c)
cond-words (conj a b) = omega (arith, cond-words a, cond-words b)
cond-words (disj a b) = omega (arith, cond-words a, cond-words b)

wait-words : (w : ℕ) → wait_count w ≤ 1
wait-words zero = omega arith
wait-words (suc w) = omega arith

-- a block has at most 53 words
pub block_words : (t : Transition) → nodes t.condition ≤ 31 → block_len t ≤ 53
unfolding block_len
block_words t h = omega (arith, cond-words t.condition, wait-words t.wait)

pub blocks-words : (ts : List Transition) → All (λ t. nodes t.condition ≤ 31) ts → blocks_len ts ≤ 53 * length ts
unfolding blocks_len
blocks-words [] h = omega arith
blocks-words (t ∷ ts) h = omega (arith, block_words t h.0, blocks-words ts h.1)

-- so END stands at word 7,361 at most
pub end-words : (a : Sheet) → All (λ t. nodes t.condition ≤ 31) a.transitions → count a ≤ 128 → a.states ≤ 32
    → a.outputs ≤ 16 → end_at a ≤ 7361
unfolding end_at state_at
end-words a h m n l =
    let p : a.states * (a.outputs + 2) ≤ 32 * (a.outputs + 2) = mul-le-mul_right (a.outputs + 2) n in
    omega (arith, blocks-words a.transitions h)

-- and the state blocks before it
pub state-words : (a : Sheet) (d : ℕ) → d ≤ a.states → state_at a d ≤ end_at a
unfolding end_at state_at
state-words a d h = omega (arith, mul-le-mul_right (a.outputs + 2) h)
