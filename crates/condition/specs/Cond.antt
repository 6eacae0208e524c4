-- Conditions as trees, and what is said of one.
use Rattle.std.specs.Prelude.{ℕ, ◌+◌, max, Bool, true, false, not, ◌&&◌, ◌||◌, List, ◌∷◌, ◌++◌, eqb}
use Rattle.bits.specs.Word.{get_bit, bits_of}

-- "00 input, followed by a 4-bit input number; 01 NOT with one operand; 10 AND with two; 11 OR with two. An operand is again a condition."
pub data Cond : Type 0 where
  inp : ℕ → Cond
  neg : Cond → Cond
  conj disj : Cond → Cond → Cond

-- whether it holds: "input i has weight 2^i" in the input word
unfoldable pub eval : ℕ → Cond → Bool
eval word (inp i) = get_bit word i
eval word (neg c) = not (eval word c)
eval word (conj a b) = eval word a && eval word b
eval word (disj a b) = eval word a || eval word b

-- "It has at most 31 nodes"
unfoldable pub nodes : Cond → ℕ
nodes (inp i) = 1
nodes (neg c) = 1 + nodes c
nodes (conj a b) = 1 + nodes a + nodes b
nodes (disj a b) = 1 + nodes a + nodes b

-- "and is at most 8 deep; a lone input is 1 deep"
unfoldable pub depth : Cond → ℕ
depth (inp i) = 1
depth (neg c) = 1 + depth c
depth (conj a b) = 1 + max (depth a) (depth b)
depth (disj a b) = 1 + max (depth a) (depth b)

-- input 0, activation
unfoldable pub is_on : Cond → Bool
is_on (inp i) = eqb i 0
is_on (neg c) = false
is_on (conj a b) = false
is_on (disj a b) = false

-- "the condition NOT input 0"
unfoldable pub is_off : Cond → Bool
is_off (inp i) = false
is_off (neg c) = is_on c
is_off (conj a b) = false
is_off (disj a b) = false

-- "input 0" or "an AND whose first operand is input 0", by its form
unfoldable pub is_gated : Cond → Bool
is_gated (inp i) = eqb i 0
is_gated (neg c) = false
is_gated (conj a b) = is_on a
is_gated (disj a b) = false

-- e, "the words of a condition": LDI; operand and NOT; two operands with AND( or OR( between them and ) behind
unfoldable pub word_count : Cond → ℕ
word_count (inp i) = 1
word_count (neg c) = word_count c + 1
word_count (conj a b) = word_count a + word_count b + 2
word_count (disj a b) = word_count a + word_count b + 2

-- its bits: "a prefix expression of two-bit tags"
unfoldable pub cond_bits : Cond → List Bool
cond_bits (inp i) = false ∷ false ∷ bits_of 4 i
cond_bits (neg c) = false ∷ true ∷ cond_bits c
cond_bits (conj a b) = true ∷ false ∷ cond_bits a ++ cond_bits b
cond_bits (disj a b) = true ∷ true ∷ cond_bits a ++ cond_bits b
