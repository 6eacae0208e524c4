-- The pieces that a translation is made of, with any gate in a block and any last words of a state's block: not needed to read the promises.
use Rattle.std.specs.Prelude.{Bool, List, [], ◌∷◌, ◌++◌, ℕ, ◌+◌}
use Rattle.reader.specs.Sheet.{Transition}
use Rattle.translate.specs.Translation.{cond_code, wait_code, wait_count, row_code}
use Rattle.words.specs.Word.{Word, LDS, ANDP, PAR, R, S, JMPC, JMP}

-- "A block is LDS source, AND(, the condition, ), ANDT if the wait isn't 0, R source, S destination, JMPC to the destination's state block.": in
-- the place of ANDT the words of the gate
unfoldable pub block : List Word → Transition → ℕ → List Word
block gate t to =
    LDS t.source ∷ ANDP ∷ cond_code t.condition
    ++ (PAR ∷ gate ++ (R t.source ∷ S t.destination ∷ JMPC to ∷ []))

-- the blocks one behind the other: `gate` tells the words of a gate by the number of waits in the blocks before and by the wait, `to` the word
-- where a state's block begins
unfoldable pub blocks : (ℕ → ℕ → List Word) → (ℕ → ℕ) → ℕ → List Transition → List Word
blocks gate to i [] = []
blocks gate to i (t ∷ ts) = block (gate i t.wait) t (to t.destination) ++ blocks gate to (i + wait_count t.wait) ts

-- "for each state in order SA or RA for each output in order", the words `last`, a JMP
unfoldable pub state_blocks : List Word → ℕ → List (List Bool) → List Word
state_blocks last end [] = []
state_blocks last end (row ∷ rows) = row_code 0 row ++ (last ++ (JMP end ∷ state_blocks last end rows))

-- "ANDT if the wait isn't 0", whatever stands before
abbrev pub clock_gate : ℕ → ℕ → List Word
clock_gate i w = wait_code w
