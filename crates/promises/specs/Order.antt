-- "Translation, in order: a block for each transition, by source and then by priority; JMP to END; for each state in
-- order SA or RA for each output in order, TRES, JMP to END; END."
use Rattle.std.specs.Prelude.{◌≡◌, List, [], ◌∷◌, ◌++◌, ℕ, Ok}
use Rattle.bits.specs.Read.{ok}
use Rattle.reader.specs.Sheet.{Sheet}
use Rattle.reader.specs.Reading.{read_sheet}
use Rattle.sheet.specs.Judging.{check_sheet}
use Rattle.words.specs.Word.{Word, END, JMP}
use Rattle.translate.specs.Translation.{sort, blocks, state_blocks, state_at, end_at, translate}
use Rattle.same.specs.Order.{BlockOrder}

-- the words behind the blocks
abbrev pub behind : Sheet → List Word
behind a = JMP (end_at a) ∷ state_blocks (end_at a) a.rows ++ (END ∷ [])

-- the sorted transitions are the sheet's, each once, in the paper's order; and the code begins with the blocks of
-- exactly these
abbrev pub BlocksInOrder : Type 0
BlocksInOrder =
    (s : List ℕ) → check_sheet s ≡ Ok tt
    → (a : Sheet) × (end : ℕ) × (read_sheet s ≡ ok a end)
    × BlockOrder a (sort a.transitions)
    × (translate a ≡ blocks (state_at a) (sort a.transitions) ++ behind a)
