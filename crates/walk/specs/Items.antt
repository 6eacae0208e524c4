-- A condition's items in the order in which it is computed.
use Rattle.std.specs.Prelude.{List, [], ◌∷◌, ◌++◌, ℕ}
use Rattle.condition.specs.Cond.{Cond, inp, neg, conj, disj}

-- "LDI for an input; operand then NOT; left operand, AND( or OR(, right operand, )."
pub data Item : Type 0 where
  Load : ℕ → Item
  Turn OpenAnd OpenOr Close : Item

unfoldable pub items : Cond → List Item
items (inp i) = Load i ∷ []
items (neg c) = items c ++ (Turn ∷ [])
items (conj a b) = items a ++ (OpenAnd ∷ items b ++ (Close ∷ []))
items (disj a b) = items a ++ (OpenOr ∷ items b ++ (Close ∷ []))

-- an item's number and its operand: the code byte and the operand of its word
abbrev pub item_no : Item → ℕ
item_no (Load i) = 2
item_no Turn = 3
item_no OpenAnd = 4
item_no OpenOr = 5
item_no Close = 6

abbrev pub operand_of : Item → ℕ
operand_of (Load i) = i
operand_of Turn = 0
operand_of OpenAnd = 0
operand_of OpenOr = 0
operand_of Close = 0
