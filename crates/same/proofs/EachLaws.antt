-- A fact of every word of some code; and each transition's fields. Assumes nothing.
use mathlib.Core.List.{List, [], ◌∷◌, ◌++◌}
use Rattle.reader.specs.Sheet.{Sheet}
use Rattle.format.specs.Fields.{Fields}
use Rattle.rules.specs.Rules.{Rules}
use Rattle.scan.proofs.AllLaws.{All, all_of}
use Rattle.words.specs.Word.{Word}

abbrev pub Each : (Word → Type 0) → List Word → Type 0
Each P [] = Unit {0}
Each P (i ∷ is) = P i × Each P is

pub each_append : (P : Word → Type 0) (xs ys : List Word) → Each P xs → Each P ys → Each P (xs ++ ys)
each_append P [] ys h g = g
each_append P (i ∷ xs) ys h g = (h.0, each_append P xs ys h.1 g)

-- each transition's fields, in the sheet's order
pub all-fields : (a : Sheet) → Rules a → All (Fields a.states a.inputs) a.transitions
all-fields a rules = all_of (Fields a.states a.inputs) a.transitions rules.fields
