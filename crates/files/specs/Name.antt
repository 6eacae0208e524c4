-- The words that the program was given, and what they name.
use Rattle.std.specs.Prelude.{◌≡◌, ℕ, List, [], ◌⊎◌, None, Some, codes}
use Rattle.files.specs.declared.given.Word.{Word}

-- The bytes of a word, none where it is too long to be held.
abbrev pub word_bytes : Word → List ℕ
word_bytes word = elim word.held [ None ↦ [] | Some bytes ↦ bytes.items ]

-- A name is standard output's.
abbrev pub IsOutput : List ℕ → Type 0
IsOutput name = (name ≡ codes "-") ⊎ (name ≡ codes "/dev/stdout")
