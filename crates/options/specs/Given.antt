-- Which options are given, and which words are none.
use Rattle.std.specs.Prelude.{◌≡◌, ◌<◌, ℕ, None, Some, List, [], ◌∷◌, length, slice_index, All}
use Rattle.std.specs.Borrow.{Bor}
use Rattle.std.specs.declared.option.Option.{Option}
use Rattle.files.specs.declared.Word.{Word}
use Rattle.files.specs.Name.{word_bytes}
use Rattle.options.specs.declared.Files.{Files}
use Rattle.options.specs.declared.Files.TheVariants as files
use Rattle.options.specs.declared.Options.{Options}

-- No option is given.
abbrev pub IsPlain : Options → Type 0
IsPlain o = (o.code ≡ None) × (o.sheet ≡ None) × (o.state ≡ None) × (o.clock ≡ None)

-- A word that begins as an option: with a -, which is 45, and more behind it.
abbrev pub IsOptionWord : List ℕ → Type 0
IsOptionWord word = (1 < length word) × (slice_index word 0 ≡ 45)

-- No word of the list begins as an option: of words that are held,
abbrev pub NoOptionIn : List Word → Type 0
NoOptionIn words = All (λ word. ¬ IsOptionWord (word_bytes word)) words

-- and of words that are lent.
abbrev pub NoOptionAmong : List (Bor Word) → Type 0
NoOptionAmong words = All (λ word. ¬ IsOptionWord (word_bytes word.now)) words

-- The files that are given, in order; none where there are more than any command takes.
abbrev pub names : Files → Option (List Word)
names files.None = Some []
names (files.One first) = Some (first.now ∷ [])
names (files.Two first second) = Some (first.now ∷ second.now ∷ [])
names files.More = None

-- The list, if no more than two are in it.
abbrev pub few : List Word → Option (List Word)
few [] = Some []
few (first ∷ []) = Some (first ∷ [])
few (first ∷ second ∷ []) = Some (first ∷ second ∷ [])
few (first ∷ second ∷ third ∷ rest) = None
