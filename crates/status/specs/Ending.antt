-- The status of a command, and of a fault that ended it.
use Rattle.std.specs.Prelude.{◌≡◌, ℕ, List}
use Rattle.files.specs.declared.Fault.TheVariants as file
use Rattle.status.specs.declared.Status.{Status}
use Rattle.status.specs.declared.Status.TheVariants.{Accepted, Refused, Failed, Closed}
use Rattle.status.specs.declared.Fault.{Fault}
use Rattle.status.specs.declared.Fault.TheVariants as fault

-- What the program ends with: 141 is what a program ends with that a closed pipe ends.
abbrev pub exit_of : Status → ℕ
exit_of Accepted = 0
exit_of Refused = 1
exit_of Failed = 2
exit_of Closed = 141

-- A fault that was told ends a command with this status. Where a refusal finds no reader, it is not told.
abbrev pub EndsWith : Fault → Status → Type 0
EndsWith (fault.Usage what) status = status ≡ Failed
EndsWith (fault.Word what word) status = status ≡ Failed
EndsWith (fault.File file.Closed) status = status ≡ Closed
EndsWith (fault.File other) status = status ≡ Failed
EndsWith (fault.Refused why) status = ¬ (status ≡ Accepted)
EndsWith (fault.Said said) status = status ≡ Failed

-- A fault of a word has what was found of it and its bytes; where there is no memory for them, that is the fault.
abbrev pub IsOfWord : List ℕ → List ℕ → Fault → Type 0
IsOfWord what bytes (fault.Usage said) = ⊥
IsOfWord what bytes (fault.Word said word) = (said.now ≡ what) × (word.items ≡ bytes)
IsOfWord what bytes (fault.File why) = why ≡ file.OutOfMemory
IsOfWord what bytes (fault.Refused why) = ⊥
IsOfWord what bytes (fault.Said said) = ⊥
