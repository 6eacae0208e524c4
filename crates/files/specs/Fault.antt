-- Which fault it is.
use Rattle.std.specs.Prelude.{◌≡◌, ℕ, List, [], ⊤, codes}
use Rattle.std.specs.declared.io.Error.{Error}
use Rattle.files.specs.declared.fault.Fault.{Fault}
use Rattle.files.specs.declared.fault.Fault.TheVariants.{File, LongName, Closed, OutOfMemory}

-- A fault of the file of this name, for this reason; where there is no memory for the name, that is the fault.
abbrev pub IsOfFile : List ℕ → Error → Fault → Type 0
IsOfFile name error (File held reason) = (held.items ≡ name) × (reason ≡ error)
IsOfFile name error LongName = ⊥
IsOfFile name error Closed = ⊥
IsOfFile name error OutOfMemory = ⊤

-- The line of a fault. The system's reason is in words of its own, and so the line that has one is not said.
abbrev pub IsLine : Fault → List ℕ → Type 0
IsLine (File held reason) line = ⊤
IsLine LongName line = line ≡ codes "chz: the name of the code's file is too long\n"
IsLine Closed line = line ≡ []
IsLine OutOfMemory line = line ≡ codes "chz: out of memory\n"
