-- "Prove that the contract admits a single outcome", at the C boundary: for each call, whatever it is given, there is
-- one number, one place and one value behind each other pointer that its relation allows, and no other.
use Rattle.std.specs.Prelude.{ℕ, ◌≡◌, List}
use Rattle.scan.specs.declared.State.{State}
use Rattle.machine.specs.declared.Record.{Record}
use Rattle.recorder.specs.Calls.{ChzCheckSheet, ChzCheckCode, ChzTranslate, ChzColdScan, ChzColdRun, ChzScan, ChzRun}

-- a number and a place
abbrev pub OnePlace : (ℕ → ℕ → Type 0) → Type 0
OnePlace call = (n p : ℕ) × call n p × ((m q : ℕ) → call m q → (m ≡ n) × (q ≡ p))

-- and three parts of a record
abbrev pub OneRecord : (ℕ → ℕ → ℕ → ℕ → ℕ → Type 0) → Type 0
OneRecord call =
    (n p s o c : ℕ) × call n p s o c
    × ((n2 p2 s2 o2 c2 : ℕ) → call n2 p2 s2 o2 c2 → (n2 ≡ n) × (p2 ≡ p) × (s2 ≡ s) × (o2 ≡ o) × (c2 ≡ c))

-- and a length with every byte of a buffer
abbrev pub OneCode : (ℕ → ℕ → ℕ → List ℕ → Type 0) → Type 0
OneCode call =
    (n p l : ℕ) × (code : List ℕ) × call n p l code
    × ((n2 p2 l2 : ℕ) (code2 : List ℕ) → call n2 p2 l2 code2 → (n2 ≡ n) × (p2 ≡ p) × (l2 ≡ l) × (code2 ≡ code))

pub record SingleAtC : Type 0 where
  pub for_check_sheet : (sheet : List ℕ) → OnePlace (ChzCheckSheet sheet)
  pub for_check_code : (code : List ℕ) → OnePlace (ChzCheckCode code)
  pub translate : (sheet buffer : List ℕ) → OneCode (ChzTranslate sheet buffer)
  pub for_cold_scan : (sheet : List ℕ) → OneRecord (ChzColdScan sheet)
  pub for_cold_run : (sheet : List ℕ) → OneRecord (ChzColdRun sheet)
  pub scan : (sheet : List ℕ) (given : State) (inputs elapsed : ℕ) → OneRecord (ChzScan sheet given inputs elapsed)
  pub run : (code : List ℕ) (given : Record) (inputs elapsed : ℕ) → OneRecord (ChzRun code given inputs elapsed)
