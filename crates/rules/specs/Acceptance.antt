-- The acceptance theorem: what is proved of the checker's definition and the rules, apart from any code.
use Rattle.std.specs.Prelude.{ℕ, ◌≤◌, ◌≡◌, ◌↔◌, List, length, take, Ok}
use Rattle.reader.specs.Sheet.{Sheet}
use Rattle.sheet.specs.Judging.{check_sheet}
use Rattle.rules.specs.Rules.{Rules}
use Rattle.format.specs.Writing.{Bytes, sheet_of}

pub record Acceptance : Type 0 where
  -- a byte string is accepted exactly when it is the bytes of a sheet that keeps the rules
  pub exactly : (s : List ℕ) → ((check_sheet s ≡ Ok tt) × Bytes s) ↔ ((a : Sheet) × Rules a × (sheet_of a ≡ s))
  -- and it is the bytes of one such sheet only
  pub one_sheet : (a b : Sheet) → Rules a → Rules b → sheet_of a ≡ sheet_of b → a ≡ b
  -- "No accepted sheet is longer than 2,537 bytes."
  pub no_longer : (s : List ℕ) → check_sheet s ≡ Ok tt → length s ≤ 2537
  -- a longer byte string is answered as its first 4,096 bytes are
  pub first_bytes : (s : List ℕ) → check_sheet (take 4096 s) ≡ check_sheet s
