-- The line that a trace is read in.
use Rattle.std.specs.Prelude.{◌≡◌, ℕ, ◌+◌, ◌-◌, ◌^◌, ◌==◌, Bool, min, is_some, if◌then◌else◌}
use Rattle.trace.specs.declared.Trace.{Trace}
use Rattle.trace.specs.declared.BadLine.{BadLine}

-- The number of the line that is read, from 1 on, as far as a count goes.
abbrev pub line_number : Trace → ℕ
line_number t = min (t.lines + 1) (2 ^ 64 - 1)

-- The lines that are whole after one more byte: a line feed, which is 10, makes a line whole.
abbrev pub lines_after : Trace → ℕ → ℕ
lines_after t b = if b == 10 then line_number t else t.lines

-- Whether a line has begun that is not whole.
abbrev pub is_begun : Trace → Bool
is_begun t = is_some t.line.last

-- The line is told by its number, beside how many bits were expected.
abbrev pub IsLineOf : Trace → BadLine → Type 0
IsLineOf t bad = (bad.number ≡ line_number t) × (bad.span ≡ t.span)
