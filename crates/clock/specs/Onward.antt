-- "The clock first becomes the lesser of clock plus elapsed and 16,777,215."
use Rattle.std.specs.Prelude.{ℕ, ◌+◌, min}

abbrev pub onward : ℕ → ℕ → ℕ
onward clock elapsed = min (clock + elapsed) 16777215
