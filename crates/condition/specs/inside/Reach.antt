-- How far a condition may begin.
use Rattle.std.specs.Prelude.{ℕ}

-- below this bit, so that its 31 nodes of at most six bits stay below `reach`
abbrev pub cond_reach : ℕ
cond_reach = 900000

-- and end at this bit at the latest
abbrev pub cond_end : ℕ
cond_end = 990000
