-- How the code holds the choice of a transition: not needed to read the promises.
use Rattle.std.specs.Prelude.{cond, ◌≡◌, leb, Some, None}
use Rattle.std.specs.declared.option.Option.{Option}
use Rattle.reader.specs.declared.Arrow.{Arrow}
use Rattle.scan.specs.Scan.{Choice, none, some}
use Rattle.scan.specs.declared.Best.{Best}

-- the code's pick is that choice
abbrev pub Picks : Option Best → Choice → Type 0
Picks None none = Unit {0}
Picks None (some t) = ⊥
Picks (Some b) none = ⊥
Picks (Some b) (some t) = (b.priority ≡ t.priority) × (b.destination ≡ t.destination)

-- one arrow more
abbrev pub took_of : Option Best → Arrow → Best
took_of None l = record { priority = l.priority; destination = l.destination }
took_of (Some b) l = cond (leb b.priority l.priority) b (record { priority = l.priority; destination = l.destination })
