-- `faults::check_landings` meets its contract. At each turn the search from here finds what the whole search finds.
use mathlib.Core.Path.{◌≡◌}
use mathlib.Core.List.{map}
use lib.ListN.{drop}
use Rattle.words.specs.Word.{decode, words}
use Rattle.faults.specs.Check.{first_landing}
use Rattle.faults.proofs.check_landings.Given as goal

abbrev pub invariant-loop-at : goal.invariant-loop-at
invariant-loop-at l =
    first_landing (map decode (words l.code)) l.at (drop l.at (map decode (words l.code)))
    ≡ first_landing (map decode (words l.code)) 0 (map decode (words l.code))
