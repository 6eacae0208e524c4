-- `sheet::first_clash` meets its contract. The invariant: the keys of the arrows passed stand in the array.
use Rattle.std.proofs.Common.{◌≡◌, length}
use Rattle.sheet.specs.inside.Arrows.{Keys}
use Rattle.sheet.proofs.first_clash.Given as goal

abbrev pub invariant-loop-i : goal.invariant-loop-i
invariant-loop-i l = (length l.keys ≡ 128) × Keys l.clash l.arrows l.i l.keys
