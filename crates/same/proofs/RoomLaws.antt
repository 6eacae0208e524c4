-- A first bound for the code of a sheet that keeps the rules. Assumes nothing.
use Prim.Native.Nat.{◌≤◌}
use Rattle.reader.specs.Sheet.{Sheet}
use Rattle.rules.specs.Rules.{Rules}
use Rattle.scan.proofs.AllLaws.{all_map}
use Rattle.translate.specs.Translation.{end_at}
use Rattle.translate.proofs.RoomLaws as room
use Rattle.same.proofs.EachLaws.{all-fields}

pub end-words : (a : Sheet) → Rules a → end_at a ≤ 7361
end-words a rules =
    room.end-words a (all_map (λ t f. f.nodes) a.transitions (all-fields a rules)) rules.transitions.1
    rules.states.1 rules.outputs.1
