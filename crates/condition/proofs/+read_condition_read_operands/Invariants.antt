-- The cycle of `condition::read_condition` and `condition::read_operands`: the bits left fall.
use Rattle.std.proofs.Common.{◌+◌, ◌*◌, ◌-◌, length}
use Rattle.condition.proofs.+read_condition_read_operands.Given as goal

abbrev pub decreases-read_condition : goal.decreases-read_condition
decreases-read_condition l = 2 * (length l.s.now * 8 - l.c.at)

abbrev pub decreases-read_operands : goal.decreases-read_operands
decreases-read_operands l = 2 * (length l.s.now * 8 - l.c.at) + 1
