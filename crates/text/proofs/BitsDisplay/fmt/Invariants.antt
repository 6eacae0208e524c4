-- What is written are the bits so far, and the others are left: four a round, and then those that are left one by one.
use Rattle.std.proofs.Common.{◌≡◌, ◌*◌, ◌/◌, ◌^◌}
use Rattle.std.specs.Fmt.{HasWritten, IsPlainFormatter}
use Rattle.text.specs.Text.{bits_text}
use Rattle.text.proofs.BitsDisplay.fmt.Given as goal

abbrev pub invariant-loop : goal.invariant-loop
invariant-loop g l =
    (l.rest ≡ l.self.word / 2 ^ (4 * l.counter))
    × (IsPlainFormatter l.initial.f → HasWritten g.W.Write.write_str_gives l.initial.f (bits_text l.self.word (4 * l.counter)) l.f)

abbrev pub invariant-loop-2 : goal.invariant-loop-2
invariant-loop-2 g l =
    (l.rest ≡ l.initial.rest / 2 ^ l.counter)
    × (IsPlainFormatter l.initial.f → HasWritten g.W.Write.write_str_gives l.initial.f (bits_text l.initial.rest l.counter) l.f)
