use Rattle.std.proofs.Common.{refl}
use Rattle.std.proofs.Output.{has_written_append, has_written_of_eq}
use Rattle.trace.proofs.Told.{told}
use Rattle.trace.proofs.BadLineDisplay.fmt.Goals as goal

pub returns-in-NotABit-clause-writes : goal.returns-in-NotABit-clause-writes
returns-in-NotABit-clause-writes g c = λ p o.
    let first = c.in_ok-write.ensures.writes p refl in
    has_written_of_eq _ _ _ _ _ (told c.args.self.now _ c.in-NotABit.is) (has_written_append _ _ _ _ _ _ first (c.write-in-NotABit.ensures.writes first.plain o))

pub returns-in-ManyBits-clause-writes : goal.returns-in-ManyBits-clause-writes
returns-in-ManyBits-clause-writes g c = λ p o.
    let first = c.in_ok-write.ensures.writes p refl in
    has_written_of_eq _ _ _ _ _ (told c.args.self.now _ c.in-ManyBits.is) (has_written_append _ _ _ _ _ _ first (c.write-in-ManyBits.ensures.writes first.plain o))

pub returns-in-NoTime-clause-writes : goal.returns-in-NoTime-clause-writes
returns-in-NoTime-clause-writes g c = λ p o.
    let first = c.in_ok-write.ensures.writes p refl in
    has_written_of_eq _ _ _ _ _ (told c.args.self.now _ c.in-NoTime.is) (has_written_append _ _ _ _ _ _ first (c.write_str.ensures.writes first.plain o))

pub returns-in-NotATime-clause-writes : goal.returns-in-NotATime-clause-writes
returns-in-NotATime-clause-writes g c = λ p o.
    let first = c.in_ok-write.ensures.writes p refl in
    has_written_of_eq _ _ _ _ _ (told c.args.self.now _ c.in-NotATime.is) (has_written_append _ _ _ _ _ _ first (c.write_str-in-NotATime.ensures.writes first.plain o))

pub returns-in-LongTime-clause-writes : goal.returns-in-LongTime-clause-writes
returns-in-LongTime-clause-writes g c = λ p o.
    let first = c.in_ok-write.ensures.writes p refl in
    has_written_of_eq _ _ _ _ _ (told c.args.self.now _ c.in-LongTime.is) (has_written_append _ _ _ _ _ _ first (c.write_str-in-LongTime.ensures.writes first.plain o))

pub returns-in-LateWord-clause-writes : goal.returns-in-LateWord-clause-writes
returns-in-LateWord-clause-writes g c = λ p o.
    let first = c.in_ok-write.ensures.writes p refl in
    has_written_of_eq _ _ _ _ _ (told c.args.self.now _ c.in-LateWord.is) (has_written_append _ _ _ _ _ _ first (c.write_str-in-LateWord.ensures.writes first.plain o))

pub returns-in-LoneReturn-clause-writes : goal.returns-in-LoneReturn-clause-writes
returns-in-LoneReturn-clause-writes g c = λ p o.
    let first = c.in_ok-write.ensures.writes p refl in
    has_written_of_eq _ _ _ _ _ (told c.args.self.now _ c.in-LoneReturn.is) (has_written_append _ _ _ _ _ _ first (c.write_str-in-LoneReturn.ensures.writes first.plain o))

pub returns-in-Cut-clause-writes : goal.returns-in-Cut-clause-writes
returns-in-Cut-clause-writes g c = λ p o.
    let first = c.in_ok-write.ensures.writes p refl in
    has_written_of_eq _ _ _ _ _ (told c.args.self.now _ c.in-Cut.is) (has_written_append _ _ _ _ _ _ first (c.write_str-in-Cut.ensures.writes first.plain o))
