-- What is shown of a span and of a line at fault.
use Rattle.std.specs.Prelude.{ℕ, ◌==◌, List, [], ◌++◌, codes, if◌then◌else◌}
use Rattle.std.specs.Fmt.{decimal}
use Rattle.text.specs.Text.{count_text}
use Rattle.trace.specs.declared.Span.{Span}
use Rattle.trace.specs.declared.BadLine.{BadLine}
use Rattle.trace.specs.declared.Fault.{Fault}
use Rattle.trace.specs.declared.Fault.TheVariants.{NotABit, FewBits, ManyBits, NoTime, NotATime, LongTime, LateWord, LoneReturn, Cut}

-- "1 to 16 input bits", or the number alone where there is one.
abbrev pub span_text : Span → List ℕ
span_text s = (if s.least == s.most then [] else (decimal s.least ++ codes " to ")) ++ count_text s.most (codes "input bit")

-- What was expected.
abbrev pub expected : Span → Fault → List ℕ
expected s NotABit = span_text s ++ codes ", each 0 or 1, and then the elapsed ms, as in '110 99'"
expected s (FewBits found) = span_text s ++ codes ", found " ++ decimal found
expected s ManyBits = span_text s ++ codes ", found more"
expected s NoTime = codes "the elapsed ms after the input bits, as in '110 99'"
expected s NotATime = codes "the elapsed ms in digits, as in '110 99'"
expected s LongTime = codes "at most 4294967295 ms"
expected s LateWord = codes "the line's end after the ms, or a comment with #"
expected s LoneReturn = codes "a line feed after the carriage return"
expected s Cut = codes "a line end, and the trace ends before it"

abbrev pub bad_text : BadLine → List ℕ
bad_text bad = codes "line " ++ decimal bad.number ++ codes ": expected " ++ expected bad.span bad.fault
