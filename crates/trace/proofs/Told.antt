-- The text of a line at fault, once it is known what is wrong.
use Rattle.std.proofs.Common.{◌≡◌, ap, sym}
use Rattle.trace.specs.declared.BadLine.{BadLine}
use Rattle.trace.specs.declared.Fault.{Fault}
use Rattle.trace.specs.Shown.{bad_text}

pub told : (bad : BadLine) (wrong : Fault) → bad.fault ≡ wrong → bad_text (record { number = bad.number; fault = wrong; span = bad.span }) ≡ bad_text bad
told bad wrong e = ap (λ v. bad_text (record { number = bad.number; fault = v; span = bad.span })) (sym e)
