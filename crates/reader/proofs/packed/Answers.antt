-- `reader::packed` meets its contract. Assumes nothing.
use mathlib.Core.Path.{◌≡◌, refl}
use denote.Enum.Declared.{tag_of}
use Rattle.condition.specs.contracts.Form.{the_type}
use Rattle.condition.specs.declared.Form.{Form}
use Rattle.condition.specs.declared.Form.TheVariants.{Other, On, Off, Gated}
use Rattle.reader.specs.inside.Packing.{form_no, pack}
use Rattle.reader.proofs.packed.Goals as goal

form-tag : (f : Form) → tag_of the_type f ≡ form_no f
form-tag Other = refl
form-tag On = refl
form-tag Off = refl
form-tag Gated = refl

pub returns : goal.returns
unfolding pack
returns c = rw (form-tag c.args.t.form) refl
