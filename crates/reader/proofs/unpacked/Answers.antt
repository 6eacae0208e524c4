-- `reader::unpacked` meets its contract. Assumes nothing.
use mathlib.Core.Path.{◌≡◌, refl}
use Prim.Native.Nat.{◌/◌, ◌%◌}
use native.Mathlib.Omega.{arith}
use Rattle.reader.specs.inside.Packing.{form_at, unpack}
use Rattle.reader.proofs.unpacked.Goals as goal
use Rattle.reader.proofs.unpacked.Goals.{in-0, in-1, in-2, in_default}

pub returns : goal.returns
unfolding unpack
returns c =
    let form = c.args.w / 16777216 / 32768 / 64 % 4 in
    let e : c.match-form-rem4.result ≡ form_at form =
    elim c.match-form-rem4.branch [
      | in-0 w ↦ rw w.in-0.is w.result-is
      | in-1 w ↦ rw w.in-1.is w.result-is
      | in-2 w ↦ rw w.in-2.is w.result-is
      | in_default w ↦ let three : form ≡ 3 = omega arith in rw three w.result-is
    ] in
    rw e refl
