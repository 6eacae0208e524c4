-- What is packed comes back. Assumes nothing.
use mathlib.Core.Path.{◌≡◌, refl}
use Prim.Native.Nat.{◌+◌, ◌*◌, ◌/◌, ◌%◌, ◌<◌}
use native.Mathlib.Omega.{arith}
use Rattle.condition.specs.declared.Form.{Form}
use Rattle.condition.specs.declared.Form.TheVariants.{Other, On, Off, Gated}
use Rattle.reader.specs.declared.Arrow.{Arrow}
use Rattle.reader.specs.inside.Packing.{form_no, form_at, pack, unpack, Digits}

form-few : (f : Form) → form_no f < 4
form-few Other = omega arith
form-few On = omega arith
form-few Off = omega arith
form-few Gated = omega arith

form-back : (f : Form) → form_at (form_no f) ≡ f
form-back Other = refl
form-back On = refl
form-back Off = refl
form-back Gated = refl

pub unpack-pack : (t : Arrow) → Digits t → unpack (pack t) ≡ t
unfolding pack unpack
unpack-pack t f =
    let key = t.source * 128 + t.priority in
    let form = (key * 32 + t.destination) * 4 + form_no t.form in
    let cond = (form * 64 + t.words) * 32768 + t.cond in
    let e1 : (cond * 16777216 + t.wait) / 16777216 ≡ cond = omega (arith, f.wait) in
    let e2 : (cond * 16777216 + t.wait) % 16777216 ≡ t.wait = omega (arith, f.wait) in
    let e3 : cond / 32768 ≡ form * 64 + t.words = omega (arith, f.cond) in
    let e4 : cond % 32768 ≡ t.cond = omega (arith, f.cond) in
    let e5 : (form * 64 + t.words) / 64 ≡ form = omega (arith, f.words) in
    let e6 : (form * 64 + t.words) % 64 ≡ t.words = omega (arith, f.words) in
    let e7 : form / 4 ≡ key * 32 + t.destination = omega (arith, form-few t.form) in
    let e8 : form % 4 ≡ form_no t.form = omega (arith, form-few t.form) in
    let e9 : (key * 32 + t.destination) / 32 ≡ key = omega (arith, f.destination) in
    let e10 : (key * 32 + t.destination) % 32 ≡ t.destination = omega (arith, f.destination) in
    let e11 : key / 128 ≡ t.source = omega (arith, f.priority) in
    let e13 : t.source % 32 ≡ t.source = omega (arith, f.source) in
    let e12 : key % 128 ≡ t.priority = omega (arith, f.priority) in
    rw (e1, e2, e3, e4, e5, e6, e7, e8, e9, e10, e11, e12, e13, form-back t.form) refl
