-- `reader::ends_here` meets its contract. Assumes nothing.
use mathlib.Core.Path.{◌≡◌, refl, sym, ap, ◌∙◌}
use Prim.Native.Nat.{ℕ, ◌+◌, ◌-◌, ◌*◌, ◌/◌}
use native.Mathlib.Omega.{arith}
use lib.Dec.{eqb}
use lib.ListN.{length}
use Rattle.bits.specs.Field.{num_at}
use Rattle.bits.proofs.FieldLaws.{field-got}
use Rattle.reader.proofs.Laws.{ends-other, ends-spare, not_short}
use Rattle.reader.proofs.ends_here.Goals as goal

pub returns-then-s-stop : goal.returns-then-s-stop
returns-then-s-stop c = sym (ends-other _ _ c.if-s-stop.true)

pub returns-then-spare-eq0 : goal.returns-then-spare-eq0
unfolding num_at
returns-then-spare-eq0 c =
    let a = c.args in
    let full : (a.c.at + 7) / 8 * 8 - a.c.at ≡ 0 = omega (arith, c.if-spare-eq0.true) in
    sym (ends-spare a.s.now a.c.at c.if-s-stop.false ∙ rw full refl)

pub returns-in_default : goal.returns-in_default
returns-in_default c =
    let a = c.args in
    let w = (a.c.at + 7) / 8 * 8 - a.c.at in
    let same : length a.s.now ≡ (a.c.at + 7) / 8 = c.if-s-stop.false in
    absurd (not_short a.s.now a.c.at w (omega arith) (sym c.in_default.ensures))

pub returns : goal.returns
returns c =
    let a = c.args in
    let w = (a.c.at + 7) / 8 * 8 - a.c.at in
    let v = (field-got a.s.now a.c.at w _ _ (sym c.in-Some.ensures)).value in
    ap (λ (x : ℕ). eqb x 0) v ∙ sym (ends-spare a.s.now a.c.at c.if-s-stop.false)
