-- Laws of a condition's form, by which HOME-FORM and GATE are judged. Assumes nothing.
use mathlib.Core.Path.{◌≡◌, refl, ◌∙◌}
use mathlib.Core.Bool.{Bool, true, false}
use lib.Dec.{eqb}
use Rattle.condition.specs.Cond.{Cond, inp, neg, conj, disj, is_on, is_off, is_gated}
use Rattle.condition.specs.declared.Form.TheVariants.{On, Off, Gated}
use Rattle.condition.specs.inside.Facts.{pick_form, is_form_on, form_of}
use Rattle.sheet.specs.inside.Arrows.{is_form_off, is_form_gated}

-- two tests of a Bool that agree at both its values
both : (f g : Bool → Bool) → f true ≡ g true → f false ≡ g false → (b : Bool) → f b ≡ g b
both f g t e true = t
both f g t e false = e

on-form : (c : Cond) → is_form_on (form_of c) ≡ is_on c
unfolding form_of is_on
on-form (inp i) = both (λ b. is_form_on (pick_form b On)) (λ b. b) refl refl (eqb i 0)
on-form (neg c) = both (λ b. is_form_on (pick_form b Off)) (λ b. false) refl refl (is_form_on (form_of c))
on-form (conj a b) = both (λ b. is_form_on (pick_form b Gated)) (λ b. false) refl refl (is_form_on (form_of a))
on-form (disj a b) = refl

pub off-form : (c : Cond) → is_form_off (form_of c) ≡ is_off c
unfolding form_of is_off
off-form (inp i) = both (λ b. is_form_off (pick_form b On)) (λ b. false) refl refl (eqb i 0)
off-form (neg c) = both (λ b. is_form_off (pick_form b Off)) (λ b. b) refl refl (is_form_on (form_of c)) ∙ on-form c
off-form (conj a b) = both (λ b. is_form_off (pick_form b Gated)) (λ b. false) refl refl (is_form_on (form_of a))
off-form (disj a b) = refl

pub gated-form : (c : Cond) → is_form_gated (form_of c) ≡ is_gated c
unfolding form_of is_gated
gated-form (inp i) = both (λ b. is_form_gated (pick_form b On)) (λ b. b) refl refl (eqb i 0)
gated-form (neg c) = both (λ b. is_form_gated (pick_form b Off)) (λ b. false) refl refl (is_form_on (form_of c))
gated-form (conj a b) = both (λ b. is_form_gated (pick_form b Gated)) (λ b. b) refl refl (is_form_on (form_of a)) ∙ on-form a
gated-form (disj a b) = refl
