-- The header is read exactly where its bits stand. Assumes nothing.
use mathlib.Core.Path.{◌≡◌, refl, subst, subst₂}
use mathlib.Core.List.{List, ◌++◌}
use mathlib.Core.Bool.{Bool, not}
use Prim.Native.Nat.{ℕ, ◌+◌, ◌-◌, ◌^◌, ◌≤◌}
use native.Mathlib.Omega.{arith}
use lib.Dec.{eqb}
use borrow.Author.Tests.{eqb-false, ne_eqb, not-true}
use Rattle.bits.specs.Word.{bits_of}
use Rattle.bits.specs.Read.{ok, read_field}
use Rattle.bits.proofs.FieldLaws.{Here}
use Rattle.bits.proofs.ReadLaws.{ok-is, ok-next}
use Rattle.reader.specs.Reading.{read_header}
use Rattle.reader.specs.declared.Header.{Header}
use Rattle.format.proofs.Stands.{Stands, field-stands, bits-read, put, cut}
use Rattle.format.proofs.Steps.{field-then, guard-then}

-- the header's fields one behind the other
abbrev pub head_bits : Header → List Bool
head_bits h = bits_of 5 (h.states - 1) ++ (bits_of 4 (h.inputs - 1) ++ (bits_of 4 (h.outputs - 1) ++ bits_of 7 (h.transitions - 1)))

pub record HeadSaid (s : List ℕ) (h : Header) (next : ℕ) : Type 0 where
  pub stands : Stands s 0 (head_bits h)
  pub after : next ≡ 20
  pub states : (2 ≤ h.states) × (h.states ≤ 32)
  pub inputs : (1 ≤ h.inputs) × (h.inputs ≤ 16)
  pub outputs : (1 ≤ h.outputs) × (h.outputs ≤ 16)
  pub transitions : (1 ≤ h.transitions) × (h.transitions ≤ 128)

module _ (s : List ℕ) where
  less_one : (at w v : ℕ) → Here s at w v (at + w) → Stands s at (bits_of w (v + 1 - 1))
  less_one at w v here = let e : v ≡ v + 1 - 1 = omega arith in subst (λ (x : ℕ). Stands s at (bits_of w x)) e (field-stands s at w v (at + w) here)

  pub head-said : (h : Header) (next : ℕ) → read_header s ≡ ok h next → HeadSaid s h next
  unfolding read_header
  head-said h next e =
      field-then s 5 0 _ e λ n f1 e1.
      guard-then (not (eqb n 0)) _ _ e1 λ g e2.
      field-then s 4 5 _ e2 λ k f2 e3.
      field-then s 4 9 _ e3 λ l f3 e4.
      field-then s 7 13 _ e4 λ m f4 e5.
      let some : n ≡ 0 → ⊥ = eqb-false n 0 (not-true _ g) in
      subst₂ (HeadSaid s) (ok-is e5) (ok-next e5)
      (record {
        stands = put s 0 5 _ _ (less_one 0 5 n f1) (put s 5 4 _ _ (less_one 5 4 k f2) (put s 9 4 _ _ (less_one 9 4 l f3) (less_one 13 7 m f4)));
        after = refl;
        states = omega (arith, f1.below);
        inputs = omega (arith, f2.below);
        outputs = omega (arith, f3.below);
        transitions = omega (arith, f4.below);
      })

  -- a field of one less than a number, read again
  more-one : (at w v : ℕ) → 1 ≤ v → v ≤ 2 ^ w → Stands s at (bits_of w (v - 1)) → read_field s w at ≡ ok (v - 1) (at + w)
  more-one at w v l m h = bits-read s at w (v - 1) (omega arith) h

  back : (v : ℕ) → 1 ≤ v → v - 1 + 1 ≡ v
  back v l = omega arith

  pub head-reads : (h : Header) → (2 ≤ h.states) × (h.states ≤ 32) → (1 ≤ h.inputs) × (h.inputs ≤ 16) → (1 ≤ h.outputs) × (h.outputs ≤ 16)
      → (1 ≤ h.transitions) × (h.transitions ≤ 128) → Stands s 0 (head_bits h) → read_header s ≡ ok h 20
  unfolding read_header
  head-reads h n k l m e =
      let c1 = cut s 0 5 (h.states - 1) _ e in
      let c2 = cut s 5 4 (h.inputs - 1) _ c1.1 in
      let c3 = cut s 9 4 (h.outputs - 1) _ c2.1 in
      rw (
        more-one 0 5 h.states (omega arith) n.1 c1.0,
        ne_eqb (h.states - 1) 0 (λ z. omega arith),
        more-one 5 4 h.inputs k.0 k.1 c2.0,
        more-one 9 4 h.outputs l.0 l.1 c3.0,
        more-one 13 7 h.transitions m.0 m.1 c3.1,
        back h.states (omega arith),
        back h.inputs k.0,
        back h.outputs l.0,
        back h.transitions m.0,
      )
