-- A transition is read exactly where its bits stand. Assumes nothing.
use mathlib.Core.Path.{◌≡◌, ap, subst₂}
use mathlib.Core.List.{List, ◌++◌, append_assoc}
use Prim.Native.Nat.{ℕ, ◌+◌, ◌≤◌, ◌<◌}
use native.Mathlib.Omega.{arith}
use lib.ListN.{length, length-append}
use lib.Dec.{ltb}
use borrow.Author.Tests.{ltb-true, lt-ltb}
use Rattle.bits.specs.Word.{bits_of}
use Rattle.bits.specs.Read.{ok}
use Rattle.bits.proofs.FieldLaws.{Here}
use Rattle.bits.proofs.ReadLaws.{ok-is, ok-next}
use Rattle.bits.proofs.WordLaws.{bits-length}
use Rattle.condition.specs.Cond.{cond_bits}
use Rattle.condition.specs.Reading.{Counted, condition_at}
use Rattle.reader.specs.Sheet.{Transition}
use Rattle.reader.specs.Reading.{transition_at}
use Rattle.format.specs.Fields.{Fields}
use Rattle.format.specs.Writing.{transition_bits}
use Rattle.format.proofs.Stands.{Stands, field-stands, bits-read, put, cut}
use Rattle.format.proofs.Steps.{field-then, bind-then, guard-then}
use Rattle.format.proofs.CondStands.{CondSaid, cond-said, cond-reads}
use Rattle.format.proofs.ListStands.{Said}

-- a transition's fields one behind the other
transition-bits : (t : Transition) → transition_bits t
    ≡ bits_of 5 t.source ++ (bits_of 5 t.destination ++ (bits_of 7 t.priority ++ (bits_of 24 t.wait ++ cond_bits t.condition)))
unfolding transition_bits
transition-bits t = simp append_assoc

pub transition-length : (t : Transition) → length (transition_bits t) ≡ 41 + length (cond_bits t.condition)
transition-length t = rw (transition-bits t) (simp (length-append, bits-length) (omega arith))

module _ (s : List ℕ) (n k at : ℕ) where
  fields-said : (source destination priority wait : ℕ) (c : Counted) (next : ℕ) → source < n → destination < n
      → Here s at 5 source (at + 5) → Here s (at + 5) 5 destination (at + 5 + 5) → Here s (at + 5 + 5) 7 priority (at + 5 + 5 + 7)
      → Here s (at + 5 + 5 + 7) 24 wait (at + 5 + 5 + 7 + 24) → CondSaid s k 8 (at + 5 + 5 + 7 + 24) 0 c.tree c.count next
      → Said s transition_bits (Fields n k) at (record { source = source; destination = destination; priority = priority; wait = wait; condition = c.tree }) next
  fields-said source destination priority wait c next g1 g2 f1 f2 f3 f4 c5 =
      let t : Transition = record { source = source; destination = destination; priority = priority; wait = wait; condition = c.tree } in
      record {
        stands = rw (transition-bits t)
            (put s at 5 source _ (field-stands s at 5 source (at + 5) f1)
            (put s (at + 5) 5 destination _ (field-stands s (at + 5) 5 destination (at + 5 + 5) f2)
            (put s (at + 5 + 5) 7 priority _ (field-stands s (at + 5 + 5) 7 priority (at + 5 + 5 + 7) f3)
            (put s (at + 5 + 5 + 7) 24 wait _ (field-stands s (at + 5 + 5 + 7) 24 wait (at + 5 + 5 + 7 + 24) f4) c5.stands))));
        after = omega (arith, c5.after, transition-length t);
        keeps = record {
          source = g1;
          destination = g2;
          priority = f3.below;
          wait = f4.below;
          inputs = c5.inputs;
          nodes = omega (arith, c5.counts, c5.few);
          depth = omega (arith, c5.deep);
        };
      }

  pub transition-said : (t : Transition) (next : ℕ) → transition_at s n k at ≡ ok t next → Said s transition_bits (Fields n k) at t next
  unfolding transition_at
  transition-said t next h =
      field-then s 5 at _ h λ source f1 h1.
      guard-then (ltb source n) _ _ h1 λ g1 h2.
      field-then s 5 (at + 5) _ h2 λ destination f2 h3.
      guard-then (ltb destination n) _ _ h3 λ g2 h4.
      field-then s 7 (at + 5 + 5) _ h4 λ priority f3 h5.
      field-then s 24 (at + 5 + 5 + 7) _ h5 λ wait f4 h6.
      bind-then (condition_at s k (at + 5 + 5 + 7 + 24)) _ h6 λ c m e h7.
      subst₂ (Said s transition_bits (Fields n k) at) (ok-is h7) (ok-next h7)
      (fields-said source destination priority wait c m (ltb-true source n g1) (ltb-true destination n g2) f1 f2 f3 f4 (cond-said s k 8 0 (at + 5 + 5 + 7 + 24) c m e))

  pub transition-reads : n ≤ 32 → k ≤ 16 → (t : Transition) → Fields n k t → Stands s at (transition_bits t)
      → transition_at s n k at ≡ ok t (at + length (transition_bits t))
  unfolding transition_at
  transition-reads few wide t f h =
      let h0 = rw (transition-bits t) at h in
      let c1 = cut s at 5 t.source _ h0 in
      let c2 = cut s (at + 5) 5 t.destination _ c1.1 in
      let c3 = cut s (at + 5 + 5) 7 t.priority _ c2.1 in
      let c4 = cut s (at + 5 + 5 + 7) 24 t.wait _ c3.1 in
      rw (
        bits-read s at 5 t.source (omega (arith, f.source)) c1.0,
        lt-ltb t.source n f.source,
        bits-read s (at + 5) 5 t.destination (omega (arith, f.destination)) c2.0,
        lt-ltb t.destination n f.destination,
        bits-read s (at + 5 + 5) 7 t.priority f.priority c3.0,
        bits-read s (at + 5 + 5 + 7) 24 t.wait f.wait c4.0,
        cond-reads s k wide 8 t.condition 0 (at + 5 + 5 + 7 + 24) c4.1 (omega (arith, f.nodes)) (omega (arith, f.depth)) f.inputs,
      )
      (ap (λ (m : ℕ). ok t m) (omega (arith, transition-length t)))
