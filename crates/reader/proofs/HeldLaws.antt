-- What the slices of a decoded copy hold: the sheet's rows and transitions, and nothing more. Assumes nothing.
use mathlib.Core.Path.{◌≡◌, ◌∙◌}
use mathlib.Core.List.{List}
use Prim.Native.Nat.{ℕ, ◌≤◌, ◌<◌}
use native.Mathlib.Omega.{arith}
use lib.ListN.{length, get_or, take}
use Rattle.std.proofs.lemmas.List.{length-take-le, get_or-take}
use Rattle.bits.specs.Word.{word_of}
use Rattle.reader.specs.Sheet.{Sheet, count, row_of, transition_of}
use Rattle.reader.specs.inside.Packing.{arrow_at}
use Rattle.reader.specs.inside.Decoding.{Holds, Copy}
use Rattle.reader.specs.declared.Decoded.{Decoded}

pub record Held (s rows arrows : List ℕ) (a : Sheet) : Type 0 where
  pub states : length rows ≡ a.states
  pub transitions : length arrows ≡ count a
  pub row : (i : ℕ) → i < a.states → get_or rows i 0 ≡ word_of (row_of a i)
  pub arrow : (i : ℕ) → i < count a → Holds s a.inputs (arrow_at arrows i) (transition_of a i)

pub copy-held : (s : List ℕ) (d : Decoded) (a : Sheet) → Copy s d a → d.header.states ≤ length d.rows → d.header.transitions ≤ length d.arrows
    → Held s (take d.header.states d.rows) (take d.header.transitions d.arrows) a
copy-held s d a k n m =
    record {
      states = length-take-le d.header.states d.rows n ∙ k.states;
      transitions = length-take-le d.header.transitions d.arrows m ∙ k.transitions;
      row = λ i l.
          let low : i < d.header.states = omega (arith, l, k.states) in
          get_or-take d.header.states d.rows i 0 low ∙ k.row i l;
      arrow = λ i l.
          let low : i < d.header.transitions = omega (arith, l, k.transitions) in
          rw (get_or-take d.header.transitions d.arrows i 0 low) (k.arrow i l);
    }
