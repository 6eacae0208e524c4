-- A sheet is read exactly where its bits stand: its rows, and all of it. Assumes nothing.
use mathlib.Core.Path.{◌≡◌, refl, sym, ap, ap₂, ◌∙◌, subst, subst₂}
use mathlib.Core.List.{List, [], ◌∷◌, ◌++◌, append_assoc}
use mathlib.Core.Bool.{Bool, true}
use Prim.Native.Nat.{ℕ, ◌+◌}
use native.Mathlib.Omega.{arith}
use lib.ListN.{length, length-append}
use Rattle.bits.specs.Read.{ok, upto}
use Rattle.bits.proofs.ReadLaws.{ok-is, ok-next, upto-length}
use Rattle.bits.proofs.WordLaws.{bits-length}
use Rattle.reader.specs.Sheet.{Transition, Sheet, count, no_transition}
use Rattle.reader.specs.Reading.{read_header, row_at, transition_at, ends_at, read_sheet}
use Rattle.reader.specs.declared.Header.{Header}
use Rattle.format.specs.Fields.{Fields, WellFormed}
use Rattle.format.specs.Writing.{header_bits, rows_bits, transition_bits, transitions_bits, sheet_bits}
use Rattle.format.proofs.BitNumbers.{bits-num}
use Rattle.format.proofs.Stands.{Stands, stands-join, stands-split, stands-inside, field-stands, stands_read}
use Rattle.format.proofs.Steps.{field-then, bind-then, guard-then}
use Rattle.format.proofs.ListStands.{join_all, Said, upto-said, upto-reads}
use Rattle.format.proofs.TransitionStands.{transition-said, transition-reads}
use Rattle.format.proofs.HeadStands.{head_bits, HeadSaid, head-said, head-reads}

-- a row of l outputs is a field
row-said : (s : List ℕ) (l at : ℕ) (row : List Bool) (next : ℕ) → row_at s l at ≡ ok row next → Said s (λ r. r) (λ r. length r ≡ l) at row next
unfolding row_at
row-said s l at row next h =
    field-then s l at _ h λ v here e.
    subst₂ (Said s (λ r. r) (λ r. length r ≡ l) at) (ok-is e) (ok-next e)
    (record { stands = field-stands s at l v (at + l) here; after = ap (λ (n : ℕ). at + n) (sym (bits-length l v)); keeps = bits-length l v })

row_reads : (s : List ℕ) (l at : ℕ) (row : List Bool) → length row ≡ l → Stands s at row → row_at s l at ≡ ok row (at + length row)
unfolding row_at
row_reads s l at row e h = rw (stands_read s at l row e h) (ap₂ ok (bits-num l row e) (ap (λ (n : ℕ). at + n) (sym e)))

rows_join : (rows : List (List Bool)) → rows_bits rows ≡ join_all (λ r. r) rows
unfolding rows_bits
rows_join [] = refl
rows_join (row ∷ rows) = rw (rows_join rows)

transitions-join : (ts : List Transition) → transitions_bits ts ≡ join_all transition_bits ts
unfolding transitions_bits
transitions-join [] = refl
transitions-join (t ∷ ts) = rw (transitions-join ts)

abbrev head_of : Sheet → Header
head_of a = record { states = a.states; inputs = a.inputs; outputs = a.outputs; transitions = count a }

-- header, rows and transitions one behind the other
pub sheet-bits : (a : Sheet) → sheet_bits a ≡ head_bits (head_of a) ++ (join_all (λ r. r) a.rows ++ join_all transition_bits a.transitions)
unfolding sheet_bits header_bits
sheet-bits a = rw (rows_join a.rows, transitions-join a.transitions) (simp append_assoc)

head-length : (h : Header) → length (head_bits h) ≡ 20
head-length h = simp (length-append, bits-length)

-- what a sheet that was read says
pub record SheetSaid (s : List ℕ) (a : Sheet) (end : ℕ) : Type 0 where
  pub formed : WellFormed a
  pub stands : Stands s 0 (sheet_bits a)
  pub after : end ≡ length (sheet_bits a)
  pub ends : ends_at s end ≡ true

pub sheet-length : (a : Sheet) → length (sheet_bits a) ≡ 20 + length (join_all (λ r. r) a.rows) + length (join_all transition_bits a.transitions)
sheet-length a =
    let rows = join_all (λ r. r) a.rows in
    let ts = join_all transition_bits a.transitions in
    ap length (sheet-bits a)
    ∙ omega (arith, length-append (head_bits (head_of a)) (rows ++ ts), length-append rows ts, head-length (head_of a))

module _ (s : List ℕ) where
  parts_said : (h : Header) (a1 : ℕ) (rows : List (List Bool)) (a2 : ℕ) (ts : List Transition) (a3 : ℕ) → HeadSaid s h a1
      → upto (row_at s h.outputs) a1 h.states ≡ ok rows a2
      → upto (transition_at s h.states h.inputs) a2 h.transitions ≡ ok ts a3
      → ends_at s a3 ≡ true → SheetSaid s (record { states = h.states; inputs = h.inputs; outputs = h.outputs; rows = rows; transitions = ts }) a3
  parts_said h a1 rows a2 ts a3 said e2 e3 g =
      let a : Sheet = record { states = h.states; inputs = h.inputs; outputs = h.outputs; rows = rows; transitions = ts } in
      let rows_many : length rows ≡ h.states = upto-length (row_at s h.outputs) a1 h.states e2 in
      let many : length ts ≡ h.transitions = upto-length (transition_at s h.states h.inputs) a2 h.transitions e3 in
      let same : head_bits h ≡ head_bits (head_of a) = rw many in
      let head : Stands s 0 (head_bits (head_of a)) = subst (Stands s 0) same said.stands in
      let in1 = stands-inside s 0 (head_bits (head_of a)) head in
      let r = upto-said s (row_at s h.outputs) (λ r. r) (λ r. length r ≡ h.outputs) [] a1 (row-said s h.outputs)
      (omega (arith, said.after, head-length (head_of a))) h.states rows a2 e2 in
      let in2 = stands-inside s a1 (join_all (λ r. r) rows) r.stands in
      let t = upto-said s (transition_at s h.states h.inputs) transition_bits (Fields h.states h.inputs) no_transition a2
      (transition-said s h.states h.inputs) (omega (arith, r.after)) h.transitions ts a3 e3 in
      let both = stands-join s a1 (join_all (λ r. r) rows) (join_all transition_bits ts) r.stands
      (subst (λ (m : ℕ). Stands s m (join_all transition_bits ts)) r.after t.stands) in
      let here : a1 ≡ 0 + length (head_bits (head_of a)) = omega (arith, said.after, head-length (head_of a)) in
      record {
        formed = record {
          states = said.states;
          inputs = said.inputs;
          outputs = said.outputs;
          transitions = omega (arith, said.transitions);
          rows = rows_many;
          row = λ i l. r.keeps i (omega arith);
          fields = t.keeps;
        };
        stands = rw (sheet-bits a)
            (stands-join s 0 (head_bits (head_of a)) _ head (subst (λ (m : ℕ). Stands s m (join_all (λ r. r) rows ++ join_all transition_bits ts)) here both));
        after = omega (arith, sheet-length a, said.after, r.after, t.after);
        ends = g;
      }

  pub sheet-said : (a : Sheet) (end : ℕ) → read_sheet s ≡ ok a end → SheetSaid s a end
  unfolding read_sheet
  sheet-said a end e =
      bind-then (read_header s) _ e λ h a1 e1 k1.
      bind-then (upto (row_at s h.outputs) a1 h.states) _ k1 λ rows a2 e2 k2.
      bind-then (upto (transition_at s h.states h.inputs) a2 h.transitions) _ k2 λ ts a3 e3 k3.
      guard-then (ends_at s a3) _ _ k3 λ g k4.
      subst₂ (SheetSaid s) (ok-is k4) (ok-next k4) (parts_said h a1 rows a2 ts a3 (head-said s h a1 e1) e2 e3 g)

  rows-read : (a : Sheet) → WellFormed a → (at : ℕ) → Stands s at (join_all (λ r. r) a.rows)
      → upto (row_at s a.outputs) at a.states ≡ ok a.rows (at + length (join_all (λ r. r) a.rows))
  rows-read a f at h =
      subst (λ (n : ℕ). upto (row_at s a.outputs) at n ≡ ok a.rows (at + length (join_all (λ r. r) a.rows))) f.rows
      (upto-reads s (row_at s a.outputs) (λ r. r) (λ r. length r ≡ a.outputs) [] at (row_reads s a.outputs) a.rows
      (λ i l. f.row i (omega (arith, f.rows))) h)

  transitions-read : (a : Sheet) → WellFormed a → (at : ℕ) → Stands s at (join_all transition_bits a.transitions)
      → upto (transition_at s a.states a.inputs) at (count a) ≡ ok a.transitions (at + length (join_all transition_bits a.transitions))
  transitions-read a f at h =
      upto-reads s (transition_at s a.states a.inputs) transition_bits (Fields a.states a.inputs) no_transition at
      (λ b t q st. transition-reads s a.states a.inputs b f.states.1 f.inputs.1 t q st) a.transitions f.fields h

  -- a well-formed sheet is read where its bits stand and nothing follows them
  pub sheet-reads : (a : Sheet) → WellFormed a → Stands s 0 (sheet_bits a) → ends_at s (length (sheet_bits a)) ≡ true → read_sheet s ≡ ok a (length (sheet_bits a))
  unfolding read_sheet
  sheet-reads a f h g =
      let rows = join_all (λ r. r) a.rows in
      let ts = join_all transition_bits a.transitions in
      let c1 = stands-split s 0 (head_bits (head_of a)) (rows ++ ts) (subst (Stands s 0) (sheet-bits a) h) in
      let c2 = stands-split s 20 rows ts (rw (head-length (head_of a)) at c1.1) in
      let end : ends_at s (20 + length rows + length ts) ≡ true = rw (sheet-length a) at g in
      rw (
        sheet-length a,
        head-reads s (head_of a) f.states f.inputs f.outputs f.transitions c1.0,
        rows-read a f 20 c2.0,
        transitions-read a f (20 + length rows) c2.1,
        end,
      )
