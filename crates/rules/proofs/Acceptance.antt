-- A sheet is accepted exactly when it is the bytes of something that keeps the rules. Assumes nothing.
use Rattle.std.specs.Prelude.{Ok}
use mathlib.Core.Path.{◌≡◌, refl, sym, ap, ◌∙◌, subst}
use mathlib.Core.Logic.{◌↔◌}
use mathlib.Core.List.{List}
use Prim.Native.Nat.{ℕ, ◌≤◌}
use lib.ListN.{length, take}
use Rattle.answer.proofs.BoolLaws.{true-false}
use Rattle.bits.specs.Read.{Ans, ok, no}
use Rattle.bits.proofs.ReadLaws.{ok-is}
use Rattle.reader.specs.Sheet.{Sheet}
use Rattle.reader.specs.Reading.{read_sheet}
use Rattle.format.specs.Fields.{WellFormed}
use Rattle.format.specs.Writing.{Bytes, sheet_of}
use Rattle.format.proofs.Format.{written_read, read_written, read_formed, written_bytes}
use Rattle.format.proofs.FirstBytes.{read_first}
use Rattle.sheet.specs.Judging.{judge, judge_read, check_sheet}
use Rattle.rules.specs.Rules.{Rules}
use Rattle.rules.specs.Acceptance.{Acceptance}
use Rattle.rules.proofs.Judged.{judged}
use Rattle.rules.proofs.Longest.{few_bytes}

-- a sheet that keeps the rules is well-formed
pub rules-formed : (a : Sheet) → Rules a → WellFormed a
rules-formed a r =
    record {
      states = r.states;
      inputs = r.inputs;
      outputs = r.outputs;
      transitions = r.transitions;
      rows = r.rows;
      row = r.row;
      fields = r.fields;
    }

judge-read : (x : Ans Sheet) → judge_read x ≡ Ok tt → (a : Sheet) × (end : ℕ) × (x ≡ ok a end) × (judge a ≡ Ok tt)
judge-read (ok a end) h = (a, end, refl, h)
judge-read (no why) h = true-false cc

-- an accepted sheet is read to its end, and keeps the rules
pub accepted-rules : (s : List ℕ) → check_sheet s ≡ Ok tt → (a : Sheet) × (end : ℕ) × (read_sheet s ≡ ok a end) × Rules a
unfolding check_sheet
accepted-rules s h =
    let x = judge-read (read_sheet s) h in
    (x.0, x.1, x.2, (judged x.0 (read_formed s x.0 x.1 x.2)).0 x.3)

pub rules-accepted : (a : Sheet) → Rules a → check_sheet (sheet_of a) ≡ Ok tt
unfolding check_sheet
rules-accepted a r = ap judge_read (written_read a (rules-formed a r)) ∙ (judged a (rules-formed a r)).1 r

pub accepted-exactly : (s : List ℕ) → ((check_sheet s ≡ Ok tt) × Bytes s) ↔ ((a : Sheet) × Rules a × (sheet_of a ≡ s))
accepted-exactly s = (forth, back)
  where
    forth : (check_sheet s ≡ Ok tt) × Bytes s → (a : Sheet) × Rules a × (sheet_of a ≡ s)
    forth h = let x = accepted-rules s h.0 in (x.0, x.3, read_written s x.0 x.1 h.1 x.2)

    back : (a : Sheet) × Rules a × (sheet_of a ≡ s) → (check_sheet s ≡ Ok tt) × Bytes s
    back x = (
      subst (λ (t : List ℕ). check_sheet t ≡ Ok tt) x.2 (rules-accepted x.0 x.1),
      subst Bytes x.2 (written_bytes x.0),
    )

pub one_sheet : (a b : Sheet) → Rules a → Rules b → sheet_of a ≡ sheet_of b → a ≡ b
one_sheet a b p q e = ok-is (sym (written_read a (rules-formed a p)) ∙ ap read_sheet e ∙ written_read b (rules-formed b q))

pub no_longer : (s : List ℕ) → check_sheet s ≡ Ok tt → length s ≤ 2537
no_longer s h = let x = accepted-rules s h in few_bytes s x.0 x.1 x.2 x.3

pub first_bytes : (s : List ℕ) → check_sheet (take 4096 s) ≡ check_sheet s
unfolding check_sheet
first_bytes s = ap judge_read (read_first s)

pub acceptance : Acceptance
acceptance = record { exactly = accepted-exactly; one_sheet = one_sheet; no_longer = no_longer; first_bytes = first_bytes }
