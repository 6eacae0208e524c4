-- How large the place of a refused translation and the length of an accepted one can be. Assumes nothing.
use mathlib.Core.Path.{◌≡◌}
use mathlib.Core.Bool.{Bool, true, false, cond}
use mathlib.Core.List.{List}
use Prim.Native.Nat.{ℕ, ◌≤◌}
use native.Mathlib.Omega.{arith}
use lib.Dec.{leb}
use lib.ListN.{length}
use Rattle.answer.specs.Number.{place_of, farthest}
use Rattle.answer.specs.declared.Refusal.TheVariants.{Room}
use Rattle.bits.specs.Read.{ok}
use Rattle.condition.specs.Cond.{nodes}
use Rattle.reader.specs.Sheet.{Sheet}
use Rattle.reader.specs.Reading.{read_sheet}
use Rattle.sheet.proofs.PlaceLaws.{with-holds}
use Rattle.format.proofs.Format.{read_formed}
use Rattle.scan.proofs.AllLaws.{all_of}
use Rattle.translate.specs.Writing.{code_of, Written, unwritten, written_with, translate_into, no_record, cold_run}
use Rattle.translate.specs.Writing.{Cold}
use Rattle.translate.proofs.LengthLaws.{code_end, code-bytes}
use Rattle.translate.proofs.RoomLaws.{end-words}

-- the code of a sheet that was read
code_fits : (s : List ℕ) (a : Sheet) (end : ℕ) → read_sheet s ≡ ok a end → length (code_of a) ≤ farthest
code_fits s a end e =
    let f = read_formed s a end e in
    let h = all_of (λ t. nodes t.condition ≤ 31) a.transitions (λ i l. (f.fields i l).nodes) in
    omega (
      arith,
      code-bytes a,
      code_end a f.rows f.row,
      end-words a h f.transitions.1 f.states.1 f.outputs.1,
    )

-- what is answered: the place and the length
abbrev Small : Written → Type 0
Small w = (place_of w.answer.verdict ≤ farthest) × (w.answer.length ≤ farthest)

answer-small : (s buffer : List ℕ) → Small (translate_into s buffer)
unfolding translate_into
answer-small s buffer =
    with-holds Small (unwritten buffer) (λ why h. (omega arith, omega arith)) s _
    (λ a end e. go (leb (length (code_of a)) (length buffer)) (code_of a) (code_fits s a end e))
  where
    go : (b : Bool) (bytes : List ℕ) → length bytes ≤ farthest
        → Small (cond b (written_with buffer bytes) (unwritten buffer (Room (length bytes))))
    go true bytes h = (omega arith, h)
    go false bytes h = (h, omega arith)

pub place-fits : (s buffer : List ℕ) → place_of (translate_into s buffer).answer.verdict ≤ farthest
place-fits s buffer = (answer-small s buffer).0

pub length-fits : (s buffer : List ℕ) → (translate_into s buffer).answer.length ≤ farthest
length-fits s buffer = (answer-small s buffer).1

pub cold-place-fits : (s : List ℕ) → place_of (cold_run s).verdict ≤ farthest
unfolding cold_run
cold-place-fits s =
    with-holds (λ (x : Cold). place_of x.verdict ≤ farthest) no_record (λ why h. omega arith) s _
    (λ a end e. omega arith)
