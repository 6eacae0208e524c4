-- Laws of going on with a sheet: by its refusal, or by the sheet that is accepted. Assumes nothing.
use Rattle.std.specs.Prelude.{Ok, Err}
use Prim.Native.Nat.{ℕ}
use mathlib.Core.Path.{◌≡◌, refl, ap}
use mathlib.Core.List.{List}
use Rattle.answer.specs.declared.Refusal.{Refusal}
use Rattle.answer.specs.Checked.{Checked}
use Rattle.answer.proofs.CheckedLaws.{refused-is, accepted-refused}
use Rattle.bits.specs.Read.{Ans, ok, no}
use Rattle.reader.specs.Sheet.{Sheet}
use Rattle.reader.specs.Reading.{read_sheet}
use Rattle.sheet.specs.Judging.{judge, judge_read, check_sheet, judged_or, read_or, with_sheet}

judged-refused : {B : Type 0} (v : Checked) (why : Refusal) (refuse : Refusal → B) (b : B) → v ≡ Err why → judged_or v refuse b ≡ refuse why
judged-refused (Ok tt) why refuse b e = accepted-refused refl e
judged-refused (Err q) why refuse b e = ap refuse (refused-is e)

read-refused : {B : Type 0} (x : Ans Sheet) (why : Refusal) (refuse : Refusal → B) (go : Sheet → B) → judge_read x ≡ Err why
    → read_or x refuse go ≡ refuse why
read-refused (ok a end) why refuse go e = judged-refused (judge a) why refuse (go a) e
read-refused (no q) why refuse go e = ap refuse (refused-is e)

-- a refused sheet is gone on with by its refusal
pub with-refused : {B : Type 0} (s : List ℕ) (why : Refusal) (refuse : Refusal → B) (go : Sheet → B) → check_sheet s ≡ Err why
    → with_sheet s refuse go ≡ refuse why
unfolding check_sheet with_sheet
with-refused s why refuse go e = read-refused (read_sheet s) why refuse go e

-- an accepted one by the sheet that its bytes are
pub with-accepted : {B : Type 0} (s : List ℕ) (a : Sheet) (end : ℕ) (refuse : Refusal → B) (go : Sheet → B) → read_sheet s ≡ ok a end
    → judge a ≡ Ok tt → with_sheet s refuse go ≡ go a
unfolding with_sheet
with-accepted s a end refuse go e j = rw (e, j)

-- the check of a sheet that was read
pub check-read : (s : List ℕ) (a : Sheet) (end : ℕ) → read_sheet s ≡ ok a end → check_sheet s ≡ judge a
unfolding check_sheet
check-read s a end e = rw e

pub check-unread : (s : List ℕ) (why : Refusal) → read_sheet s ≡ no why → check_sheet s ≡ Err why
unfolding check_sheet
check-unread s why e = rw e
