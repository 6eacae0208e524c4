-- How large the place of a refused sheet can be, and that of what goes on with a sheet. Assumes nothing.
use Rattle.std.specs.Prelude.{Ok, Err}
use mathlib.Core.Path.{◌≡◌, refl}
use mathlib.Core.List.{List}
use Prim.Native.Nat.{ℕ, ◌≤◌}
use native.Mathlib.Omega.{arith}
use Rattle.answer.specs.Number.{place, place_of, farthest}
use Rattle.answer.specs.declared.Refusal.{Refusal}
use Rattle.answer.specs.declared.Refusal.TheVariants.{Loop, Pair, Rank, NoHome, HomeForm, Gate, Activity}
use Rattle.answer.specs.Checked.{Checked}
use Rattle.answer.proofs.PlaceLaws.{search-fits}
use Rattle.bits.specs.Read.{Ans, ok, no}
use Rattle.reader.specs.Sheet.{Sheet, count}
use Rattle.reader.specs.Reading.{read_sheet}
use Rattle.reader.proofs.Laws.{read-sizes}
use Rattle.reader.proofs.PlaceLaws as reading
use Rattle.sheet.specs.Judging.{judge, judge_read, check_sheet, judged_or, read_or, with_sheet}

-- a transition or a state
judge-fits : (a : Sheet) → a.states ≤ 128 → count a ≤ 128 → place_of (judge a) ≤ 128
unfolding judge
judge-fits a n m =
    search-fits Loop (λ i. refl) 128 _ (count a) m _
    (search-fits Pair (λ i. refl) 128 _ (count a) m _
    (search-fits Rank (λ i. refl) 128 _ (count a) m _
    (search-fits NoHome (λ i. refl) 128 _ a.states n _
    (search-fits HomeForm (λ i. refl) 128 _ (count a) m _
    (search-fits Gate (λ i. refl) 128 _ (count a) m _
    (search-fits Activity (λ i. refl) 128 _ a.states n _ (omega arith)))))))

read_fits : (s : List ℕ) (a : Sheet) (end : ℕ) → read_sheet s ≡ ok a end → place_of (judge a) ≤ 128
read_fits s a end e = let z = read-sizes s a end e in judge-fits a (omega (arith, z.0)) z.1

pub place-fits : (s : List ℕ) → place_of (check_sheet s) ≤ farthest
unfolding check_sheet
place-fits s = go (read_sheet s) refl
  where
    go : (x : Ans Sheet) → read_sheet s ≡ x → place_of (judge_read x) ≤ farthest
    go (ok a end) e = omega (arith, read_fits s a end e)
    go (no why) e = reading.place-fits s why e

-- what goes on with a sheet: what holds of every refusal with such a place, and of every sheet that was read, holds
module _ {B : Type 0} (P : B → Type 0) (refuse : Refusal → B) (h : (why : Refusal) → place why ≤ farthest → P (refuse why)) where
  judged-holds : (v : Checked) (b : B) → place_of v ≤ 128 → P b → P (judged_or v refuse b)
  judged-holds (Ok tt) b l p = p
  judged-holds (Err why) b l p = h why (omega arith)

  pub with-holds : (s : List ℕ) (go : Sheet → B) → ((a : Sheet) (end : ℕ) → read_sheet s ≡ ok a end → P (go a)) → P (with_sheet s refuse go)
  unfolding with_sheet
  with-holds s go p = by (read_sheet s) refl
    where
      by : (x : Ans Sheet) → read_sheet s ≡ x → P (read_or x refuse go)
      by (ok a end) e = judged-holds (judge a) (go a) (read_fits s a end e) (p a end e)
      by (no why) e = h why (reading.place-fits s why e)
