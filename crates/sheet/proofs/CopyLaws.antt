-- The rules over the decoded copy are the rules over the sheet. Assumes nothing.
use mathlib.Core.Path.{◌≡◌, ◌∙◌}
use mathlib.Core.Bool.{Bool}
use mathlib.Core.List.{List}
use Prim.Native.Nat.{ℕ, ◌≤◌, ◌<◌}
use native.Mathlib.Omega.{arith}
use lib.ListN.{length, take}
use Rattle.answer.specs.Lowest.{any_below, first_below}
use Rattle.answer.proofs.Laws.{any_same, first-same}
use Rattle.reader.specs.Sheet.{Transition, Sheet, count, transition_of, row_of}
use Rattle.reader.specs.inside.Decoding.{Copy}
use Rattle.reader.specs.declared.Decoded.{Decoded}
use Rattle.reader.proofs.HeldLaws.{Held, copy-held}
use Rattle.sheet.specs.Judging.{
  loops,
  same_pair,
  same_rank,
  clashes,
  goes_home,
  lacks_home,
  lacks_home_form,
  lacks_gate,
  wrong_activity,
  judge,
}
use Rattle.reader.specs.inside.Packing.{unpack, arrow_at}
use Rattle.sheet.specs.inside.Arrows.{
  breaks_arrow,
  first_break,
  clash_arrows,
  first_clash,
  home_arrow,
  has_home,
  lacks_home_arrow,
  activity_row,
  judge_arrows,
}
use Rattle.sheet.specs.declared.Rule.{Rule}
use Rattle.sheet.specs.declared.Rule.TheVariants as rule
use Rattle.sheet.specs.declared.Clash.{Clash}
use Rattle.sheet.specs.declared.Clash.TheVariants as clash
use Rattle.sheet.proofs.FormLaws.{off-form, gated-form}
use Rattle.sheet.proofs.SearchLaws.{position-is}
use Rattle.sheet.proofs.RowLaws.{bit-first}

module _ (s rows arrows : List ℕ) (a : Sheet) (k : Held s rows arrows a) where
  -- a test of one arrow and a test of its transition that agree
  arrows-same : (r : Rule) (q : Transition → Bool) → ((i : ℕ) → i < count a → breaks_arrow r (arrow_at arrows i) ≡ q (transition_of a i))
      → first_break r arrows ≡ first_below (λ i. q (transition_of a i)) (count a)
  arrows-same r q h =
      position-is (λ w. breaks_arrow r (unpack w)) arrows 0
      ∙ rw k.transitions (first-same (λ i. breaks_arrow r (arrow_at arrows i)) (λ i. q (transition_of a i)) (count a) h)

  clash-same : (c : Clash) (q : Transition → Transition → Bool)
      → ((i j : ℕ) → i < count a → j < count a → clash_arrows c (arrow_at arrows i) (arrow_at arrows j) ≡ q (transition_of a i) (transition_of a j))
      → first_clash c arrows ≡ first_below (clashes q a) (count a)
  unfolding first_clash clashes
  clash-same c q h =
      rw k.transitions
      (first-same (λ j. any_below (λ i. clash_arrows c (arrow_at arrows i) (arrow_at arrows j)) j) (clashes q a) (count a)
      λ j l. any_same (λ i. clash_arrows c (arrow_at arrows i) (arrow_at arrows j)) (λ i. q (transition_of a i) (transition_of a j)) j
      λ i b. h i j (omega arith) l)

  home_same : first_below (lacks_home_arrow arrows) a.states ≡ first_below (lacks_home a) a.states
  unfolding has_home lacks_home
  home_same =
      first-same (lacks_home_arrow arrows) (lacks_home a) a.states
      λ n l. rw (
        k.transitions,
        any_same (λ i. home_arrow n (arrow_at arrows i)) (λ i. goes_home n (transition_of a i)) (count a)
            λ i b. rw ((k.arrow i b).source, (k.arrow i b).destination),
      )

  activity-same : first_below (activity_row rows) (length rows) ≡ first_below (wrong_activity a) a.states
  activity-same =
      rw k.states (first-same (activity_row rows) (wrong_activity a) a.states λ n l. rw (k.row n l, bit-first (row_of a n)))

  pub judge-same : judge_arrows arrows rows a.states ≡ judge a
  unfolding judge_arrows judge
  judge-same =
      rw (
        arrows-same rule.Loop loops (λ i l. rw ((k.arrow i l).source, (k.arrow i l).destination)),
        clash-same clash.Pair same_pair (λ i j l b. rw ((k.arrow i l).source, (k.arrow j b).source, (k.arrow i l).destination, (k.arrow j b).destination)),
        clash-same clash.Rank same_rank (λ i j l b. rw ((k.arrow i l).source, (k.arrow j b).source, (k.arrow i l).priority, (k.arrow j b).priority)),
        home_same,
        arrows-same rule.HomeForm lacks_home_form
            (λ i l. rw ((k.arrow i l).destination, (k.arrow i l).priority, (k.arrow i l).wait, (k.arrow i l).form, off-form (transition_of a i).condition)),
        arrows-same rule.Gate lacks_gate (λ i l. rw ((k.arrow i l).source, (k.arrow i l).form, gated-form (transition_of a i).condition)),
        activity-same,
      )

pub copy-judged : (s : List ℕ) (d : Decoded) (a : Sheet) → Copy s d a → d.header.states ≤ length d.rows → d.header.transitions ≤ length d.arrows
    → (rows arrows : List ℕ) → rows ≡ take d.header.states d.rows → arrows ≡ take d.header.transitions d.arrows
    → judge_arrows arrows rows d.header.states ≡ judge a
copy-judged s d a k n m rows arrows e f = let h = copy-held s d a k n m in rw (e, f, k.states) (judge-same s _ _ a (rw k.states at h))
