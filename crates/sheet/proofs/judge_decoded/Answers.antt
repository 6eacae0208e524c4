-- `sheet::judge_decoded` meets its contract. Assumes nothing.
use Rattle.std.specs.Prelude.{Ok, Err, None}
use mathlib.Core.Path.{◌≡◌, sym, ◌∙◌}
use Prim.Native.Nat.{ℕ}
use native.Mathlib.Omega.{arith}
use Rattle.std.specs.declared.option.Option.{Option}
use Rattle.std.proofs.lemmas.Result.{err_from_is_err_and}
use Rattle.answer.specs.Checked.{Checked}
use Rattle.answer.specs.Lowest.{refuse_at}
use Rattle.answer.specs.declared.Refusal.{Refusal}
use Rattle.answer.specs.declared.Refusal.TheVariants.{Loop, Pair, Rank, NoHome, HomeForm, Gate, Activity}
use Rattle.sheet.specs.inside.Arrows.{judge_arrows}
use Rattle.sheet.proofs.SearchLaws.{refuse-none, refuse-found}
use Rattle.sheet.proofs.CopyLaws.{copy-judged}
use Rattle.sheet.proofs.judge_decoded.Goals as goal

-- what was not refused was not found
none : (why : ℕ → Refusal) {f g : Option ℕ} → f ≡ g → Ok tt ≡ refuse_at why f (Ok tt) → g ≡ None
none why {f} {g} e h = sym e ∙ refuse-none why f (sym h)

-- what was refused is refused whatever comes later
stop : (why : ℕ → Refusal) {f g : Option ℕ} {r : Refusal} → f ≡ g → Err r ≡ refuse_at why f (Ok tt) → (later : Checked) → Err r ≡ refuse_at why g later
stop why {f} {g} {r} e h later = rw (← e) (sym (refuse-found why f r (sym h) later))

pub returns-in_err-refuse : goal.returns-in_err-refuse
unfolding judge_arrows
returns-in_err-refuse c s a k =
    let same = copy-judged s _ a k (omega arith) (omega arith) _ _ c.rows-rows.ensures c.arrows-arrows.ensures in
    let p = err_from_is_err_and c.from_residual.result c.from_residual.ensures.1 in
    rw (← same, p.1, p.2) (stop Loop c.first_arrow.ensures (c.in_err-refuse.ensures Loop (λ i r q. q)) _)

pub returns-in_err-refuse-2 : goal.returns-in_err-refuse-2
unfolding judge_arrows
returns-in_err-refuse-2 c s a k =
    let same = copy-judged s _ a k (omega arith) (omega arith) _ _ c.rows-rows.ensures c.arrows-arrows.ensures in
    let n1 = none Loop c.first_arrow.ensures (c.in_ok-refuse.ensures Loop (λ i r q. q)) in
    let p = err_from_is_err_and c.from_residual-in_err-refuse-2.result c.from_residual-in_err-refuse-2.ensures.1 in
    rw (← same, p.1, p.2, n1) (stop Pair c.first_clash.ensures (c.in_err-refuse-2.ensures Pair (λ i r q. q)) _)

pub returns-in_err-refuse-3 : goal.returns-in_err-refuse-3
unfolding judge_arrows
returns-in_err-refuse-3 c s a k =
    let same = copy-judged s _ a k (omega arith) (omega arith) _ _ c.rows-rows.ensures c.arrows-arrows.ensures in
    let n1 = none Loop c.first_arrow.ensures (c.in_ok-refuse.ensures Loop (λ i r q. q)) in
    let n2 = none Pair c.first_clash.ensures (c.in_ok-refuse-2.ensures Pair (λ i r q. q)) in
    let p = err_from_is_err_and c.from_residual-in_err-refuse-3.result c.from_residual-in_err-refuse-3.ensures.1 in
    rw (← same, p.1, p.2, n1, n2) (stop Rank c.first_clash-2.ensures (c.in_err-refuse-3.ensures Rank (λ i r q. q)) _)

pub returns-in_err-refuse-4 : goal.returns-in_err-refuse-4
unfolding judge_arrows
returns-in_err-refuse-4 c s a k =
    let same = copy-judged s _ a k (omega arith) (omega arith) _ _ c.rows-rows.ensures c.arrows-arrows.ensures in
    let n1 = none Loop c.first_arrow.ensures (c.in_ok-refuse.ensures Loop (λ i r q. q)) in
    let n2 = none Pair c.first_clash.ensures (c.in_ok-refuse-2.ensures Pair (λ i r q. q)) in
    let n3 = none Rank c.first_clash-2.ensures (c.in_ok-refuse-3.ensures Rank (λ i r q. q)) in
    let p = err_from_is_err_and c.from_residual-in_err-refuse-4.result c.from_residual-in_err-refuse-4.ensures.1 in
    rw (← same, p.1, p.2, n1, n2, n3) (stop NoHome c.first_no_home.ensures (c.in_err-refuse-4.ensures NoHome (λ i r q. q)) _)

pub returns-in_err-refuse-5 : goal.returns-in_err-refuse-5
unfolding judge_arrows
returns-in_err-refuse-5 c s a k =
    let same = copy-judged s _ a k (omega arith) (omega arith) _ _ c.rows-rows.ensures c.arrows-arrows.ensures in
    let n1 = none Loop c.first_arrow.ensures (c.in_ok-refuse.ensures Loop (λ i r q. q)) in
    let n2 = none Pair c.first_clash.ensures (c.in_ok-refuse-2.ensures Pair (λ i r q. q)) in
    let n3 = none Rank c.first_clash-2.ensures (c.in_ok-refuse-3.ensures Rank (λ i r q. q)) in
    let n4 = none NoHome c.first_no_home.ensures (c.in_ok-refuse-4.ensures NoHome (λ i r q. q)) in
    let p = err_from_is_err_and c.from_residual-in_err-refuse-5.result c.from_residual-in_err-refuse-5.ensures.1 in
    rw (← same, p.1, p.2, n1, n2, n3, n4) (stop HomeForm c.first_arrow-2.ensures (c.in_err-refuse-5.ensures HomeForm (λ i r q. q)) _)

pub returns-in_err-refuse-6 : goal.returns-in_err-refuse-6
unfolding judge_arrows
returns-in_err-refuse-6 c s a k =
    let same = copy-judged s _ a k (omega arith) (omega arith) _ _ c.rows-rows.ensures c.arrows-arrows.ensures in
    let n1 = none Loop c.first_arrow.ensures (c.in_ok-refuse.ensures Loop (λ i r q. q)) in
    let n2 = none Pair c.first_clash.ensures (c.in_ok-refuse-2.ensures Pair (λ i r q. q)) in
    let n3 = none Rank c.first_clash-2.ensures (c.in_ok-refuse-3.ensures Rank (λ i r q. q)) in
    let n4 = none NoHome c.first_no_home.ensures (c.in_ok-refuse-4.ensures NoHome (λ i r q. q)) in
    let n5 = none HomeForm c.first_arrow-2.ensures (c.in_ok-refuse-5.ensures HomeForm (λ i r q. q)) in
    let p = err_from_is_err_and c.from_residual-in_err-refuse-6.result c.from_residual-in_err-refuse-6.ensures.1 in
    rw (← same, p.1, p.2, n1, n2, n3, n4, n5) (stop Gate c.first_arrow-3.ensures (c.in_err-refuse-6.ensures Gate (λ i r q. q)) _)

pub returns : goal.returns
unfolding judge_arrows
returns c s a k =
    let same = copy-judged s _ a k (omega arith) (omega arith) _ _ c.rows-rows.ensures c.arrows-arrows.ensures in
    let n1 = none Loop c.first_arrow.ensures (c.in_ok-refuse.ensures Loop (λ i r q. q)) in
    let n2 = none Pair c.first_clash.ensures (c.in_ok-refuse-2.ensures Pair (λ i r q. q)) in
    let n3 = none Rank c.first_clash-2.ensures (c.in_ok-refuse-3.ensures Rank (λ i r q. q)) in
    let n4 = none NoHome c.first_no_home.ensures (c.in_ok-refuse-4.ensures NoHome (λ i r q. q)) in
    let n5 = none HomeForm c.first_arrow-2.ensures (c.in_ok-refuse-5.ensures HomeForm (λ i r q. q)) in
    let n6 = none Gate c.first_arrow-3.ensures (c.in_ok-refuse-6.ensures Gate (λ i r q. q)) in
    rw (← same, n1, n2, n3, n4, n5, n6) (rw (← c.first_activity.ensures) (c.refuse-7.ensures Activity (λ i r q. q)))
