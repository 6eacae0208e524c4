-- Numbers 7 to 13: the judge answers the lowest fault of the sheet.
use Rattle.std.specs.Prelude.{Ok}
use mathlib.Core.Path.{◌≡◌, refl, sym, ap}
use mathlib.Core.Logic.{inl, inr}
use mathlib.Core.Bool.{Bool, true, false, not, ◌&&◌}
use Prim.Native.Nat.{ℕ, ◌≤◌, ◌<◌}
use native.Mathlib.Omega.{arith}
use borrow.Author.Tests.{eqb-true, eq-eqb, ltb-true, lt-ltb, not-true}
use lib.Dec.{eqb, ltb}
use Rattle.answer.specs.declared.Refusal.TheVariants as refuse
use Rattle.answer.specs.Checked.{Checked}
use Rattle.answer.specs.Lowest.{any_below, first_below, refuse_at}
use Rattle.answer.proofs.Laws.{any-hit}
use Rattle.condition.specs.Cond.{Cond, inp, neg, conj, disj, is_on, is_off, is_gated}
use Rattle.reader.specs.Sheet.{Transition, Sheet, count, transition_of}
use Rattle.rules.specs.Rules.{HomeForm, Gated}
use Rattle.sheet.specs.Judging.{loops, same_pair, same_rank, clashes, goes_home, lacks_home, lacks_home_form, lacks_gate, differs, wrong_activity, judge}
use Rattle.refusals.specs.Refusals.{Lowest, SheetFault, loop, pair, rank, no_home, home_form, gate, activity}
use Rattle.refusals.proofs.LowestLaws.{true-false, any_of, From, lowest-end, lowest-below, lowest-all}

both : (a b : Bool) → a && b ≡ true → (a ≡ true) × (b ≡ true)
both true b e = (refl, e)
both false b e = (e, absurd (let z : ◌≡◌ {A = ℕ} 0 1 = cc in omega arith))

and_yes : {a b : Bool} → a ≡ true → b ≡ true → a && b ≡ true
and_yes e f = rw (e, f) refl

not_yes : {a : Bool} → (a ≡ true → ⊥) → not a ≡ true
not_yes {a} h = go a h
  where
    go : (b : Bool) → (b ≡ true → ⊥) → not b ≡ true
    go true h = absurd (h refl)
    go false h = refl

-- the forms of conditions
is-on : (c : Cond) → is_on c ≡ true → c ≡ inp 0
unfolding is_on
is-on (inp i) e = ap inp (eqb-true i 0 e)
is-on (neg c) e = cc
is-on (conj a b) e = cc
is-on (disj a b) e = cc

is-off : (c : Cond) → is_off c ≡ true → c ≡ neg (inp 0)
unfolding is_off
is-off (inp i) e = cc
is-off (neg c) e = ap neg (is-on c e)
is-off (conj a b) e = cc
is-off (disj a b) e = cc

off-is : (c : Cond) → c ≡ neg (inp 0) → is_off c ≡ true
unfolding is_off is_on
off-is c e = rw e refl

is-gated : (c : Cond) → is_gated c ≡ true → Gated c
unfolding is_gated
is-gated (inp i) e = inl (ap inp (eqb-true i 0 e))
is-gated (neg c) e = absurd (let z : ◌≡◌ {A = ℕ} 0 1 = cc in omega arith)
is-gated (conj a b) e = inr (b, ap (λ d. conj d b) (is-on a e))
is-gated (disj a b) e = absurd (let z : ◌≡◌ {A = ℕ} 0 1 = cc in omega arith)

gated-is : (c : Cond) → Gated c → is_gated c ≡ true
unfolding is_gated is_on
gated-is c (inl e) = rw e refl
gated-is c (inr h) = rw h.1 refl

form-is : (t : Transition) → HomeForm t → eqb t.priority 0 && eqb t.wait 0 && is_off t.condition ≡ true
form-is t h = and_yes (and_yes (eq-eqb _ 0 h.priority) (eq-eqb _ 0 h.wait)) (off-is t.condition h.off)

is-form : (t : Transition) → eqb t.priority 0 && eqb t.wait 0 && is_off t.condition ≡ true → HomeForm t
is-form t e =
    let p : (eqb t.priority 0 && eqb t.wait 0 ≡ true) × (is_off t.condition ≡ true) = both _ _ e in
    let q : (eqb t.priority 0 ≡ true) × (eqb t.wait 0 ≡ true) = both _ _ p.0 in
    record { priority = eqb-true _ 0 q.0; wait = eqb-true _ 0 q.1; off = is-off t.condition p.1 }

differ : (a b : Bool) → differs a b ≡ true → a ≡ b → ⊥
differ true b e f = true-false (sym f) (not-true b e)
differ false b e f = true-false e (sym f)

same_not : (a b : Bool) → (a ≡ b → ⊥) → differs a b ≡ true
same_not true true h = absurd (h refl)
same_not true false h = refl
same_not false true h = refl
same_not false false h = absurd (h refl)

module _ (a : Sheet) where
  -- each fault has its test; the other numbers are other faults
  loop-test : (p : ℕ) → SheetFault a 7 p → (p < count a) × (loops (transition_of a p) ≡ true)
  loop-test p (loop n l e) = (l, eq-eqb _ _ e)
  loop-test p (pair n l j m e f) = absurd (omega arith)
  loop-test p (rank n l j m e f) = absurd (omega arith)
  loop-test p (no_home n l m f) = absurd (omega arith)
  loop-test p (home_form n l e f) = absurd (omega arith)
  loop-test p (gate n l e f) = absurd (omega arith)
  loop-test p (activity n l f) = absurd (omega arith)

  pair-test : (p : ℕ) → SheetFault a 8 p → (p < count a) × (clashes same_pair a p ≡ true)
  unfolding clashes
  pair-test p (loop n l e) = absurd (omega arith)
  pair-test p (pair n l j m e f) =
      (l, any-hit (λ i. same_pair (transition_of a i) (transition_of a p)) j p m (and_yes (eq-eqb _ _ e) (eq-eqb _ _ f)))
  pair-test p (rank n l j m e f) = absurd (omega arith)
  pair-test p (no_home n l m f) = absurd (omega arith)
  pair-test p (home_form n l e f) = absurd (omega arith)
  pair-test p (gate n l e f) = absurd (omega arith)
  pair-test p (activity n l f) = absurd (omega arith)

  rank-test : (p : ℕ) → SheetFault a 9 p → (p < count a) × (clashes same_rank a p ≡ true)
  unfolding clashes
  rank-test p (loop n l e) = absurd (omega arith)
  rank-test p (pair n l j m e f) = absurd (omega arith)
  rank-test p (rank n l j m e f) =
      (l, any-hit (λ i. same_rank (transition_of a i) (transition_of a p)) j p m (and_yes (eq-eqb _ _ e) (eq-eqb _ _ f)))
  rank-test p (no_home n l m f) = absurd (omega arith)
  rank-test p (home_form n l e f) = absurd (omega arith)
  rank-test p (gate n l e f) = absurd (omega arith)
  rank-test p (activity n l f) = absurd (omega arith)

  home-test : (p : ℕ) → SheetFault a 10 p → (p < a.states) × (lacks_home a p ≡ true)
  unfolding lacks_home
  home-test p (loop n l e) = absurd (omega arith)
  home-test p (pair n l j m e f) = absurd (omega arith)
  home-test p (rank n l j m e f) = absurd (omega arith)
  home-test p (no_home n l m f) = (
    l,
    and_yes (lt-ltb 0 p m) (not_yes (λ e.
        let h = any_of (λ i. goes_home p (transition_of a i)) (count a) e in
        let q : (eqb (transition_of a h.0).source p ≡ true) × (eqb (transition_of a h.0).destination 0 ≡ true) = both _ _ h.2 in
        f h.0 h.1 (eqb-true _ p q.0) (eqb-true _ 0 q.1))),
  )
  home-test p (home_form n l e f) = absurd (omega arith)
  home-test p (gate n l e f) = absurd (omega arith)
  home-test p (activity n l f) = absurd (omega arith)

  form-test : (p : ℕ) → SheetFault a 11 p → (p < count a) × (lacks_home_form (transition_of a p) ≡ true)
  form-test p (loop n l e) = absurd (omega arith)
  form-test p (pair n l j m e f) = absurd (omega arith)
  form-test p (rank n l j m e f) = absurd (omega arith)
  form-test p (no_home n l m f) = absurd (omega arith)
  form-test p (home_form n l e f) = (l, and_yes (eq-eqb _ 0 e) (not_yes (λ g. f (is-form (transition_of a p) g))))
  form-test p (gate n l e f) = absurd (omega arith)
  form-test p (activity n l f) = absurd (omega arith)

  gate-test : (p : ℕ) → SheetFault a 12 p → (p < count a) × (lacks_gate (transition_of a p) ≡ true)
  gate-test p (loop n l e) = absurd (omega arith)
  gate-test p (pair n l j m e f) = absurd (omega arith)
  gate-test p (rank n l j m e f) = absurd (omega arith)
  gate-test p (no_home n l m f) = absurd (omega arith)
  gate-test p (home_form n l e f) = absurd (omega arith)
  gate-test p (gate n l e f) = (l, and_yes (eq-eqb _ 0 e) (not_yes (λ g. f (is-gated (transition_of a p).condition g))))
  gate-test p (activity n l f) = absurd (omega arith)

  activity-test : (p : ℕ) → SheetFault a 13 p → (p < a.states) × (wrong_activity a p ≡ true)
  activity-test p (loop n l e) = absurd (omega arith)
  activity-test p (pair n l j m e f) = absurd (omega arith)
  activity-test p (rank n l j m e f) = absurd (omega arith)
  activity-test p (no_home n l m f) = absurd (omega arith)
  activity-test p (home_form n l e f) = absurd (omega arith)
  activity-test p (gate n l e f) = absurd (omega arith)
  activity-test p (activity n l f) = (l, same_not _ _ f)

  -- the numbers of faults are 7 to 13
  from-7 : (n p : ℕ) → SheetFault a n p → 7 ≤ n
  from-7 n p (loop k l e) = omega arith
  from-7 n p (pair k l j m e f) = omega arith
  from-7 n p (rank k l j m e f) = omega arith
  from-7 n p (no_home k l m f) = omega arith
  from-7 n p (home_form k l e f) = omega arith
  from-7 n p (gate k l e f) = omega arith
  from-7 n p (activity k l f) = omega arith

  pub to-13 : (n p : ℕ) → 14 ≤ n → SheetFault a n p → ⊥
  to-13 n p h (loop k l e) = omega arith
  to-13 n p h (pair k l j m e f) = omega arith
  to-13 n p h (rank k l j m e f) = omega arith
  to-13 n p h (no_home k l m f) = omega arith
  to-13 n p h (home_form k l e f) = omega arith
  to-13 n p h (gate k l e f) = omega arith
  to-13 n p h (activity k l f) = omega arith

  -- and each test finds its fault
  clash-of : (same : Transition → Transition → Bool) (p : ℕ) → clashes same a p ≡ true
      → (j : ℕ) × (j < p) × (same (transition_of a j) (transition_of a p) ≡ true)
  unfolding clashes
  clash-of same p e = any_of (λ i. same (transition_of a i) (transition_of a p)) p e

  home_of : (p : ℕ) → p < a.states → lacks_home a p ≡ true → SheetFault a 10 p
  unfolding lacks_home
  home_of p l e =
      let q : (ltb 0 p ≡ true) × (not (any_below (λ i. goes_home p (transition_of a i)) (count a)) ≡ true) = both _ _ e in
      no_home refl l (ltb-true 0 p q.0)
      (λ i m f g. true-false (any-hit (λ j. goes_home p (transition_of a j)) i (count a) m (and_yes (eq-eqb _ p f) (eq-eqb _ 0 g))) (not-true _ q.1))

  -- the answers from each number on
  abbrev thirteen : Checked
  thirteen = refuse_at refuse.Activity (first_below (wrong_activity a) a.states) (Ok tt)

  abbrev twelve : Checked
  twelve = refuse_at refuse.Gate (first_below (λ i. lacks_gate (transition_of a i)) (count a)) thirteen

  abbrev eleven : Checked
  eleven = refuse_at refuse.HomeForm (first_below (λ i. lacks_home_form (transition_of a i)) (count a)) twelve

  abbrev ten : Checked
  ten = refuse_at refuse.NoHome (first_below (lacks_home a) a.states) eleven

  abbrev nine : Checked
  nine = refuse_at refuse.Rank (first_below (clashes same_rank a) (count a)) ten

  abbrev eight : Checked
  eight = refuse_at refuse.Pair (first_below (clashes same_pair a) (count a)) nine

  from-13 : Lowest (From (SheetFault a) 13) thirteen
  from-13 =
      lowest-below (SheetFault a) 13 refuse.Activity (wrong_activity a) a.states (λ i l e. (refl, refl, activity refl l (differ _ _ e))) activity-test (Ok tt)
      (lowest-end (SheetFault a) 14 to-13)

  from-12 : Lowest (From (SheetFault a) 12) twelve
  from-12 = lowest-below (SheetFault a) 12 refuse.Gate (λ i. lacks_gate (transition_of a i)) (count a) (λ i l e. (refl, refl, found i l e)) gate-test thirteen from-13
    where
      found : (i : ℕ) → i < count a → lacks_gate (transition_of a i) ≡ true → SheetFault a 12 i
      found i l e =
          let q : (eqb (transition_of a i).source 0 ≡ true) × (not (is_gated (transition_of a i).condition) ≡ true) = both _ _ e in
          gate refl l (eqb-true _ 0 q.0) (λ g. true-false (gated-is (transition_of a i).condition g) (not-true _ q.1))

  from-11 : Lowest (From (SheetFault a) 11) eleven
  from-11 = lowest-below (SheetFault a) 11 refuse.HomeForm (λ i. lacks_home_form (transition_of a i)) (count a) (λ i l e. (refl, refl, found i l e)) form-test twelve from-12
    where
      found : (i : ℕ) → i < count a → lacks_home_form (transition_of a i) ≡ true → SheetFault a 11 i
      found i l e =
          let q : (eqb (transition_of a i).destination 0 ≡ true)
          × (not (eqb (transition_of a i).priority 0 && eqb (transition_of a i).wait 0 && is_off (transition_of a i).condition) ≡ true) = both _ _ e in
          home_form refl l (eqb-true _ 0 q.0) (λ g. true-false (form-is (transition_of a i) g) (not-true _ q.1))

  from-10 : Lowest (From (SheetFault a) 10) ten
  from-10 = lowest-below (SheetFault a) 10 refuse.NoHome (lacks_home a) a.states (λ i l e. (refl, refl, home_of i l e)) home-test eleven from-11

  from-9 : Lowest (From (SheetFault a) 9) nine
  from-9 = lowest-below (SheetFault a) 9 refuse.Rank (clashes same_rank a) (count a) (λ i l e. (refl, refl, found i l (clash-of same_rank i e))) rank-test ten from-10
    where
      found : (i : ℕ) → i < count a → (j : ℕ) × (j < i) × (same_rank (transition_of a j) (transition_of a i) ≡ true) → SheetFault a 9 i
      found i l h =
          let q : (eqb (transition_of a h.0).source (transition_of a i).source ≡ true)
          × (eqb (transition_of a h.0).priority (transition_of a i).priority ≡ true) = both _ _ h.2 in
          rank refl l h.0 h.1 (eqb-true _ _ q.0) (eqb-true _ _ q.1)

  from-8 : Lowest (From (SheetFault a) 8) eight
  from-8 = lowest-below (SheetFault a) 8 refuse.Pair (clashes same_pair a) (count a) (λ i l e. (refl, refl, found i l (clash-of same_pair i e))) pair-test nine from-9
    where
      found : (i : ℕ) → i < count a → (j : ℕ) × (j < i) × (same_pair (transition_of a j) (transition_of a i) ≡ true) → SheetFault a 8 i
      found i l h =
          let q : (eqb (transition_of a h.0).source (transition_of a i).source ≡ true)
          × (eqb (transition_of a h.0).destination (transition_of a i).destination ≡ true) = both _ _ h.2 in
          pair refl l h.0 h.1 (eqb-true _ _ q.0) (eqb-true _ _ q.1)

  pub judge-lowest : Lowest (SheetFault a) (judge a)
  unfolding judge
  judge-lowest =
      lowest-all (SheetFault a) 7 from-7 (judge a)
      (lowest-below (SheetFault a) 7 refuse.Loop (λ i. loops (transition_of a i)) (count a) (λ i l e. (refl, refl, loop refl l (eqb-true _ _ e))) loop-test eight from-8)
