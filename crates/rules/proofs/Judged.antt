-- A sheet that fits is judged accepted exactly when it keeps the rules 7 to 13. Assumes nothing.
use Rattle.std.specs.Prelude.{Ok}
use mathlib.Core.Path.{◌≡◌, refl, sym, ap, ◌∙◌}
use mathlib.Core.Logic.{◌↔◌, inl, inr}
use mathlib.Core.Bool.{Bool, true, false, not, ◌&&◌}
use Prim.Native.Nat.{ℕ, zero, suc, ◌<◌}
use native.Mathlib.Omega.{arith}
use lib.ListN.{get_or}
use lib.Dec.{eqb}
use borrow.Author.Tests.{eqb-true, eqb-false, eq-eqb, ne_eqb, lt-ltb, not-false}
use Rattle.answer.specs.Lowest.{any_below}
use Rattle.answer.specs.declared.Refusal.TheVariants as refuse
use Rattle.answer.proofs.BoolLaws.{true-false, and-true}
use Rattle.answer.proofs.Laws.{any-hit}
use Rattle.condition.specs.Cond.{Cond, inp, neg, conj, disj, is_on, is_off, is_gated}
use Rattle.reader.specs.Sheet.{Transition, Sheet, count, transition_of, row_of}
use Rattle.sheet.specs.Judging.{loops, clashes, goes_home, lacks_home, lacks_home_form, lacks_gate, differs, wrong_activity, judge}
use Rattle.rules.specs.Rules.{HomeForm, Gated, Rules}
use Rattle.format.specs.Fields.{WellFormed}
use Rattle.rules.proofs.Search.{first-none, none_first, any_none, none_any, any_some, refuse-none, none-refuse}

-- two pairs of equal numbers
differ : (x y u v : ℕ) → eqb x y && eqb u v ≡ false → x ≡ y → u ≡ v → ⊥
differ x y u v e p q = true-false (sym (rw (eq-eqb x y p, eq-eqb u v q) refl) ∙ e)

unequal : (x y u v : ℕ) → (x ≡ y → u ≡ v → ⊥) → eqb x y && eqb u v ≡ false
unequal x y u v h = go (eqb x y) refl
  where
    go : (b : Bool) → eqb x y ≡ b → b && eqb u v ≡ false
    go true e = ne_eqb u v (h (eqb-true x y e))
    go false e = refl

-- 8 PAIR and 9 RANK: no earlier transition with the same source and the same `key`
module _ (key : Transition → ℕ) (a : Sheet) where
  abbrev same : Transition → Transition → Bool
  same t u = eqb t.source u.source && eqb (key t) (key u)

  abbrev Apart : Type 0
  Apart = (i j : ℕ) → i < j → j < count a → (transition_of a i).source ≡ (transition_of a j).source → key (transition_of a i) ≡ key (transition_of a j) → ⊥

  apart : ((j : ℕ) → j < count a → clashes same a j ≡ false) → Apart
  unfolding clashes
  apart h i j l m = differ _ _ _ _ (any_none (λ earlier. same (transition_of a earlier) (transition_of a j)) j (h j m) i l)

  no-clash : Apart → (j : ℕ) → j < count a → clashes same a j ≡ false
  unfolding clashes
  no-clash h j m = none_any (λ earlier. same (transition_of a earlier) (transition_of a j)) j (λ i l. unequal _ _ _ _ (h i j l m))

-- 10 NO-HOME
abbrev Home : Sheet → ℕ → Type 0
Home a s = (i : ℕ) × (i < count a) × ((transition_of a i).source ≡ s) × ((transition_of a i).destination ≡ 0)

has-home : (a : Sheet) (s : ℕ) → 0 < s → lacks_home a s ≡ false → Home a s
unfolding lacks_home
has-home a s l e =
    let none : not (any_below (λ i. goes_home s (transition_of a i)) (count a)) ≡ false = rw (lt-ltb 0 s l) at e in
    let some = any_some (λ i. goes_home s (transition_of a i)) (count a) (not-false _ none) in
    let t = transition_of a some.0 in
    let both = and-true (eqb t.source s) (eqb t.destination 0) some.2 in
    (some.0, some.1, eqb-true _ _ both.0, eqb-true _ _ both.1)

home-has : (a : Sheet) (s : ℕ) → (0 < s → Home a s) → lacks_home a s ≡ false
unfolding lacks_home
home-has a zero h = refl
home-has a (suc s) h =
    let there = h (omega arith) in
    let t = transition_of a there.0 in
    let hit : goes_home (suc s) t ≡ true = rw (eq-eqb _ _ there.2, eq-eqb _ _ there.3) in
    rw (lt-ltb 0 (suc s) (omega arith), any-hit (λ i. goes_home (suc s) (transition_of a i)) there.0 (count a) there.1 hit)

-- 11 HOME-FORM
is-on : (c : Cond) → is_on c ≡ true → c ≡ inp 0
unfolding is_on
is-on (inp i) e = ap inp (eqb-true i 0 e)
is-on (neg c) e = true-false (sym e)
is-on (conj a b) e = true-false (sym e)
is-on (disj a b) e = true-false (sym e)

is-off : (c : Cond) → is_off c ≡ true → c ≡ neg (inp 0)
unfolding is_off
is-off (inp i) e = true-false (sym e)
is-off (neg c) e = ap neg (is-on c e)
is-off (conj a b) e = true-false (sym e)
is-off (disj a b) e = true-false (sym e)

home_form : (t : Transition) → lacks_home_form t ≡ false → t.destination ≡ 0 → HomeForm t
home_form t e z =
    let f : not (eqb t.priority 0 && eqb t.wait 0 && is_off t.condition) ≡ false = rw (eq-eqb t.destination 0 z) at e in
    let g = and-true (eqb t.priority 0 && eqb t.wait 0) (is_off t.condition) (not-false _ f) in
    let h = and-true (eqb t.priority 0) (eqb t.wait 0) g.0 in
    record { priority = eqb-true _ _ h.0; wait = eqb-true _ _ h.1; off = is-off t.condition g.1 }

form-home : (t : Transition) → (t.destination ≡ 0 → HomeForm t) → lacks_home_form t ≡ false
unfolding is_off is_on
form-home t h = go (eqb t.destination 0) refl
  where
    go : (b : Bool) → eqb t.destination 0 ≡ b → b && not (eqb t.priority 0 && eqb t.wait 0 && is_off t.condition) ≡ false
    go true e =
        let f = h (eqb-true _ _ e) in
        rw (eq-eqb _ _ f.priority, eq-eqb _ _ f.wait, f.off)
    go false e = refl

-- 12 GATE
gated : (c : Cond) → is_gated c ≡ true → Gated c
unfolding is_gated
gated (inp i) e = inl (ap inp (eqb-true i 0 e))
gated (neg c) e = true-false (sym e)
gated (conj a b) e = inr (b, ap (λ (x : Cond). conj x b) (is-on a e))
gated (disj a b) e = true-false (sym e)

is-gated : (c : Cond) → Gated c → is_gated c ≡ true
unfolding is_gated is_on
is-gated c (inl e) = rw e
is-gated c (inr e) = rw e.1

has-gate : (t : Transition) → lacks_gate t ≡ false → t.source ≡ 0 → Gated t.condition
has-gate t e z =
    let f : not (is_gated t.condition) ≡ false = rw (eq-eqb t.source 0 z) at e in
    gated t.condition (not-false _ f)

gate-has : (t : Transition) → (t.source ≡ 0 → Gated t.condition) → lacks_gate t ≡ false
gate-has t h = go (eqb t.source 0) refl
  where
    go : (b : Bool) → eqb t.source 0 ≡ b → b && not (is_gated t.condition) ≡ false
    go true e = rw (is-gated t.condition (h (eqb-true _ _ e)))
    go false e = refl

-- 13 ACTIVITY
active : (b c : Bool) → differs b c ≡ false → b ≡ c
active true true e = refl
active true false e = true-false e
active false true e = true-false e
active false false e = refl

actively : (b c : Bool) → b ≡ c → differs b c ≡ false
actively true true e = refl
actively true false e = true-false e
actively false true e = true-false (sym e)
actively false false e = refl

module _ (a : Sheet) (f : WellFormed a) where
  rules : judge a ≡ Ok tt → Rules a
  unfolding judge
  rules e =
      let x7 = refuse-none refuse.Loop _ _ e in
      let x8 = refuse-none refuse.Pair _ _ x7.1 in
      let x9 = refuse-none refuse.Rank _ _ x8.1 in
      let x10 = refuse-none refuse.NoHome _ _ x9.1 in
      let x11 = refuse-none refuse.HomeForm _ _ x10.1 in
      let x12 = refuse-none refuse.Gate _ _ x11.1 in
      let x13 = refuse-none refuse.Activity _ _ x12.1 in
      let active-at : (s : ℕ) → s < a.states → get_or (row_of a s) 0 false ≡ eqb s 0 = λ s l. active _ _ (first-none (wrong_activity a) a.states x13.0 s l) in
      record {
        states = f.states;
        inputs = f.inputs;
        outputs = f.outputs;
        transitions = f.transitions;
        rows = f.rows;
        row = f.row;
        fields = f.fields;
        no_loop = λ i l. eqb-false _ _ (first-none (λ i. loops (transition_of a i)) (count a) x7.0 i l);
        pair = apart (λ t. t.destination) a (first-none _ (count a) x8.0);
        rank = apart (λ t. t.priority) a (first-none _ (count a) x9.0);
        home = λ s low high. has-home a s low (first-none (lacks_home a) a.states x10.0 s high);
        home_form = λ i l. home_form (transition_of a i) (first-none (λ i. lacks_home_form (transition_of a i)) (count a) x11.0 i l);
        gate = λ i l. has-gate (transition_of a i) (first-none (λ i. lacks_gate (transition_of a i)) (count a) x12.0 i l);
        active_idle = active-at 0 (omega (arith, f.states));
        active_else = λ s low high. active-at s high ∙ ne_eqb s 0 (λ z. omega arith);
      }

  accepts : Rules a → judge a ≡ Ok tt
  unfolding judge
  accepts r =
      none-refuse refuse.Loop _ _ (none_first _ _ (λ i l. ne_eqb _ _ (r.no_loop i l)))
      (none-refuse refuse.Pair _ _ (none_first _ _ (no-clash (λ t. t.destination) a r.pair))
      (none-refuse refuse.Rank _ _ (none_first _ _ (no-clash (λ t. t.priority) a r.rank))
      (none-refuse refuse.NoHome _ _ (none_first _ _ (λ s high. home-has a s (λ low. r.home s low high)))
      (none-refuse refuse.HomeForm _ _ (none_first _ _ (λ i l. form-home (transition_of a i) (r.home_form i l)))
      (none-refuse refuse.Gate _ _ (none_first _ _ (λ i l. gate-has (transition_of a i) (r.gate i l)))
      (none-refuse refuse.Activity _ _ (none_first _ _ activity) refl))))))
    where
      activity : (s : ℕ) → s < a.states → wrong_activity a s ≡ false
      activity zero l = actively _ _ r.active_idle
      activity (suc s) l = actively _ _ (r.active_else (suc s) (omega arith) l ∙ sym (ne_eqb (suc s) 0 (λ z. omega arith)))

  pub judged : (judge a ≡ Ok tt) ↔ Rules a
  judged = (rules, accepts)
