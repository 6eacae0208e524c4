-- `faults::check_landings` meets its contract. At each turn the search from here finds what the whole search finds. Assumes nothing.
use Rattle.std.specs.Prelude.{Ok}
use mathlib.Core.Path.{◌≡◌, sym, ap, ◌∙◌}
use mathlib.Core.List.{map}
use Prim.Native.Nat.{ℕ}
use native.Mathlib.Omega.{arith}
use native.Mathlib.Numerals.{add-one}
use lib.ListN.{length-map}
use Rattle.std.specs.declared.option.Option.{Option}
use Rattle.answer.specs.declared.Refusal.TheVariants as refuse
use Rattle.answer.specs.Lowest.{refuse_at}
use Rattle.words.specs.Word.{decode, words}
use Rattle.words.proofs.WordLaws.{words-length}
use Rattle.faults.specs.Check.{lands_open}
use Rattle.faults.proofs.CheckLaws.{landing-on, landing-here, landing-end, read_at}
use Rattle.faults.proofs.check_landings.Goals as goal

pub lands_open-requires-clause-at_in_bounds : goal.lands_open-requires-clause-at_in_bounds
lands_open-requires-clause-at_in_bounds c = omega (arith, words-length c.args.code.now)

-- what is told of what the search found
told : {f g : Option ℕ} → f ≡ g → refuse_at refuse.Landing f (Ok tt) ≡ refuse_at refuse.Landing g (Ok tt)
told = ap (λ (f : Option ℕ). refuse_at refuse.Landing f (Ok tt))

pub returns-then-lands_open : goal.returns-then-lands_open
returns-then-lands_open c =
    let l = c.loop-at in
    let ws = words c.args.code.now in
    let is = map decode ws in
    told (sym (landing-here is is l.at (omega (arith, length-map ws decode, words-length c.args.code.now))
    (ap (lands_open is) (read_at ws l.at) ∙ sym c.lands_open.ensures ∙ c.if-lands_open.true))
    ∙ l.invariant)

pub loop-at-preserved : goal.loop-at-preserved
loop-at-preserved c =
    let l = c.loop-at in
    let ws = words c.args.code.now in
    let is = map decode ws in
    rw (add-one l.at)
    (sym (landing-on is is l.at (omega (arith, length-map ws decode, words-length c.args.code.now))
    (ap (lands_open is) (read_at ws l.at) ∙ sym c.lands_open.ensures ∙ c.if-lands_open.false))
    ∙ l.invariant)

pub returns : goal.returns
returns c =
    let l = c.loop-at in
    let ws = words c.args.code.now in
    let is = map decode ws in
    told (sym (landing-end is is l.at (omega (arith, length-map ws decode, words-length c.args.code.now))) ∙ l.invariant)
