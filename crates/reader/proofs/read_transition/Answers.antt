-- `reader::read_transition` meets its contract. Assumes nothing.
use mathlib.Core.Path.{refl, sym}
use native.Mathlib.Omega.{arith}
use Rattle.std.proofs.lemmas.Result.{err_from_is_err_and}
use Rattle.bits.proofs.ToldLaws.{told-bad}
use Rattle.reader.specs.inside.Decoding.{names_at, pair_of}
use Rattle.reader.proofs.Laws.{transition-is, names-got, names-next, names-few}
use Rattle.reader.proofs.read_transition.Goals as goal

pub returns-in_err-source : goal.returns-in_err-source
returns-in_err-source c =
    let a = c.args in
    let p = err_from_is_err_and c.from_residual.result c.from_residual.ensures.1 in
    let e = told-bad pair_of (names_at a.s.now a.header.states a.c.at) _ (sym c.in_err-source.ensures) in
    rw (transition-is a.s.now a.header.states a.header.inputs a.c.at, e, p.1, p.2) refl

pub read_rest-requires : goal.read_rest-requires
read_rest-requires c =
    let a = c.args in
    let named = names-got (names_at a.s.now a.header.states a.c.at) _ _ _ (sym c.in_ok-source.ensures) in
    let few = names-few a.s.now a.header.states a.c.at named in
    omega (arith, few.0, few.1, names-next a.s.now a.header.states a.c.at named)

pub returns : goal.returns
returns c =
    let a = c.args in
    let named = names-got (names_at a.s.now a.header.states a.c.at) _ _ _ (sym c.in_ok-source.ensures) in
    rw (transition-is a.s.now a.header.states a.header.inputs a.c.at, named) c.read_rest.ensures
