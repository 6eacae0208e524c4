-- `scan::choose` meets its contract. Assumes nothing.
use mathlib.Core.Path.{◌≡◌, sym, ap, ◌∙◌, subst}
use mathlib.Core.List.{List}
use Prim.Native.Nat.{ℕ, ◌+◌, ◌<◌}
use native.Mathlib.Omega.{arith}
use lib.ListN.{length, get_or, take}
use Rattle.std.specs.Prelude.{Some}
use Rattle.reader.specs.Sheet.{Sheet, no_transition}
use Rattle.reader.specs.inside.Decoding.{Holds, Copy}
use Rattle.reader.specs.declared.Decoded.{Decoded}
use Rattle.reader.proofs.HeldLaws.{Held, copy-held}
use Rattle.reader.proofs.Laws.{read-sizes}
use Rattle.sheet.specs.inside.Opening.{Good}
use Rattle.scan.proofs.PickLaws.{Passed, passed-fires, passed-stays, passed-end}
use Rattle.scan.proofs.choose.Goals as goal
use Rattle.scan.proofs.choose.Goals.{then-can_fire, else-can_fire}

-- the slice that is lent holds the sheet's transitions
lent : (s : List ℕ) (d : Decoded) (a : Sheet) → Good s d → Copy s d a → length d.rows ≡ 32 → length d.arrows ≡ 128
    → (arrows : List ℕ) → arrows ≡ take d.header.transitions d.arrows → Held s (take d.header.states d.rows) arrows a
lent s d a g k n m arrows e =
    let few = read-sizes s g.sheet g.end g.read in
    rw e (copy-held s d a k (omega (arith, few.0, g.copy.states)) (omega (arith, few.1, g.copy.transitions)))

pub arrows-w-items-requires : goal.arrows-w-items-requires
arrows-w-items-requires c =
    let g = c.requires in
    omega (arith, read-sizes c.args.sheet.now g.sheet g.end g.read, g.copy.transitions)

pub loop-w-preserved : goal.loop-w-preserved
loop-w-preserved c a k =
    let x = c.args in
    let i = c.loop-w.w-index in
    let arrow = c.unpacked-arrow.result in
    let t = get_or a.transitions i no_transition in
    let held = lent x.sheet.now x.decoded.now a c.requires k (omega arith) (omega arith) _ c.arrows-w-items.ensures in
    let low : i < length a.transitions = omega (arith, held.transitions) in
    let here : Holds x.sheet.now x.decoded.now.header.inputs arrow t = rw (c.unpacked-arrow.ensures, k.inputs) (held.arrow i low) in
    let before = c.loop-w.invariant a k in
    let can = sym (c.can_fire.ensures t here) in
    let at = Passed x.now.state x.word x.now.clock a.transitions (i + 1) in
    elim c.if-can_fire.branch [
      | then-can_fire w ↦
          subst at (sym (w.best-is ∙ ap Some w.took.ensures))
          (passed-fires x.now.state x.word x.now.clock a.transitions i c.loop-w.best low before arrow here.priority here.destination
          (can ∙ w.if-can_fire.true))
      | else-can_fire w ↦
          subst at (sym w.best-is)
          (passed-stays x.now.state x.word x.now.clock a.transitions i c.loop-w.best low before (can ∙ w.if-can_fire.false))
    ]

pub returns : goal.returns
returns c a k =
    let x = c.args in
    let held = lent x.sheet.now x.decoded.now a c.requires k (omega arith) (omega arith) _ c.arrows-w-items.ensures in
    passed-end x.now.state x.word x.now.clock a.transitions c.loop-w.w-index c.loop-w.best (omega (arith, held.transitions))
    (c.loop-w.invariant a k)
