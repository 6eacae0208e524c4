-- `reader::read_sheet` meets its contract. Assumes nothing.
use mathlib.Core.Path.{refl, sym, ◌∙◌}
use Prim.Native.Nat.{ℕ, ◌≤◌, ◌<◌}
use mathlib.Core.List.{List}
use native.Mathlib.Omega.{arith}
use lib.ListN.{length, length-append, get_or-append}
use Rattle.std.proofs.lemmas.List.{length-drop, length-take-le}
use Rattle.std.proofs.lemmas.Result.{err_from_is_err_and}
use Rattle.std.specs.Prelude.{Ok}
use Rattle.bits.specs.Read.{upto}
use Rattle.bits.specs.declared.Cursor.{Cursor}
use Rattle.bits.proofs.ToldLaws.{told-bad}
use Rattle.bits.proofs.ReadLaws.{upto-length}
use Rattle.reader.specs.Reading.{read_header, row_at, transition_at, read_sheet}
use Rattle.reader.specs.inside.Decoding.{HoldsRows}
use Rattle.reader.specs.declared.Header.{Header}
use Rattle.reader.proofs.Laws.{Headed, header-got, header-fits, rows-done, rows-bad, rows_next, arrows-done, arrows-bad, transitions-next}
use Rattle.reader.proofs.read_sheet.Goals as goal

-- the rows end by bit 532
rows_end : (s : List ℕ) (h : Header) (a : ℕ) (c : Cursor) (rows : List ℕ) → Headed h a
    → HoldsRows (upto (row_at s h.outputs) a h.states) (Ok c) rows → c.at ≤ 532
rows_end s h a c rows f e =
    let x = rows-done (upto (row_at s h.outputs) a h.states) rows c e in
    omega (arith, f.after, rows_next s h.outputs a h.states f.outputs.1 f.states.1 x.1)

pub returns-in_err-header : goal.returns-in_err-header
unfolding read_sheet
returns-in_err-header c =
    let p = err_from_is_err_and c.from_residual.result c.from_residual.ensures.1 in
    rw (told-bad (λ (h : Header). h) (read_header c.args.s.now) _ (sym c.in_err-header.ensures), p.1, p.2) refl

pub slice_bounds-rows-end : goal.slice_bounds-rows-end
slice_bounds-rows-end c =
    let f = header-fits c.args.s.now (header-got _ _ _ (sym c.in_ok-header.ensures)) in
    omega arith

pub read_rows-requires : goal.read_rows-requires
read_rows-requires c =
    let h = c.in_ok-header.header in
    let f = header-fits c.args.s.now (header-got _ _ _ (sym c.in_ok-header.ensures)) in
    let n = length-take-le h.states c.args.decoded.now.rows (omega arith) in
    omega arith

pub returns-in_err-c2 : goal.returns-in_err-c2
unfolding read_sheet
returns-in_err-c2 c =
    let h = c.in_ok-header.header in
    let head = header-got (read_header c.args.s.now) _ _ (sym c.in_ok-header.ensures) in
    let f = header-fits c.args.s.now head in
    let n = length-take-le h.states c.args.decoded.now.rows (omega arith) in
    let p = err_from_is_err_and c.from_residual-in_err-c2.result c.from_residual-in_err-c2.ensures.1 in
    let e = rows-bad _ _ _ (rw n at c.in_err-c2.ensures) in
    rw (head, e, p.1, p.2) refl

pub slice_bounds-arrows-end : goal.slice_bounds-arrows-end
slice_bounds-arrows-end c =
    let f = header-fits c.args.s.now (header-got _ _ _ (sym c.in_ok-header.ensures)) in
    omega arith

pub read_transitions-requires : goal.read_transitions-requires
read_transitions-requires c =
    let h = c.in_ok-header.header in
    let f = header-fits c.args.s.now (header-got _ _ _ (sym c.in_ok-header.ensures)) in
    let n = length-take-le h.states c.args.decoded.now.rows (omega arith) in
    let m = length-take-le h.transitions c.args.decoded.now.arrows (omega arith) in
    omega (arith, rows_end _ _ _ _ _ f (rw n at c.in_ok-c2.ensures))

pub returns-in_err-c3 : goal.returns-in_err-c3
unfolding read_sheet
returns-in_err-c3 c =
    let h = c.in_ok-header.header in
    let head = header-got (read_header c.args.s.now) _ _ (sym c.in_ok-header.ensures) in
    let f = header-fits c.args.s.now head in
    let n = length-take-le h.states c.args.decoded.now.rows (omega arith) in
    let m = length-take-le h.transitions c.args.decoded.now.arrows (omega arith) in
    let p = err_from_is_err_and c.from_residual-in_err-c3.result c.from_residual-in_err-c3.ensures.1 in
    let rows = rows-done _ _ _ (rw n at c.in_ok-c2.ensures) in
    let e = arrows-bad _ _ _ _ _ (rw m at c.in_err-c3.ensures) in
    rw (head, rows.1, e, p.1, p.2) refl

pub ends_here-requires : goal.ends_here-requires
ends_here-requires c =
    let h = c.in_ok-header.header in
    let f = header-fits c.args.s.now (header-got _ _ _ (sym c.in_ok-header.ensures)) in
    let n = length-take-le h.states c.args.decoded.now.rows (omega arith) in
    let m = length-take-le h.transitions c.args.decoded.now.arrows (omega arith) in
    let arrows = arrows-done _ _ _ _ _ (rw m at c.in_ok-c3.ensures) in
    let next = transitions-next c.args.s.now h.states h.inputs c.in_ok-c2.c2.at h.transitions f.transitions.1 arrows.1 in
    omega (arith, rows_end _ _ _ _ _ f (rw n at c.in_ok-c2.ensures))

pub returns-then-ends_here : goal.returns-then-ends_here
unfolding read_sheet
returns-then-ends_here c =
    let a = c.args in
    let h = c.in_ok-header.header in
    let head = header-got (read_header a.s.now) _ _ (sym c.in_ok-header.ensures) in
    let f = header-fits a.s.now head in
    let n = length-take-le h.states a.decoded.now.rows (omega arith) in
    let m = length-take-le h.transitions a.decoded.now.arrows (omega arith) in
    let rows = rows-done _ _ _ (rw n at c.in_ok-c2.ensures) in
    let arrows = arrows-done _ _ _ _ _ (rw m at c.in_ok-c3.ensures) in
    let ended = sym c.ends_here.ensures ∙ c.if-ends_here.true in
    let many = upto-length (transition_at a.s.now h.states h.inputs) c.in_ok-c2.c2.at h.transitions arrows.1 in
    let ws = c.read_rows.new.rows in
    let ts = c.read_transitions.new.arrows in
    rw (head, rows.1, arrows.1, ended) (
      refl,
      record {
        states = refl;
        inputs = refl;
        outputs = refl;
        transitions = sym many;
        row = λ i l.
            let low : i < length ws = omega arith in
            get_or-append ws _ 0 i low ∙ rows.2 i low;
        long = length-append ts _ ∙ omega (arith, length-drop h.transitions a.decoded.now.arrows);
        arrow = λ i l.
            let low : i < length ts = omega arith in
            rw (get_or-append ts _ 0 i low) (arrows.2 i low);
      },
    )

pub returns : goal.returns
unfolding read_sheet
returns c =
    let h = c.in_ok-header.header in
    let head = header-got (read_header c.args.s.now) _ _ (sym c.in_ok-header.ensures) in
    let f = header-fits c.args.s.now head in
    let n = length-take-le h.states c.args.decoded.now.rows (omega arith) in
    let m = length-take-le h.transitions c.args.decoded.now.arrows (omega arith) in
    let rows = rows-done _ _ _ (rw n at c.in_ok-c2.ensures) in
    let arrows = arrows-done _ _ _ _ _ (rw m at c.in_ok-c3.ensures) in
    let ended = sym c.ends_here.ensures ∙ c.if-ends_here.false in
    rw (head, rows.1, arrows.1, ended) refl
