-- Laws of a scan on a sheet that was opened. Assumes nothing.
use Rattle.std.specs.Prelude.{Err, Some, None}
use mathlib.Core.Path.{◌≡◌, refl, ap, ◌∙◌}
use mathlib.Core.Bool.{true}
use mathlib.Core.List.{List}
use Prim.Native.Nat.{ℕ, ◌≤◌, ◌<◌}
use native.Mathlib.Omega.{arith}
use borrow.Author.Tests.{lt-ltb, le-ltb}
use lib.ListN.{get_or}
use Rattle.answer.specs.declared.Refusal.{Refusal}
use Rattle.answer.specs.declared.Refusal.TheVariants.{NoState}
use Rattle.clock.specs.Onward.{onward}
use Rattle.reader.specs.Sheet.{Transition}
use Rattle.sheet.specs.Judging.{check_sheet}
use Rattle.sheet.specs.inside.Opening.{Good}
use Rattle.reader.specs.declared.Decoded.{Decoded}
use Rattle.sheet.proofs.WithLaws.{with-refused, with-accepted}
use Rattle.format.specs.Fields.{WellFormed}
use Rattle.format.proofs.Format.{read_formed}
use Rattle.scan.specs.Scan.{Choice, none, some, can, best, outputs_of, state_with, after, scan_of, cold_of, accepted, refused, zeros, scan_sheet, cold_scan}
use Rattle.scan.specs.inside.Picking.{Picks}
use Rattle.scan.specs.declared.State.{State}
use Rattle.scan.specs.declared.Best.{Best}
use Rattle.scan.proofs.AllLaws.{all_of}
use Rattle.scan.proofs.ChoiceLaws.{OnChoice, best-on}

-- a refused sheet
pub scan-refused : (s : List ℕ) (why : Refusal) (q : State) (word elapsed : ℕ) → check_sheet s ≡ Err why → scan_sheet s q word elapsed ≡ refused q why
unfolding scan_sheet
scan-refused s why q word elapsed e = with-refused s why (refused q) _ e

pub cold-refused : (s : List ℕ) (why : Refusal) → check_sheet s ≡ Err why → cold_scan s ≡ refused zeros why
unfolding cold_scan
cold-refused s why e = with-refused s why (refused zeros) _ e

module _ (s : List ℕ) (d : Decoded) (g : Good s d) where
  -- an accepted sheet, and a state that it has or has not
  pub scan_accepted : (q : State) (word elapsed : ℕ) → q.state < g.sheet.states → scan_sheet s q word elapsed ≡ accepted (scan_of g.sheet q word elapsed)
  unfolding scan_sheet
  scan_accepted q word elapsed l =
      with-accepted s g.sheet g.end (refused q) _ g.read g.judged ∙ rw (lt-ltb q.state g.sheet.states l)

  pub scan-no-state : (q : State) (word elapsed : ℕ) → g.sheet.states ≤ q.state → scan_sheet s q word elapsed ≡ refused q (NoState q.state)
  unfolding scan_sheet
  scan-no-state q word elapsed l =
      with-accepted s g.sheet g.end (refused q) _ g.read g.judged ∙ rw (le-ltb q.state g.sheet.states l)

  pub cold-accepted : cold_scan s ≡ accepted (cold_of g.sheet)
  unfolding cold_scan
  cold-accepted = with-accepted s g.sheet g.end (refused zeros) _ g.read g.judged

  pub formed : WellFormed g.sheet
  formed = read_formed s g.sheet g.end g.read

  -- what is chosen goes to a state that the sheet has
  chosen : (active word clock : ℕ) → OnChoice (λ t. (t.destination < g.sheet.states) × (can active word clock t ≡ true)) (best active word clock g.sheet.transitions)
  chosen active word clock =
      best-on active word clock (λ t. t.destination < g.sheet.states) g.sheet.transitions
      (all_of (λ t. t.destination < g.sheet.states) g.sheet.transitions (λ i l. (formed.fields i l).destination))

  inside-by : (n : ℕ) (Q : Transition → Type 0) (b : Best) (ch : Choice) → Picks (Some b) ch → OnChoice (λ t. (t.destination < n) × Q t) ch → b.destination < n
  inside-by n Q b none h on = absurd h
  inside-by n Q b (some t) h on = omega (arith, h.1, on.0)

  pub inside : (active word clock : ℕ) (b : Best) → Picks (Some b) (best active word clock g.sheet.transitions) → b.destination < g.sheet.states
  inside active word clock b h = inside-by g.sheet.states _ b _ h (chosen active word clock)

  stays : (q : State) (clock : ℕ) (ch : Choice) → Picks None ch → after g.sheet q clock ch ≡ state_with q.state q.outputs clock
  unfolding after
  stays q clock none h = refl
  stays q clock (some t) h = absurd h

  moves : (q : State) (clock : ℕ) (b : Best) (ch : Choice) → b.destination < g.sheet.states → Picks (Some b) ch
      → after g.sheet q clock ch ≡ state_with b.destination (get_or d.rows b.destination 0) 0
  unfolding after outputs_of
  moves q clock b none l h = absurd h
  moves q clock b (some t) l h = rw (← h.1, g.copy.row b.destination l) refl

  -- the record that the code makes is the scan's
  module _ (q : State) (word elapsed clock w : ℕ) (low : q.state < g.sheet.states) (on : clock ≡ onward q.clock elapsed) (same : w ≡ word) where
    pub scan-stays : Picks None (best q.state w clock g.sheet.transitions) → scan_sheet s q word elapsed ≡ accepted (state_with q.state q.outputs clock)
    unfolding scan_of
    scan-stays h = scan_accepted q word elapsed low ∙ ap accepted (rw (← on, ← same) (stays q clock _ h))

    pub scan-moves : (b : Best) → Picks (Some b) (best q.state w clock g.sheet.transitions)
        → scan_sheet s q word elapsed ≡ accepted (state_with b.destination (get_or d.rows b.destination 0) 0)
    unfolding scan_of
    scan-moves b h = scan_accepted q word elapsed low ∙ ap accepted (rw (← on, ← same) (moves q clock b _ (inside q.state w clock b h) h))

  -- the record that the code starts with is the cold one
  pub cold_is : cold_scan s ≡ accepted (state_with 0 (get_or d.rows 0 0) 0)
  unfolding cold_of outputs_of
  cold_is = cold-accepted ∙ rw (g.copy.row 0 (omega (arith, formed.states.0))) refl
