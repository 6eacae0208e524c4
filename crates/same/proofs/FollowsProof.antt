-- What holds after any scans, for a sheet that keeps the rules. Assumes nothing.
use Rattle.std.specs.Prelude.{Ok}
use mathlib.Core.Path.{◌≡◌, refl, sym, ap, ◌∙◌}
use mathlib.Core.Bool.{cond}
use mathlib.Core.List.{List, [], ◌∷◌}
use Prim.Native.Nat.{ℕ, ◌+◌, ◌*◌, ◌^◌, ◌≤◌, min}
use native.Mathlib.Omega.{arith}
use borrow.Author.Tests.{eq-eqb, ne_eqb, le-leb}
use lib.Dec.{eqb}
use lib.ListN.{length}
use Rattle.bits.specs.Read.{ok}
use Rattle.bits.specs.Word.{get_bit}
use Rattle.bits.proofs.WordLaws.{bit-pow}
use Rattle.clock.specs.Onward.{onward}
use Rattle.reader.specs.Sheet.{Sheet, transition_of}
use Rattle.reader.specs.Reading.{read_sheet}
use Rattle.rules.specs.Rules.{Rules}
use Rattle.sheet.specs.Judging.{check_sheet}
use Rattle.scan.specs.declared.State.{State}
use Rattle.scan.specs.Scan.{scan_of, cold_of, Scanned}
use Rattle.machine.specs.declared.Record.{Record}
use Rattle.machine.specs.Machine.{Out}
use Rattle.machine.specs.Run.{record_of, ran_with, run_code, Ran}
use Rattle.translate.specs.Translation.{translate}
use Rattle.translate.specs.Writing.{code_of, cold_record, Cold}
use Rattle.machine.proofs.TextLaws.{runs}
use Rattle.same.specs.Same.{embed, Fits}
use Rattle.moves.specs.Moves.{Moves, fires, stays}
use Rattle.same.specs.Histories.{Tick, ref_after, run_after, since_change, Follows}
use Rattle.same.proofs.AcceptedLaws.{scan-is, cold-scan-is, cold-run-is}
use Rattle.same.proofs.CheckProof.{fit, check-code}
use Rattle.moves.proofs.HomeProof.{off-home}
use Rattle.moves.proofs.MovesProof.{moves-scan}
use Rattle.same.proofs.SameProof.{Shows, shows-fits, scan-same, scan-shows}

module _ (a : Sheet) (rules : Rules a) where
  -- a scan of the code's bytes
  pub run_is : (q : State) → Fits a q → (x e : ℕ) → run_code (code_of a) (embed q) x e ≡ record { verdict = Ok tt; «record» = embed (scan_of a q x e) }
  unfolding code_of
  run_is q g x e =
      runs (translate a) (fit a rules) (check-code a rules) (embed q) x e
      ∙ ap (λ (o : Out). ran_with (Ok tt) (record_of o.mach)) (scan-same a rules q g x e)

  -- a scan changes the state or adds to the clock
  clock-step : (q p : State) (x e since : ℕ) → q.clock ≡ min since 16777215 → Moves a q x (onward q.clock e) p
      → p.clock ≡ min (cond (eqb p.state q.state) (since + e) 0) 16777215
  clock-step q p x e since k (fires t f least r) =
      let at : transition_of a f.of_sheet.0 ≡ t = f.of_sheet.2 in
      let to : p.state ≡ t.destination = ap (λ v. v.state) r in
      let other : p.state ≡ q.state → ⊥ =
      λ z. rules.no_loop f.of_sheet.0 f.of_sheet.1 (ap (λ v. v.source) at ∙ f.origin ∙ sym z ∙ to ∙ sym (ap (λ v. v.destination) at)) in
      let c : p.clock ≡ 0 = ap (λ v. v.clock) r in
      rw (ne_eqb p.state q.state other) c
  clock-step q p x e since k (stays no_one r) =
      let c : p.clock ≡ onward q.clock e = ap (λ v. v.clock) r in
      rw (eq-eqb p.state q.state (ap (λ v. v.state) r)) (omega arith)

  module _ (s : List ℕ) (end : ℕ) (read : read_sheet s ≡ ok a end) (acc : check_sheet s ≡ Ok tt) where
    -- where the two stand after some scans
    record Stands (ticks : List Tick) : Type 0 where
      good : Shows a rules (ref_after s ticks)
      same : run_after run_code s (code_of a) ticks ≡ embed (ref_after s ticks)
      clock : (ref_after s ticks).clock ≡ min (since_change s ticks) 16777215

    -- the reference's next record
    next : (ticks : List Tick) (t : Tick) → Shows a rules (ref_after s ticks) → ref_after s (t ∷ ticks) ≡ scan_of a (ref_after s ticks) t.word t.elapsed
    unfolding ref_after
    next ticks t g = ap (λ (v : Scanned). v.«record») (scan-is s a end read acc (ref_after s ticks) g.active t.word t.elapsed)

    -- and the runner's
    next-run : (ticks : List Tick) (t : Tick) → Shows a rules (ref_after s ticks) → run_after run_code s (code_of a) ticks ≡ embed (ref_after s ticks)
        → run_after run_code s (code_of a) (t ∷ ticks) ≡ embed (scan_of a (ref_after s ticks) t.word t.elapsed)
    unfolding run_after
    next-run ticks t g e =
        ap (λ r. (run_code (code_of a) r t.word t.elapsed).«record») e ∙ ap (λ (v : Ran). v.«record») (run_is (ref_after s ticks) (shows-fits a rules (ref_after s ticks) g) t.word t.elapsed)

    cold : ref_after s [] ≡ cold_of a
    unfolding ref_after
    cold = ap (λ (v : Scanned). v.«record») (cold-scan-is s a end read acc)

    cold-embed : embed (cold_of a) ≡ cold_record a
    unfolding embed cold_of cold_record
    cold-embed = refl

    cold-run : run_after run_code s (code_of a) [] ≡ embed (ref_after s [])
    unfolding run_after
    cold-run = ap (λ (v : Cold). v.«record») (cold-run-is s a end read acc) ∙ sym cold-embed ∙ ap embed (sym cold)

    cold-good : Shows a rules (cold_of a)
    unfolding cold_of
    cold-good = record { active = omega (arith, rules.states.0); shown = refl }

    cold-clock : (cold_of a).clock ≡ min (since_change s []) 16777215
    unfolding cold_of since_change
    cold-clock = refl

    clocks : (ticks : List Tick) (t : Tick) → Shows a rules (ref_after s ticks) → (ref_after s ticks).clock ≡ min (since_change s ticks) 16777215
        → (ref_after s (t ∷ ticks)).clock ≡ min (since_change s (t ∷ ticks)) 16777215
    unfolding since_change
    clocks ticks t g k =
        clock-step (ref_after s ticks) (ref_after s (t ∷ ticks)) t.word t.elapsed (since_change s ticks) k
        (rw (next ticks t g) (moves-scan a rules (ref_after s ticks) t.word t.elapsed))

    stands : (ticks : List Tick) → Stands ticks
    stands [] = record { good = rw cold cold-good; same = cold-run; clock = ap (λ v. v.clock) cold ∙ cold-clock }
    stands (t ∷ ticks) = step (stands ticks)
      where
        step : Stands ticks → Stands (t ∷ ticks)
        step h = record {
          good = rw (next ticks t h.good) (scan-shows a rules (ref_after s ticks) h.good t.word t.elapsed);
          same = next-run ticks t h.good h.same ∙ ap embed (sym (next ticks t h.good));
          clock = clocks ticks t h.good h.clock;
        }

    pub follows : (ticks : List Tick) → Follows run_code s a (code_of a) ticks
    unfolding embed
    follows ticks = by (stands ticks)
      where
        by : Stands ticks → Follows run_code s a (code_of a) ticks
        by h = record {
          scan_accepted = λ t. ap (λ (v : Scanned). v.verdict) (scan-is s a end read acc (ref_after s ticks) h.good.active t.word t.elapsed);
          run_accepted = λ t. ap (λ r. (run_code (code_of a) r t.word t.elapsed).verdict) h.same
              ∙ ap (λ (v : Ran). v.verdict) (run_is (ref_after s ticks) (shows-fits a rules (ref_after s ticks) h.good) t.word t.elapsed);
          state = h.good.active;
          same = h.same;
          flag = ap (λ (r : Record). r.flags) h.same;
          one = λ i. ap (λ (r : Record). get_bit r.flags i) h.same ∙ bit-pow (ref_after s ticks).state i;
          row = ap (λ (r : Record). r.outputs) h.same ∙ h.good.shown;
          clock = ap (λ (r : Record). r.clock) h.same ∙ h.clock;
          home = λ t off. ap (λ (r : Record). r.flags) (next-run ticks t h.good h.same)
              ∙ ap (λ n. 2 ^ n) (off-home a rules (ref_after s ticks) h.good.active t.word t.elapsed off);
        }
