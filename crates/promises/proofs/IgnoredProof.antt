-- Inputs k and above are ignored, for a sheet that keeps the rules.
use Rattle.std.specs.Prelude.{Ok}
use mathlib.Core.Path.{◌≡◌, refl, sym, ap, ◌∙◌}
use mathlib.Core.Bool.{Bool, true, false, not, ◌&&◌, cond}
use mathlib.Core.List.{List, [], ◌∷◌}
use Prim.Native.Nat.{ℕ, zero, suc, ◌-◌, ◌<◌}
use lib.Dec.{leb}
use Rattle.bits.specs.Read.{ok}
use Rattle.bits.specs.Word.{get_bit}
use Rattle.clock.specs.Onward.{onward}
use Rattle.condition.specs.Cond.{Cond, inp, neg, conj, disj, eval}
use Rattle.reader.specs.Sheet.{Transition, Sheet}
use Rattle.reader.specs.Reading.{read_sheet}
use Rattle.format.specs.Fields.{InputsBelow, Fields}
use Rattle.rules.specs.Rules.{Rules}
use Rattle.sheet.specs.Judging.{check_sheet}
use Rattle.scan.specs.declared.State.{State}
use Rattle.scan.specs.Scan.{can, best, after, scan_of, scan_sheet, refused}
use Rattle.scan.proofs.AllLaws.{All}
use Rattle.machine.specs.declared.Record.{Record}
use Rattle.words.specs.Word.{Word, END, LDS, LDI, NOT, ANDP, ORP, PAR, ANDT, R, S, RA, SA, JMPC, JMP, TRES}
use Rattle.machine.specs.Machine.{Mach, Out, Frame, and_f, or_f, join, exec, flag_to, out_to, with_clock, run_scan}
use Rattle.machine.specs.Run.{mach_of, record_of, ran_with, run_code}
use Rattle.translate.specs.Translation.{translate}
use Rattle.translate.specs.Writing.{code_of}
use Rattle.machine.proofs.TextLaws.{runs}
use Rattle.promises.specs.Ignored.{Agree}
use Rattle.same.proofs.AcceptedLaws.{with-sheet}
use Rattle.same.proofs.CheckProof.{each-code, fit, check-code}
use Rattle.same.proofs.EachLaws.{Each, all-fields}

module _ (k x y : ℕ) (agree : Agree k x y) where
  -- a condition
  pub eval-same : (c : Cond) → InputsBelow k c → eval x c ≡ eval y c
  unfolding eval
  eval-same (inp i) h = agree i h
  eval-same (neg c) h = ap not (eval-same c h)
  eval-same (conj a b) h = rw (eval-same a h.0, eval-same b h.1) refl
  eval-same (disj a b) h = rw (eval-same a h.0, eval-same b h.1) refl

  -- the choice
  best-same : (n s c : ℕ) (ts : List Transition) → All (Fields n k) ts → best s x c ts ≡ best s y c ts
  unfolding best can
  best-same n s c [] h = refl
  best-same n s c (t ∷ ts) h = rw (eval-same t.condition h.0.inputs, best-same n s c ts h.1) refl

  -- a word that reads no input but one below k
  abbrev Reads : Word → Type 0
  Reads END = Unit {0}
  Reads (LDS flag) = Unit {0}
  Reads (LDI input) = input < k
  Reads NOT = Unit {0}
  Reads ANDP = Unit {0}
  Reads ORP = Unit {0}
  Reads PAR = Unit {0}
  Reads (ANDT ms) = Unit {0}
  Reads (R flag) = Unit {0}
  Reads (S flag) = Unit {0}
  Reads (RA output) = Unit {0}
  Reads (SA output) = Unit {0}
  Reads (JMPC word) = Unit {0}
  Reads (JMP word) = Unit {0}
  Reads TRES = Unit {0}

  -- the machine
  exec-same : (is : List Word) → Each Reads is → (pc j : ℕ) (r : Mach) (a : Bool) (st : List Frame) (n : ℕ)
      → exec x pc is j r a st n ≡ exec y pc is j r a st n
  unfolding exec
  exec-same [] h pc j r a st n = refl
  exec-same (i ∷ is) h pc (suc j) r a st n = exec-same is h.1 (suc pc) j r a st n
  exec-same (END ∷ is) h pc zero r a st n = refl
  exec-same (LDS flag ∷ is) h pc zero r a st n = exec-same is h.1 (suc pc) 0 r (get_bit r.flags flag) st (suc n)
  exec-same (LDI input ∷ is) h pc zero r a st n =
      ap (λ b. exec x (suc pc) is 0 r b st (suc n)) (agree input h.0) ∙ exec-same is h.1 (suc pc) 0 r (get_bit y input) st (suc n)
  exec-same (NOT ∷ is) h pc zero r a st n = exec-same is h.1 (suc pc) 0 r (not a) st (suc n)
  exec-same (ANDP ∷ is) h pc zero r a st n = exec-same is h.1 (suc pc) 0 r a (and_f a ∷ st) (suc n)
  exec-same (ORP ∷ is) h pc zero r a st n = exec-same is h.1 (suc pc) 0 r a (or_f a ∷ st) (suc n)
  exec-same (PAR ∷ is) h pc zero r a [] n = exec-same is h.1 (suc pc) 0 r a [] (suc n)
  exec-same (PAR ∷ is) h pc zero r a (f ∷ st) n = exec-same is h.1 (suc pc) 0 r (join f a) st (suc n)
  exec-same (ANDT ms ∷ is) h pc zero r a st n = exec-same is h.1 (suc pc) 0 r (a && leb ms r.clock) st (suc n)
  exec-same (R flag ∷ is) h pc zero r a st n = exec-same is h.1 (suc pc) 0 (flag_to a r flag false) a st (suc n)
  exec-same (S flag ∷ is) h pc zero r a st n = exec-same is h.1 (suc pc) 0 (flag_to a r flag true) a st (suc n)
  exec-same (RA output ∷ is) h pc zero r a st n = exec-same is h.1 (suc pc) 0 (out_to a r output false) a st (suc n)
  exec-same (SA output ∷ is) h pc zero r a st n = exec-same is h.1 (suc pc) 0 (out_to a r output true) a st (suc n)
  exec-same (JMPC word ∷ is) h pc zero r a st n = exec-same is h.1 (suc pc) (cond a (word - suc pc) 0) r a st (suc n)
  exec-same (JMP word ∷ is) h pc zero r a st n = exec-same is h.1 (suc pc) (word - suc pc) r a st (suc n)
  exec-same (TRES ∷ is) h pc zero r a st n = exec-same is h.1 (suc pc) 0 (with_clock r 0) a st (suc n)

module _ (a : Sheet) (rules : Rules a) (x y : ℕ) (agree : Agree a.inputs x y) (e : ℕ) where
  reads : Each (Reads a.inputs x y agree) (translate a)
  reads = each-code a rules (Reads a.inputs x y agree) (record {
    kinds = record {
      input = λ i h. h;
      turn = tt;
      both = tt;
      either = tt;
      join = tt;
      load = λ s h. tt;
      leave = λ s h. tt;
      enter = λ s h. tt;
      go = λ d h. tt;
    };
    rows = record { on = λ i h. tt; off = λ i h. tt; done = tt };
    wait = λ w h. tt;
    zeroed = tt;
    end = tt;
  })

  pub scan_of-same : (q : State) → scan_of a q x e ≡ scan_of a q y e
  unfolding scan_of
  scan_of-same q =
      ap (after a q (onward q.clock e)) (best-same a.inputs x y agree a.states q.state (onward q.clock e) a.transitions (all-fields a rules))

  pub scan-ignores : (s : List ℕ) (end : ℕ) → read_sheet s ≡ ok a end → check_sheet s ≡ Ok tt → (q : State) → scan_sheet s q x e ≡ scan_sheet s q y e
  unfolding scan_sheet
  scan-ignores s end read acc q = with-sheet s a end read acc (refused q) _ ∙ rw (scan_of-same q) (sym (with-sheet s a end read acc (refused q) _))

  run_by : (r : Record) (z : ℕ) → run_code (code_of a) r z e ≡ ran_with (Ok tt) (record_of (run_scan (translate a) (mach_of r) z e).mach)
  unfolding code_of
  run_by r z = runs (translate a) (fit a rules) (check-code a rules) r z e

  pub run-ignores : (r : Record) → run_code (code_of a) r x e ≡ run_code (code_of a) r y e
  unfolding run_scan
  run-ignores r =
      let from = with_clock (mach_of r) (onward r.clock e) in
      let same = exec-same a.inputs x y agree (translate a) reads 0 0 from false [] 0 in
      run_by r x ∙ ap (λ (o : Out). ran_with (Ok tt) (record_of o.mach)) same ∙ sym (run_by r y)
