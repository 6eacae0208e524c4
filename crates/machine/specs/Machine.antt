-- The machine: one scan of words.
use Rattle.std.specs.Prelude.{Bool, true, false, not, ◌&&◌, ◌||◌, cond, List, [], ◌∷◌, ℕ, zero, suc, ◌-◌, leb}
use Rattle.bits.specs.Word.{get_bit, put_bit}
use Rattle.clock.specs.Onward.{onward}
use Rattle.words.specs.Word.{Word, END, LDS, LDI, NOT, ANDP, ORP, PAR, ANDT, R, S, RA, SA, JMPC, JMP, TRES}

-- what a scan may change: "a flag word (flag s has weight 2^s), an output word (output a has weight 2^a) and the clock"
pub record Mach : Type 0 where
  pub flags : ℕ
  pub outputs : ℕ
  pub clock : ℕ

abbrev pub mach_with : ℕ → ℕ → ℕ → Mach
mach_with flags outputs clock = record { flags = flags; outputs = outputs; clock = clock }

-- how a scan ends, and the number of words executed
pub record Out : Type 0 where
  pub mach : Mach
  pub ran : ℕ

abbrev pub out : Mach → ℕ → Out
out r n = record { mach = r; ran = n }

-- "AND( and OR( put a copy of it aside with their operation"
pub data Frame : Type 0 where
  and_f or_f : Bool → Frame

-- ") joins the one put aside last with the current one."
abbrev pub join : Frame → Bool → Bool
join (and_f kept) a = kept && a
join (or_f kept) a = kept || a

-- with one part anew
abbrev pub with_flags : Mach → ℕ → Mach
with_flags r w = mach_with w r.outputs r.clock

abbrev pub with_outputs : Mach → ℕ → Mach
with_outputs r w = mach_with r.flags w r.clock

abbrev pub with_clock : Mach → ℕ → Mach
with_clock r t = mach_with r.flags r.outputs t

-- "R, S, RA and SA act only when it is true": with the current result a, flag or output i is made b
unfoldable pub flag_to : Bool → Mach → ℕ → Bool → Mach
flag_to true r i b = with_flags r (put_bit r.flags i b)
flag_to false r i b = r

unfoldable pub out_to : Bool → Mach → ℕ → Bool → Mach
out_to true r i b = with_outputs r (put_bit r.outputs i b)
out_to false r i b = r

-- The run of the words left, of which the first is word pc: input word x, k words still to be passed over, r what it may change, current result a,
-- what is put aside st (the last one first), n words executed before. A jump from word pc to word t passes over the t - (pc + 1) between.
-- "LDS and LDI load it, NOT turns it. AND( and OR( put a copy of it aside with their operation, and the current result stays as it is;
-- ) joins the one put aside last with the current one. ANDT keeps it true only if the clock is at least the operand. R, S, RA and SA act
-- only when it is true, and so does JMPC. TRES zeroes the clock. END ends the scan."
unfoldable pub exec : ℕ → ℕ → List Word → ℕ → Mach → Bool → List Frame → ℕ → Out
exec x pc [] k r a st n = out r n
exec x pc (i ∷ is) (suc k) r a st n = exec x (suc pc) is k r a st n
exec x pc (END ∷ is) zero r a st n = out r (suc n)
exec x pc (LDS flag ∷ is) zero r a st n = exec x (suc pc) is 0 r (get_bit r.flags flag) st (suc n)
exec x pc (LDI input ∷ is) zero r a st n = exec x (suc pc) is 0 r (get_bit x input) st (suc n)
exec x pc (NOT ∷ is) zero r a st n = exec x (suc pc) is 0 r (not a) st (suc n)
exec x pc (ANDP ∷ is) zero r a st n = exec x (suc pc) is 0 r a (and_f a ∷ st) (suc n)
exec x pc (ORP ∷ is) zero r a st n = exec x (suc pc) is 0 r a (or_f a ∷ st) (suc n)
exec x pc (PAR ∷ is) zero r a [] n = exec x (suc pc) is 0 r a [] (suc n)
exec x pc (PAR ∷ is) zero r a (f ∷ st) n = exec x (suc pc) is 0 r (join f a) st (suc n)
exec x pc (ANDT ms ∷ is) zero r a st n = exec x (suc pc) is 0 r (a && leb ms r.clock) st (suc n)
exec x pc (R flag ∷ is) zero r a st n = exec x (suc pc) is 0 (flag_to a r flag false) a st (suc n)
exec x pc (S flag ∷ is) zero r a st n = exec x (suc pc) is 0 (flag_to a r flag true) a st (suc n)
exec x pc (RA output ∷ is) zero r a st n = exec x (suc pc) is 0 (out_to a r output false) a st (suc n)
exec x pc (SA output ∷ is) zero r a st n = exec x (suc pc) is 0 (out_to a r output true) a st (suc n)
exec x pc (JMPC word ∷ is) zero r a st n = exec x (suc pc) is (cond a (word - suc pc) 0) r a st (suc n)
exec x pc (JMP word ∷ is) zero r a st n = exec x (suc pc) is (word - suc pc) r a st (suc n)
exec x pc (TRES ∷ is) zero r a st n = exec x (suc pc) is 0 (with_clock r 0) a st (suc n)

-- "There is one current result, false at the start of a scan"; the runner "brings the clock forward as above and starts at word 0."
unfoldable pub run_scan : List Word → Mach → ℕ → ℕ → Out
run_scan code r x elapsed = exec x 0 code 0 (with_clock r (onward r.clock elapsed)) false [] 0
