-- One word of the machine, as the code holds it. Assumes nothing.
use mathlib.Core.Path.{◌≡◌, refl}
use mathlib.Core.Bool.{Bool, true, false, not, cond, ◌&&◌}
use mathlib.Core.List.{List, [], ◌∷◌}
use Prim.Native.Nat.{ℕ, zero, suc, ◌+◌, ◌-◌, ◌*◌, ◌/◌, ◌%◌, ◌^◌, ◌≤◌, ◌<◌}
use native.Mathlib.Omega.{arith}
use native.Mathlib.Nat.{pow-succ'}
use borrow.Author.Tests.{ltb-false, leb-false}
use lib.Dec.{leb, ltb}
use lib.ListN.{length}
use mir.Val.{bool_byte}
use Rattle.bits.specs.Word.{get_bit}
use Rattle.machine.specs.declared.Midway.{Midway}
use Rattle.words.specs.declared.Op.{Op}
use Rattle.words.specs.declared.Op.TheVariants as op
use Rattle.words.specs.Word.{LDS, LDI, NOT, ANDP, ORP, PAR, ANDT, R, S, RA, SA, JMPC, JMP, TRES, known}
use Rattle.machine.specs.Machine.{Frame, and_f, or_f, join, with_clock, flag_to, out_to, exec}
use Rattle.faults.specs.Check.{opens, faulty}
use Rattle.machine.specs.inside.Midway.{digit, enc, join_top, mach_in, midway, passed, Executable, Executes}
use Rattle.faults.proofs.CheckLaws.{or_no, jump_ok}

pub bit-small : (b : Bool) → bool_byte b ≤ 1
bit-small true = omega arith
bit-small false = omega arith

bit_is : (b : Bool) → bool_byte b ≡ cond b 1 0
bit_is true = refl
bit_is false = refl

digit-small : (f : Frame) → digit f < 4
digit-small (and_f true) = omega arith
digit-small (and_f false) = omega arith
digit-small (or_f true) = omega arith
digit-small (or_f false) = omega arith

-- the lowest digit and the rest
rest-is : (f : Frame) (st : List Frame) → enc (f ∷ st) / 4 ≡ enc st
unfolding enc
rest-is f st = omega (arith, digit-small f)

top-is : (f : Frame) (st : List Frame) → enc (f ∷ st) % 4 ≡ digit f
unfolding enc
top-is f st = omega (arith, digit-small f)

top-join : (f : Frame) (a : Bool) → join_top (digit f) a ≡ join f a
unfolding join_top
top-join (and_f true) a = refl
top-join (and_f false) a = refl
top-join (or_f true) a = refl
top-join (or_f false) a = refl

four-pos : (n : ℕ) → 0 < 4 ^ n
four-pos zero = omega arith
four-pos (suc n) = omega (arith, four-pos n, pow-succ' 4 n)

-- at most n put aside stand in n digits
enc-small : (n : ℕ) (st : List Frame) → length st ≤ n → enc st < 4 ^ n
unfolding enc
enc-small n [] h = four-pos n
enc-small zero (f ∷ st) h = absurd (omega arith)
enc-small (suc n) (f ∷ st) h = omega (arith, enc-small n st (omega arith), digit-small f, pow-succ' 4 n)

below : (m a : ℕ) → ltb m a ≡ false → a < suc m
below m a h = omega (arith, ltb-false m a h)

room : (x : ℕ) (st : List Frame) → x ≡ enc st → leb 8 (length st) ≡ false → x < 65536
room x st e h = omega (arith, enc-small 8 st (omega (arith, leb-false 8 (length st) h)))

-- what a word without fault says of its operand and of what is put aside
module _ {o : Op} {pc a x : ℕ} (r : Executable o pc a x) where
  pub lds-small : o ≡ op.Lds → a < 32
  unfolding known faulty
  lds-small e = below 31 a (or_no (ltb 31 a) (ltb 0 (length r.stack)) (rw e at r.sound)).0

  pub ldi-small : o ≡ op.Ldi → a < 16
  unfolding known faulty
  ldi-small e = below 15 a (rw e at r.sound)

  pub r_small : o ≡ op.R → a < 32
  unfolding known faulty
  r_small e = below 31 a (rw e at r.sound)

  pub s-small : o ≡ op.S → a < 32
  unfolding known faulty
  s-small e = below 31 a (rw e at r.sound)

  pub ra-small : o ≡ op.Ra → a < 16
  unfolding known faulty
  ra-small e = below 15 a (rw e at r.sound)

  pub sa-small : o ≡ op.Sa → a < 16
  unfolding known faulty
  sa-small e = below 15 a (rw e at r.sound)

  pub and-room : o ≡ op.And → x < 65536
  unfolding known faulty
  and-room e = room x r.stack r.held (rw e at r.sound)

  pub or-room : o ≡ op.Or → x < 65536
  unfolding known faulty
  or-room e = room x r.stack r.held (rw e at r.sound)

  pub jmpc-forward : o ≡ op.Jmpc → pc < a
  unfolding known faulty
  jmpc-forward e = (jump_ok r.n pc (length r.stack) a (rw e at r.sound)).0

  pub jmp-forward : o ≡ op.Jmp → pc < a
  unfolding known faulty
  jmp-forward e = (jump_ok r.n pc (length r.stack) a (rw e at r.sound)).0

-- each word, from a machine that holds the stack st
module _ (x : ℕ) (m : Midway) (st : List Frame) (e : m.aside ≡ enc st) where
  pub lds : (a : ℕ) → Executes x (LDS a) m (midway (m.at + 1) (get_bit m.«record».flags a) m.aside (mach_in m)) st
  unfolding opens passed exec
  lds a = record { stack = st; held = e; deep = refl; next = omega arith; goes = λ n is. refl }

  pub ldi : (a : ℕ) → Executes x (LDI a) m (midway (m.at + 1) (get_bit x a) m.aside (mach_in m)) st
  unfolding opens passed exec
  ldi a = record { stack = st; held = e; deep = refl; next = omega arith; goes = λ n is. refl }

  pub turn : Executes x NOT m (midway (m.at + 1) (not m.result) m.aside (mach_in m)) st
  unfolding opens passed exec
  turn = record { stack = st; held = e; deep = refl; next = omega arith; goes = λ n is. refl }

  pub and-aside : Executes x ANDP m (midway (m.at + 1) m.result (m.aside * 4 + 2 * 1 + bool_byte m.result) (mach_in m)) st
  unfolding opens passed exec enc
  and-aside =
      record { stack = and_f m.result ∷ st; held = omega (arith, e, bit_is m.result); deep = refl; next = omega arith; goes = λ n is. refl }

  pub or-aside : Executes x ORP m (midway (m.at + 1) m.result (m.aside * 4 + 2 * 0 + bool_byte m.result) (mach_in m)) st
  unfolding opens passed exec enc
  or-aside =
      record { stack = or_f m.result ∷ st; held = omega (arith, e, bit_is m.result); deep = refl; next = omega arith; goes = λ n is. refl }

  pub andt : (a : ℕ) → Executes x (ANDT a) m (midway (m.at + 1) (m.result && leb a m.«record».clock) m.aside (mach_in m)) st
  unfolding opens passed exec
  andt a = record { stack = st; held = e; deep = refl; next = omega arith; goes = λ n is. refl }

  pub resets : (a : ℕ) → Executes x (R a) m (midway (m.at + 1) m.result m.aside (flag_to m.result (mach_in m) a false)) st
  unfolding opens passed exec
  resets a = record { stack = st; held = e; deep = refl; next = omega arith; goes = λ n is. refl }

  pub sets : (a : ℕ) → Executes x (S a) m (midway (m.at + 1) m.result m.aside (flag_to m.result (mach_in m) a true)) st
  unfolding opens passed exec
  sets a = record { stack = st; held = e; deep = refl; next = omega arith; goes = λ n is. refl }

  pub resets-out : (a : ℕ) → Executes x (RA a) m (midway (m.at + 1) m.result m.aside (out_to m.result (mach_in m) a false)) st
  unfolding opens passed exec
  resets-out a = record { stack = st; held = e; deep = refl; next = omega arith; goes = λ n is. refl }

  pub sets-out : (a : ℕ) → Executes x (SA a) m (midway (m.at + 1) m.result m.aside (out_to m.result (mach_in m) a true)) st
  unfolding opens passed exec
  sets-out a = record { stack = st; held = e; deep = refl; next = omega arith; goes = λ n is. refl }

  pub jmpc : (a to : ℕ) → to ≡ suc m.at + cond m.result (a - suc m.at) 0 → Executes x (JMPC a) m (midway to m.result m.aside (mach_in m)) st
  unfolding opens passed exec
  jmpc a to h = record { stack = st; held = e; deep = refl; next = h; goes = λ n is. refl }

  pub jmp : (a : ℕ) → m.at < a → Executes x (JMP a) m (midway a m.result m.aside (mach_in m)) st
  unfolding opens passed exec
  jmp a h = record { stack = st; held = e; deep = refl; next = omega arith; goes = λ n is. refl }

  pub tres : Executes x TRES m (midway (m.at + 1) m.result m.aside (with_clock (mach_in m) 0)) st
  unfolding opens passed exec
  tres = record { stack = st; held = e; deep = refl; next = omega arith; goes = λ n is. refl }

pub closes : (x : ℕ) (m : Midway) (st : List Frame) → m.aside ≡ enc st
    → Executes x PAR m (midway (m.at + 1) (join_top (m.aside % 4) m.result) (m.aside / 4) (mach_in m)) st
unfolding opens passed exec enc join_top
closes x m [] e = rw e (record { stack = []; held = refl; deep = refl; next = omega arith; goes = λ n is. refl })
closes x m (f ∷ st) e =
    record {
      stack = st;
      held = rw e (rest-is f st);
      deep = refl;
      next = omega arith;
      goes = λ n is. rw (e, top-is f st, top-join f m.result) refl;
    }
