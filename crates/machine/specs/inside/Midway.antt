-- How the code holds the machine between two words: not needed to read the promises.
use Rattle.std.specs.Prelude.{◌≡◌, Bool, false, ◌&&◌, ◌||◌, cond, List, [], ◌∷◌, ℕ, suc, ◌+◌, ◌-◌, ◌*◌, ◌%◌, ◌<◌, eqb, ltb, length}
use Rattle.words.specs.declared.Op.{Op}
use Rattle.words.specs.declared.Op.TheVariants.{End}
use Rattle.words.specs.Op.{op_no}
use Rattle.words.specs.Word.{Word, END, LDS, LDI, NOT, ANDP, ORP, PAR, ANDT, R, S, RA, SA, JMPC, JMP, TRES, known}
use Rattle.faults.specs.Check.{opens, faulty}
use Rattle.machine.specs.Machine.{Mach, Frame, and_f, or_f, exec}
use Rattle.machine.specs.Run.{mach_of, record_of}
use Rattle.machine.specs.declared.Midway.{Midway}

-- what is put aside as one number in base 4, the last one in the lowest digit
abbrev pub digit : Frame → ℕ
digit (and_f kept) = 2 + cond kept 1 0
digit (or_f kept) = cond kept 1 0

unfoldable pub enc : List Frame → ℕ
enc [] = 0
enc (f ∷ st) = enc st * 4 + digit f

-- ) on the lowest digit; with nothing put aside it leaves the result as it is
unfoldable pub join_top : ℕ → Bool → Bool
join_top top a = cond (ltb top 2) (eqb (top % 2) 1 || a) (eqb (top % 2) 1 && a)

-- what the machine has changed and will hand back
abbrev pub mach_in : Midway → Mach
mach_in m = mach_of m.record

-- at a word, with a result, what is put aside and that
abbrev pub midway : ℕ → Bool → ℕ → Mach → Midway
midway at a x r = record { at = at; result = a; aside = x; «record» = record_of r }

-- the words that word pc passes over, with the current result a
unfoldable pub passed : Word → ℕ → Bool → ℕ
passed END pc a = 0
passed (LDS flag) pc a = 0
passed (LDI input) pc a = 0
passed NOT pc a = 0
passed ANDP pc a = 0
passed ORP pc a = 0
passed PAR pc a = 0
passed (ANDT ms) pc a = 0
passed (R flag) pc a = 0
passed (S flag) pc a = 0
passed (RA output) pc a = 0
passed (SA output) pc a = 0
passed (JMPC word) pc a = cond a (word - suc pc) 0
passed (JMP word) pc a = word - suc pc
passed TRES pc a = 0

-- a word that may be executed at pc, under the stack that the number x holds: it is not END, and without fault
pub record Executable (o : Op) (pc a x : ℕ) : Type 0 where
  pub n : ℕ
  pub stack : List Frame
  pub held : x ≡ enc stack
  pub near : pc < 8192
  pub small : a < 16777216
  pub live : o ≡ End → ⊥
  pub sound : faulty n pc (length stack) (known (op_no o) a) ≡ false

-- from m to r the machine executes word i, with st put aside before it
pub record Executes (x : ℕ) (i : Word) (m r : Midway) (st : List Frame) : Type 0 where
  pub stack : List Frame
  pub held : r.aside ≡ enc stack
  pub deep : length stack ≡ opens i (length st)
  pub next : r.at ≡ suc m.at + passed i m.at m.result
  pub goes : (n : ℕ) (is : List Word)
      → exec x m.at (i ∷ is) 0 (mach_in m) m.result st n
      ≡ exec x (suc m.at) is (passed i m.at m.result) (mach_in r) r.result stack (suc n)
