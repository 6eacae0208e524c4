-- What a word does, its code byte and the word itself. Assumes nothing.
use Rattle.std.specs.Prelude.{Ok, Err, Result, IsOk}
use mathlib.Core.Path.{◌≡◌, refl}
use Prim.Native.Nat.{ℕ, ◌<◌}
use native.Mathlib.Omega.{arith}
use Rattle.words.specs.declared.Op.{Op}
use Rattle.words.specs.declared.Op.TheVariants as op
use Rattle.words.specs.declared.UnknownCode.{UnknownCode}
use Rattle.words.specs.Op.{op_no, Decodes}
use Rattle.words.specs.Word.{code_no, known}

-- the word of a code byte that something has, under any operand, has this code byte
pub op-code : (o : Op) (a : ℕ) → code_no (known (op_no o) a) ≡ op_no o
unfolding code_no known
op-code op.End a = refl
op-code op.Lds a = refl
op-code op.Ldi a = refl
op-code op.Not a = refl
op-code op.And a = refl
op-code op.Or a = refl
op-code op.Close a = refl
op-code op.Andt a = refl
op-code op.R a = refl
op-code op.S a = refl
op-code op.Ra a = refl
op-code op.Sa a = refl
op-code op.Jmpc a = refl
op-code op.Jmp a = refl
op-code op.Tres a = refl

-- only END has the code byte 0
pub op-end : (o : Op) → op_no o ≡ 0 → o ≡ op.End
op-end op.End e = refl
op-end op.Lds e = absurd (omega arith)
op-end op.Ldi e = absurd (omega arith)
op-end op.Not e = absurd (omega arith)
op-end op.And e = absurd (omega arith)
op-end op.Or e = absurd (omega arith)
op-end op.Close e = absurd (omega arith)
op-end op.Andt e = absurd (omega arith)
op-end op.R e = absurd (omega arith)
op-end op.S e = absurd (omega arith)
op-end op.Ra e = absurd (omega arith)
op-end op.Sa e = absurd (omega arith)
op-end op.Jmpc e = absurd (omega arith)
op-end op.Jmp e = absurd (omega arith)
op-end op.Tres e = absurd (omega arith)

-- each byte below 15 is the code byte of one
pub decodes_ok : (k : ℕ) (r : Result Op UnknownCode) → Decodes k r → k < 15 → IsOk r
decodes_ok k (Ok o) d h = refl
decodes_ok k (Err why) d h = absurd (omega (arith, d.1))

-- which is read as that one
pub decodes_to : (k : ℕ) {r : Result Op UnknownCode} {o : Op} → Decodes k r → r ≡ Ok o → k ≡ op_no o
decodes_to k d e = rw e at d
