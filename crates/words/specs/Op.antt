-- What a word does, by its code byte.
use Rattle.std.specs.Prelude.{◌≡◌, ℕ, ◌≤◌, Result, Ok, Err}
use Rattle.words.specs.declared.Op.{Op}
use Rattle.words.specs.declared.Op.TheVariants as op
use Rattle.words.specs.declared.UnknownCode.{UnknownCode}

-- "8 bits of code": "0 END; 1 LDS flag; 2 LDI input; 3 NOT; 4 AND(; 5 OR(; 6 ); 7 ANDT ms; 8 R flag; 9 S flag;
-- 10 RA output; 11 SA output; 12 JMPC word; 13 JMP word; 14 TRES."
abbrev pub op_no : Op → ℕ
op_no op.End = 0
op_no op.Lds = 1
op_no op.Ldi = 2
op_no op.Not = 3
op_no op.And = 4
op_no op.Or = 5
op_no op.Close = 6
op_no op.Andt = 7
op_no op.R = 8
op_no op.S = 9
op_no op.Ra = 10
op_no op.Sa = 11
op_no op.Jmpc = 12
op_no op.Jmp = 13
op_no op.Tres = 14

-- the one that has this code byte, or the byte where none has it
abbrev pub Decodes : ℕ → Result Op UnknownCode → Type 0
Decodes byte (Ok op) = byte ≡ op_no op
Decodes byte (Err why) = (why.0 ≡ byte) × (15 ≤ byte)
