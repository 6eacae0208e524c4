-- `bits::put_bit` meets its contract. Assumes nothing.
use mathlib.Core.Path.{◌≡◌, refl, sym, ◌∙◌}
use mathlib.Core.Bool.{Bool, true, false, beq}
use Prim.Native.Nat.{ℕ, ◌+◌, ◌^◌}
use native.Mathlib.Omega.{arith}
use Rattle.answer.proofs.BoolLaws.{true-false}
use Rattle.bits.specs.Word.{put_bit}
use Rattle.bits.proofs.WordLaws.{weight, put-known, put-sum, put-lt, one_shl}
use Rattle.bits.proofs.put_bit.Goals as goal

same : (g b : Bool) (p : ℕ) → beq g b ≡ true → weight g p ≡ weight b p
same true true p e = refl
same false false p e = refl
same true false p e = true-false (sym e)
same false true p e = true-false (sym e)

not_set : (g : Bool) → beq g true ≡ false → g ≡ false
not_set true e = true-false e
not_set false e = refl

set : (g : Bool) → beq g false ≡ false → g ≡ true
set true e = refl
set false e = true-false e

up : (c : goal.Then-bit) → put_bit c.args.w c.args.i true + 0 ≡ c.args.w + 2 ^ c.args.i
up c = put-known _ _ true false (sym c.get_bit.ensures ∙ not_set c.get_bit.result (rw c.if-bit.true at c.if-get_bit-bit.false))

down : (c : goal.Else-bit) → put_bit c.args.w c.args.i false + 2 ^ c.args.i ≡ c.args.w + 0
down c = put-known _ _ false true (sym c.get_bit.ensures ∙ set c.get_bit.result (rw c.if-bit.false at c.if-get_bit-bit.false))

pub returns-then-get_bit-bit : goal.returns-then-get_bit-bit
returns-then-get_bit-bit c =
    let a = c.args in
    let e = rw c.get_bit.ensures at (same c.get_bit.result a.bit (2 ^ a.i) c.if-get_bit-bit.true) in
    omega (arith, put-sum a.w a.i a.bit, e)

pub overflow_add-result : goal.overflow_add-result
overflow_add-result c =
    omega (
      arith,
      up c,
      one_shl c.args.i (omega arith),
      put-lt 32 c.args.w c.args.i true (omega arith) (omega arith),
    )

pub overflow_sub-result : goal.overflow_sub-result
overflow_sub-result c = omega (arith, down c, one_shl c.args.i (omega arith))

pub returns-then-bit : goal.returns-then-bit
returns-then-bit c = rw c.if-bit.true (omega (arith, up c, one_shl c.args.i (omega arith)))

pub returns-else-bit : goal.returns-else-bit
returns-else-bit c = rw c.if-bit.false (omega (arith, down c, one_shl c.args.i (omega arith)))
