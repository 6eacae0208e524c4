-- A condition read from the bits of a sheet: its tree, the nodes met so far and the next bit, or the refusal met first.
use Rattle.std.specs.Prelude.{ℕ, zero, suc, ◌+◌, List, Bool, true, false, ltb, leb, eqb}
use Rattle.answer.specs.declared.Refusal.TheVariants.{InputNo, Big}
use Rattle.bits.specs.Read.{Ans, ok, no, bind, guard, read_field}
use Rattle.condition.specs.Cond.{Cond, inp, neg, conj, disj}

-- a tree, and the nodes read with it and before it
pub record Counted : Type 0 where
  pub tree : Cond
  pub count : ℕ

abbrev pub counted : Cond → ℕ → Counted
counted t n = record { tree = t; count = n }

-- "00 input, followed by a 4-bit input number": 4 INPUT-NO where it is "an input k or above", at the "first bit of the number"
unfoldable pub input_at : List ℕ → ℕ → ℕ → ℕ → Ans Counted
input_at s k seen at =
    bind (read_field s 4 at) λ i next.
    guard (ltb i k) (InputNo at) (ok (counted (inp i) (seen + 1)) next)

-- "10 AND with two; 11 OR with two"
abbrev pub joined : Bool → Cond → Cond → Cond
joined true a b = conj a b
joined false a b = disj a b

-- behind the first operand: NOT has one, AND and OR have two
abbrev pub behind : Bool → (ℕ → ℕ → Ans Counted) → ℕ → Counted → ℕ → Ans Counted
behind true read tag a next = ok (counted (neg a.tree) a.count) next
behind false read tag a next = bind (read a.count next) λ b after. ok (counted (joined (eqb tag 2) a.tree b.tree) b.count) after

-- the operands of a node with this tag, each read by `read`
unfoldable pub operands_at : (ℕ → ℕ → Ans Counted) → ℕ → ℕ → ℕ → Ans Counted
operands_at read tag seen at = bind (read seen at) λ a next. behind (eqb tag 1) read tag a next

-- a node whose tag is read: "a node's tag is judged for 5 before its number is read"; is it the 32nd, and is it an input?
abbrev pub node_at : Bool → Bool → (ℕ → ℕ → Ans Counted) → List ℕ → ℕ → ℕ → ℕ → ℕ → ℕ → Ans Counted
node_at true input read s k tag seen at next = no (Big at)
node_at false true read s k tag seen at next = input_at s k seen next
node_at false false read s k tag seen at next = operands_at read tag (seen + 1) next

-- the condition at `at`, at most `room` deep, behind `seen` nodes: 5 BIG for "a 32nd node, or a node at depth 9", at the "first bit of its tag"
unfoldable pub cond_at : ℕ → List ℕ → ℕ → ℕ → ℕ → Ans Counted
cond_at zero s k seen at = bind (read_field s 2 at) λ tag next. no (Big at)
cond_at (suc room) s k seen at =
    bind (read_field s 2 at) λ tag next. node_at (leb 31 seen) (eqb tag 0) (cond_at room s k) s k tag seen at next

-- a whole condition: nothing seen before it, and room for 8 levels
abbrev pub condition_at : List ℕ → ℕ → ℕ → Ans Counted
condition_at s k at = cond_at 8 s k 0 at
