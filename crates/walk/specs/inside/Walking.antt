-- How a walk over the bits of a condition stands to its items: not needed to read the promises.
use Rattle.std.specs.Prelude.{◌≡◌, Bool, true, false, List, [], ◌∷◌, ◌++◌, ℕ, ◌+◌, ◌*◌, ◌-◌, ◌≤◌, ◌<◌, Some, None}
use Rattle.std.specs.declared.option.Option.{Option}
use Rattle.bits.specs.Field.{reach}
use Rattle.condition.specs.Cond.{Cond, nodes}
use Rattle.condition.specs.inside.Reach.{cond_end}
use Rattle.condition.specs.inside.Lies.{size, Lies}
use Rattle.words.specs.declared.Op.{Op}
use Rattle.words.specs.Op.{op_no}
use Rattle.walk.specs.Items.{Item, Load, Turn, OpenAnd, OpenOr, Close, items, item_no, operand_of}
use Rattle.walk.specs.declared.Walk.{Walk}

-- what waits while an operand is walked: NOT; AND and OR with their second operand; a parenthesis to close
pub data Frame : Type 0 where
  turning closing : Frame
  anding oring : Cond → Frame

abbrev pub digit : Frame → ℕ
digit turning = 1
digit (anding b) = 2
digit (oring b) = 3
digit closing = 0

unfoldable pub enc : List Frame → ℕ
enc [] = 1
enc (f ∷ fs) = enc fs * 4 + digit f

-- the items behind the operand
unfoldable pub after : List Frame → List Item
after [] = []
after (turning ∷ fs) = Turn ∷ after fs
after (anding b ∷ fs) = OpenAnd ∷ items b ++ (Close ∷ after fs)
after (oring b ∷ fs) = OpenOr ∷ items b ++ (Close ∷ after fs)
after (closing ∷ fs) = Close ∷ after fs

-- the second operands stand one behind the other
abbrev pub Waits : List ℕ → ℕ → List Frame → Type 0
Waits s at [] = at ≤ cond_end
Waits s at (turning ∷ fs) = Waits s at fs
Waits s at (anding b ∷ fs) = Lies s at b × Waits s (at + size b) fs
Waits s at (oring b ∷ fs) = Lies s at b × Waits s (at + size b) fs
Waits s at (closing ∷ fs) = Waits s at fs

-- the nodes met that wait, and those not met yet
unfoldable pub load : List Frame → ℕ
load [] = 0
load (turning ∷ fs) = 1 + load fs
load (anding b ∷ fs) = 1 + nodes b + load fs
load (oring b ∷ fs) = 1 + nodes b + load fs
load (closing ∷ fs) = 1 + load fs

-- an operand stands at the next bit, and the items to come are `is`
pub record Down (s : List ℕ) (at pending : ℕ) (is : List Item) : Type 0 where
  pub tree : Cond
  pub frames : List Frame
  pub lies : Lies s at tree
  pub waits : Waits s (at + size tree) frames
  pub few : nodes tree + load frames ≤ 31
  pub coded : pending ≡ enc frames
  pub comes : is ≡ items tree ++ after frames

-- an operand has just been finished
pub record Up (s : List ℕ) (at pending : ℕ) (is : List Item) : Type 0 where
  pub frames : List Frame
  pub waits : Waits s at frames
  pub few : load frames ≤ 31
  pub coded : pending ≡ enc frames
  pub comes : is ≡ after frames

abbrev pub WalksAt : Bool → List ℕ → ℕ → ℕ → List Item → Type 0
WalksAt true s at pending is = Up s at pending is
WalksAt false s at pending is = Down s at pending is

-- a walk at a bit, with what waits; whether an operand has just been finished
abbrev pub walk_at : ℕ → ℕ → Bool → Walk
walk_at at pending up = record { at = at; pending = pending; up = up }

-- the items still to come from the walk
abbrev pub Walks : List ℕ → Walk → List Item → Type 0
Walks s w is = WalksAt w.up s w.at w.pending is

pub record Walking (s : List ℕ) (w : Walk) : Type 0 where
  pub items : List Item
  pub walks : Walks s w items

pub record Downward (s : List ℕ) (at pending : ℕ) : Type 0 where
  pub items : List Item
  pub down : Down s at pending items

-- what the code answers: what the next item's word does, its operand, and the walk behind it; or none
abbrev pub Stepped : Type 0
Stepped = Option (Op × ℕ × Walk)

-- the answer is the first of the items, and the rest is still to come
abbrev pub Tells : List ℕ → List Item → Stepped → Type 0
Tells s [] (Some x) = ⊥
Tells s [] None = Unit {0}
Tells s (i ∷ is) (Some x) =
    (op_no x.0 ≡ item_no i) × (x.1 ≡ operand_of i) × (x.1 < 16) × Walks s x.2 is
Tells s (i ∷ is) None = ⊥

-- the first of the items is an input, and the rest is still to come
abbrev pub Loads : List ℕ → List Item → ℕ → Walk → Type 0
Loads s is input walk = (rest : List Item) × (is ≡ Load input ∷ rest) × (input < 16) × Walks s walk rest

-- what falls with each item: the bits left, and below them what waits, which is less than 2 ^ 61
unfoldable pub left : ℕ → ℕ → ℕ
left at pending = (reach - at) * 2305843009213693952 + pending

abbrev pub Falls : ℕ → ℕ → Stepped → Type 0
Falls at pending (Some x) = left x.2.at x.2.pending < left at pending
Falls at pending None = Unit {0}
