-- Laws of the walk: what its next bits and what waits say of the items to come. Assumes nothing.
use mathlib.Core.Path.{◌≡◌, refl, sym, ap, ◌∙◌, subst}
use mathlib.Core.Bool.{true, false}
use mathlib.Core.List.{List, [], ◌∷◌, ◌++◌, append_assoc, append-nil}
use Prim.Native.Nat.{ℕ, zero, suc, ◌+◌, ◌*◌, ◌-◌, ◌/◌, ◌%◌, ◌^◌, ◌≤◌, ◌<◌}
use native.Mathlib.Nat.{pow-succ', add_assoc}
use native.Mathlib.Omega.{arith}
use lib.ListN.{length}
use Rattle.bits.specs.Field.{num_at}
use Rattle.bits.proofs.FieldLaws.{num-lt, num-join}
use Rattle.condition.specs.Cond.{Cond, inp, neg, conj, disj, nodes}
use Rattle.condition.specs.inside.Reach.{cond_end}
use Rattle.condition.specs.inside.Lies.{size, Lies, Lodges}
use Rattle.walk.specs.Items.{Item, Load, Turn, OpenAnd, OpenOr, Close, items}
use Rattle.walk.specs.inside.Walking.{Frame, turning, closing, anding, oring, digit, enc, after, Waits, load, Down, Up, Walks, walk_at, Tells, Loads, left}
use Rattle.walk.specs.declared.Walk.{Walk}
use Rattle.words.specs.declared.Op.TheVariants as op
use Rattle.std.specs.Prelude.{Some, None}

size-some : (t : Cond) → 6 ≤ size t
unfolding size
size-some (inp i) = omega arith
size-some (neg c) = omega (arith, size-some c)
size-some (conj a b) = omega (arith, size-some a)
size-some (disj a b) = omega (arith, size-some a)

pub nodes-some : (t : Cond) → 1 ≤ nodes t
unfolding nodes
nodes-some (inp i) = omega arith
nodes-some (neg c) = omega arith
nodes-some (conj a b) = omega arith
nodes-some (disj a b) = omega arith

lies-inside : (s : List ℕ) (at : ℕ) (t : Cond) → Lies s at t → at + size t ≤ length s * 8
unfolding size
lies-inside s at (inp i) h = omega (arith, h.1.0)
lies-inside s at (neg c) h = omega (arith, lies-inside s (at + 2) c h.1)
lies-inside s at (conj a b) h = omega (arith, lies-inside s (at + 2 + size a) b h.2)
lies-inside s at (disj a b) h = omega (arith, lies-inside s (at + 2 + size a) b h.2)

waits-near : (s : List ℕ) (at : ℕ) (fs : List Frame) → Waits s at fs → at ≤ cond_end
waits-near s at [] h = h
waits-near s at (turning ∷ fs) h = waits-near s at fs h
waits-near s at (anding b ∷ fs) h = omega (arith, waits-near s (at + size b) fs h.1)
waits-near s at (oring b ∷ fs) h = omega (arith, waits-near s (at + size b) fs h.1)
waits-near s at (closing ∷ fs) h = waits-near s at fs h

digit_lt : (f : Frame) → digit f < 4
digit_lt turning = omega arith
digit_lt (anding b) = omega arith
digit_lt (oring b) = omega arith
digit_lt closing = omega arith

enc-some : (fs : List Frame) → 1 ≤ enc fs
unfolding enc
enc-some [] = omega arith
enc-some (f ∷ fs) = omega (arith, enc-some fs)

enc-lt : (fs : List Frame) (n : ℕ) → length fs ≤ n → enc fs < 2 * 4 ^ n
unfolding enc
enc-lt [] zero h = omega arith
enc-lt [] (suc n) h = omega (arith, enc-lt [] n (omega arith), pow-succ' 4 n)
enc-lt (f ∷ fs) zero h = absurd (omega arith)
enc-lt (f ∷ fs) (suc n) h = omega (arith, enc-lt fs n (omega arith), digit_lt f, pow-succ' 4 n)

load-length : (fs : List Frame) → length fs ≤ load fs
unfolding load
load-length [] = omega arith
load-length (turning ∷ fs) = omega (arith, load-length fs)
load-length (anding b ∷ fs) = omega (arith, load-length fs)
load-length (oring b ∷ fs) = omega (arith, load-length fs)
load-length (closing ∷ fs) = omega (arith, load-length fs)

-- what waits fits in a word, and has room for one digit more where a node is to come
enc-room : (fs : List Frame) → load fs ≤ 30 → enc fs < 2305843009213693952
enc-room fs h = enc-lt fs 30 (omega (arith, load-length fs))

-- the six bits of a node: its tag above four more
six : (s : List ℕ) (at : ℕ) → num_at s at 6 ≡ num_at s at 2 * 16 + num_at s (at + 2) 4
six s at = num-join s at 2 4

module _ {s : List ℕ} {at pending : ℕ} {is : List Item} (d : Down s at pending is) where
  -- the bits of a node are there
  pub down-near : at + 6 ≤ cond_end
  down-near = omega (arith, waits-near s (at + size d.tree) d.frames d.waits, size-some d.tree)

  pub down-inside : at + 6 ≤ length s * 8
  down-inside = omega (arith, lies-inside s at d.tree d.lies, size-some d.tree)

  pub down-room : pending < 2305843009213693952
  down-room = omega (arith, d.coded, enc-room d.frames (omega (arith, d.few, nodes-some d.tree)))

-- an operator: it waits, and its first operand is next
down-on : (s : List ℕ) (at pending : ℕ) (is : List Item) (t : Cond) (fs : List Frame) → Lies s at t → Waits s (at + size t) fs → nodes t + load fs ≤ 31
    → pending ≡ enc fs → is ≡ items t ++ after fs → 16 ≤ num_at s at 6 → Down s (at + 2) (pending * 4 + num_at s at 6 / 16) is
unfolding items size nodes load enc after
down-on s at pending is (inp i) fs h w few e q big = absurd (omega (arith, six s at, h.0.1, num-lt s (at + 2) 4))
down-on s at pending is (neg c) fs h w few e q big =
    record {
      tree = c;
      frames = turning ∷ fs;
      lies = h.1;
      waits = subst (λ (x : ℕ). Waits s x fs) (sym (add_assoc at 2 (size c))) w;
      few = omega (arith, few);
      coded = omega (arith, e, six s at, h.0.1, num-lt s (at + 2) 4);
      comes = q ∙ append_assoc (items c) (Turn ∷ []) (after fs);
    }
down-on s at pending is (conj a b) fs h w few e q big =
    let place : at + (2 + size a + size b) ≡ at + 2 + size a + size b = omega arith in
    record {
      tree = a;
      frames = anding b ∷ fs;
      lies = h.1;
      waits = (h.2, subst (λ (x : ℕ). Waits s x fs) place w);
      few = omega (arith, few);
      coded = omega (arith, e, six s at, h.0.1, num-lt s (at + 2) 4);
      comes = q ∙ append_assoc (items a) (OpenAnd ∷ items b ++ (Close ∷ [])) (after fs) ∙ ap (λ (x : List Item). items a ++ (OpenAnd ∷ x)) (append_assoc (items b) (Close ∷ []) (after fs));
    }
down-on s at pending is (disj a b) fs h w few e q big =
    let place : at + (2 + size a + size b) ≡ at + 2 + size a + size b = omega arith in
    record {
      tree = a;
      frames = oring b ∷ fs;
      lies = h.1;
      waits = (h.2, subst (λ (x : ℕ). Waits s x fs) place w);
      few = omega (arith, few);
      coded = omega (arith, e, six s at, h.0.1, num-lt s (at + 2) 4);
      comes = q ∙ append_assoc (items a) (OpenOr ∷ items b ++ (Close ∷ [])) (after fs) ∙ ap (λ (x : List Item). items a ++ (OpenOr ∷ x)) (append_assoc (items b) (Close ∷ []) (after fs));
    }

pub down-next : {s : List ℕ} {at pending : ℕ} {is : List Item} {node : ℕ} → node ≡ num_at s at 6 → 16 ≤ node → Down s at pending is
    → Down s (at + 2) (pending * 4 + node / 16) is
down-next {s} {at} {pending} {is} {node} e big d =
    rw e (down-on s at pending is d.tree d.frames d.lies d.waits d.few d.coded d.comes (omega arith))

-- an input
input-loads : (s : List ℕ) (at pending : ℕ) (is : List Item) (t : Cond) (fs : List Frame) → Lies s at t → Waits s (at + size t) fs → nodes t + load fs ≤ 31
    → pending ≡ enc fs → is ≡ items t ++ after fs → (node : ℕ) → node ≡ num_at s at 6 → node < 16
    → Loads s is node (walk_at (at + 6) pending true)
unfolding items size nodes
input-loads s at pending is (inp i) fs h w few e q node n small =
    let v : node ≡ i = omega (arith, n, six s at, h.0.1, h.1.1) in
    (after fs, q ∙ ap (λ (x : ℕ). Load x ∷ after fs) (sym v), small, record { frames = fs; waits = w; few = omega (arith, few); coded = e; comes = refl })
input-loads s at pending is (neg c) fs h w few e q node n small = absurd (omega (arith, n, six s at, h.0.1))
input-loads s at pending is (conj a b) fs h w few e q node n small = absurd (omega (arith, n, six s at, h.0.1))
input-loads s at pending is (disj a b) fs h w few e q node n small = absurd (omega (arith, n, six s at, h.0.1))

pub down-loads : {s : List ℕ} {at pending : ℕ} {is : List Item} {node : ℕ} → node ≡ num_at s at 6 → node < 16 → Down s at pending is
    → Loads s is node (walk_at (at + 6) pending true)
down-loads {s} {at} {pending} {is} {node} e small d =
    input-loads s at pending is d.tree d.frames d.lies d.waits d.few d.coded d.comes node e small

-- an operand is finished: by what waits
module _ (s : List ℕ) (at pending : ℕ) (is : List Item) where
  done_on : (fs : List Frame) → pending ≡ enc fs → is ≡ after fs → pending ≡ 1 → Tells s is None
  unfolding enc after
  done_on [] e q one = rw q tt
  done_on (f ∷ fs) e q one = absurd (omega (arith, enc-some fs))

  and_on : (fs : List Frame) → Waits s at fs → load fs ≤ 31 → pending ≡ enc fs → is ≡ after fs → pending % 4 ≡ 2
      → Tells s is (Some (op.And, 0, walk_at at (pending - 2) false))
  unfolding enc after load
  and_on [] w few e q two = absurd (omega arith)
  and_on (turning ∷ fs) w few e q two = absurd (omega arith)
  and_on (anding b ∷ fs) w few e q two =
      rw q (refl, refl, omega arith, record { tree = b; frames = closing ∷ fs; lies = w.0; waits = w.1; few = omega (arith, few); coded = omega arith; comes = refl })
  and_on (oring b ∷ fs) w few e q two = absurd (omega arith)
  and_on (closing ∷ fs) w few e q two = absurd (omega arith)

  or_on : (fs : List Frame) → Waits s at fs → load fs ≤ 31 → pending ≡ enc fs → is ≡ after fs → pending % 4 ≡ 3
      → Tells s is (Some (op.Or, 0, walk_at at (pending - 3) false))
  unfolding enc after load
  or_on [] w few e q three = absurd (omega arith)
  or_on (turning ∷ fs) w few e q three = absurd (omega arith)
  or_on (anding b ∷ fs) w few e q three = absurd (omega arith)
  or_on (oring b ∷ fs) w few e q three =
      rw q (refl, refl, omega arith, record { tree = b; frames = closing ∷ fs; lies = w.0; waits = w.1; few = omega (arith, few); coded = omega arith; comes = refl })
  or_on (closing ∷ fs) w few e q three = absurd (omega arith)

  turn_on : (fs : List Frame) → Waits s at fs → load fs ≤ 31 → pending ≡ enc fs → is ≡ after fs → (pending ≡ 1 → ⊥) → pending % 4 ≡ 1
      → Tells s is (Some (op.Not, 0, walk_at at (pending / 4) true))
  unfolding enc after load
  turn_on [] w few e q some one = absurd (some e)
  turn_on (turning ∷ fs) w few e q some one =
      rw q (refl, refl, omega arith, record { frames = fs; waits = w; few = omega (arith, few); coded = omega arith; comes = refl })
  turn_on (anding b ∷ fs) w few e q some one = absurd (omega arith)
  turn_on (oring b ∷ fs) w few e q some one = absurd (omega arith)
  turn_on (closing ∷ fs) w few e q some one = absurd (omega arith)

  close-on : (fs : List Frame) → Waits s at fs → load fs ≤ 31 → pending ≡ enc fs → is ≡ after fs → pending % 4 ≡ 0
      → Tells s is (Some (op.Close, 0, walk_at at (pending / 4) true))
  unfolding enc after load
  close-on [] w few e q none = absurd (omega arith)
  close-on (turning ∷ fs) w few e q none = absurd (omega arith)
  close-on (anding b ∷ fs) w few e q none = absurd (omega arith)
  close-on (oring b ∷ fs) w few e q none = absurd (omega arith)
  close-on (closing ∷ fs) w few e q none =
      rw q (refl, refl, omega arith, record { frames = fs; waits = w; few = omega (arith, few); coded = omega arith; comes = refl })

  module _ (u : Up s at pending is) where
    pub up-some : 1 ≤ pending
    up-some = omega (arith, u.coded, enc-some u.frames)

    pub done-tells : pending ≡ 1 → Tells s is None
    done-tells = done_on u.frames u.coded u.comes

    pub and-tells : pending % 4 ≡ 2 → Tells s is (Some (op.And, 0, walk_at at (pending - 2) false))
    and-tells = and_on u.frames u.waits u.few u.coded u.comes

    pub or-tells : pending % 4 ≡ 3 → Tells s is (Some (op.Or, 0, walk_at at (pending - 3) false))
    or-tells = or_on u.frames u.waits u.few u.coded u.comes

    pub turn-tells : (pending ≡ 1 → ⊥) → pending % 4 ≡ 1 → Tells s is (Some (op.Not, 0, walk_at at (pending / 4) true))
    turn-tells = turn_on u.frames u.waits u.few u.coded u.comes

    pub close-tells : pending % 4 ≡ 0 → Tells s is (Some (op.Close, 0, walk_at at (pending / 4) true))
    close-tells = close-on u.frames u.waits u.few u.coded u.comes

-- where an operand has just been finished
pub as-up : {s : List ℕ} (w : Walk) {is : List Item} → w.up ≡ true → Walks s w is → Up s w.at w.pending is
as-up w e h = rw e at h

-- the walk of a whole condition
pub fits-walks : (s : List ℕ) (at : ℕ) (t : Cond) → Lodges s at t → Down s at 1 (items t)
unfolding enc after load
fits-walks s at t f =
    record {
      tree = t;
      frames = [];
      lies = f.lies;
      waits = f.near;
      few = omega (arith, f.few);
      coded = refl;
      comes = sym (append-nil (items t));
    }

-- the bits left fall down to an input; what waits falls behind an operand
pub left_down : (from waiting at pending : ℕ) → from ≤ at → at + 6 ≤ cond_end → pending < 2305843009213693952
    → left (at + 6) pending < left from waiting
unfolding left
left_down from waiting at pending l near room = omega arith

pub left_up : (at p q : ℕ) → q < p → left at q < left at p
unfolding left
left_up at p q l = omega arith

-- the walk of `start`
pub started : (s : List ℕ) (at : ℕ) (t : Cond) → Lodges s at t → {w : Walk} → w ≡ walk_at at 1 false → Walks s w (items t)
started s at t f {w} e = rw e (fits-walks s at t f)
