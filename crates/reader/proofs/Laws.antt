-- Laws of reading a sheet: how far the cursor goes, and what the code's steps find. Assumes nothing.
use mathlib.Core.Path.{◌≡◌, refl, sym, ap, ◌∙◌}
use mathlib.Core.List.{List, []}
use mathlib.Core.Bool.{Bool, true, false, not}
use Prim.Native.Nat.{ℕ, zero, suc, ◌+◌, ◌*◌, ◌-◌, ◌/◌, ◌%◌, ◌^◌, ◌≤◌, ◌<◌}
use native.Mathlib.Numerals.{add-one}
use native.Mathlib.Omega.{arith}
use lib.ListN.{length, get_or}
use lib.Dec.{ltb, eqb}
use borrow.Author.Tests.{eq-eqb, ne_eqb}
use Rattle.std.specs.Prelude.{Ok, Err, Some, None}
use Rattle.std.specs.declared.result.Result.{Result}
use Rattle.answer.specs.declared.Refusal.{Refusal}
use Rattle.answer.specs.declared.Refusal.TheVariants as refuse
use Rattle.bits.specs.Field.{Got, field_at, num_at}
use Rattle.bits.specs.Word.{word_of, bits_of}
use Rattle.bits.specs.Read.{Ans, ok, no, bind, guard, read_field, upto}
use Rattle.bits.specs.inside.Told.{told}
use Rattle.bits.specs.declared.Cursor.{Cursor}
use Rattle.bits.proofs.FieldLaws.{field-here}
use Rattle.bits.proofs.WordLaws.{bit-no}
use Rattle.bits.proofs.ToldLaws.{told-got}
use Rattle.bits.proofs.ReadLaws.{bind-both, ok-next, ok-is, bind_ok, guard_ok, field-read, upto_next, upto-length}
use Rattle.condition.specs.Reading.{condition_at}
use Rattle.condition.specs.declared.Facts.{Facts}
use Rattle.condition.proofs.Laws.{cond-went}
use Rattle.reader.specs.Sheet.{Transition, Sheet, count, no_transition}
use Rattle.reader.specs.Reading.{read_header, row_at, transition_at, ends_at, read_sheet}
use Rattle.reader.specs.inside.Packing.{unpack, arrow_at}
use Rattle.reader.specs.inside.Decoding.{Names, pair_of, names_at, rest_at, ArrowIs, Holds, HoldsRows, HoldsArrows, Copy, Answers}
use Rattle.reader.specs.declared.Header.{Header}
use Rattle.reader.specs.declared.Decoded.{Decoded}

-- a test and what follows it may be taken apart
bind-guard : {A B : Type 0} (t : Bool) (r : Refusal) (x : Ans A) (f : A → ℕ → Ans B) → bind (guard t r x) f ≡ guard t r (bind x f)
bind-guard true r x f = refl
bind-guard false r x f = refl

bind-bind : {A B C : Type 0} (x : Ans A) (f : A → ℕ → Ans B) (g : B → ℕ → Ans C) → bind (bind x f) g ≡ bind x (λ a m. bind (f a m) g)
bind-bind (ok a m) f g = refl
bind-bind (no r) f g = refl

-- a transition is the states that it names, and the rest
pub transition-is : (s : List ℕ) (n k at : ℕ) → transition_at s n k at ≡ bind (names_at s n at) (λ x a. rest_at s k x.source x.destination a)
unfolding transition_at names_at rest_at
transition-is s n k at =
    sym
    (bind-bind (read_field s 5 at) _ _
    ∙ bind-both (read_field s 5 at) _ _ refl λ source a1 e1.
    bind-guard (ltb source n) (refuse.StateNo at) _ _
    ∙ ap (guard (ltb source n) (refuse.StateNo at))
    (bind-bind (read_field s 5 a1) _ _
    ∙ bind-both (read_field s 5 a1) _ _ refl λ destination a2 e2. bind-guard (ltb destination n) (refuse.StateNo a1) _ _))

-- how far they go
pub names-next : (s : List ℕ) (n at : ℕ) {x : Names} {next : ℕ} → names_at s n at ≡ ok x next → next ≡ at + 10
unfolding names_at
names-next s n at {x} {next} h =
    let x1 = bind_ok (read_field s 5 at) _ h in
    let g1 = guard_ok (ltb x1.0 n) (refuse.StateNo at) _ x1.3 in
    let x2 = bind_ok (read_field s 5 x1.1) _ g1.1 in
    let g2 = guard_ok (ltb x2.0 n) (refuse.StateNo x1.1) _ x2.3 in
    omega (arith, (field-read s 5 at x1.2).after, (field-read s 5 x1.1 x2.2).after, ok-next g2.1)

-- they are five bits each
pub names-few : (s : List ℕ) (n at : ℕ) {x : Names} {next : ℕ} → names_at s n at ≡ ok x next → (x.source < 32) × (x.destination < 32)
unfolding names_at
names-few s n at {x} {next} h =
    let x1 = bind_ok (read_field s 5 at) _ h in
    let g1 = guard_ok (ltb x1.0 n) (refuse.StateNo at) _ x1.3 in
    let x2 = bind_ok (read_field s 5 x1.1) _ g1.1 in
    let g2 = guard_ok (ltb x2.0 n) (refuse.StateNo x1.1) _ x2.3 in
    let e1 : x1.0 ≡ x.source = ap (λ (y : Names). y.source) (ok-is g2.1) in
    let e2 : x2.0 ≡ x.destination = ap (λ (y : Names). y.destination) (ok-is g2.1) in
    (omega (arith, (field-read s 5 at x1.2).below), omega (arith, (field-read s 5 x1.1 x2.2).below))

pub rest-next : (s : List ℕ) (k source destination at : ℕ) {t : Transition} {next : ℕ} → rest_at s k source destination at ≡ ok t next
    → next ≤ at + 217
unfolding rest_at
rest-next s k source destination at {t} {next} h =
    let x1 = bind_ok (read_field s 7 at) _ h in
    let x2 = bind_ok (read_field s 24 x1.1) _ x1.3 in
    let x3 = bind_ok (condition_at s k x2.1) _ x2.3 in
    let w = cond-went 8 s k 0 x2.1 x3.0 x3.1 x3.2 in
    omega (arith, (field-read s 7 at x1.2).after, (field-read s 24 x1.1 x2.2).after, ok-next x3.3, w.pace, w.few)

-- a transition is at most 227 bits long
pub transition-next : (s : List ℕ) (n k at : ℕ) {t : Transition} {next : ℕ} → transition_at s n k at ≡ ok t next → next ≤ at + 227
transition-next s n k at {t} {next} h =
    let x = bind_ok (names_at s n at) _ (sym (transition-is s n k at) ∙ h) in
    omega (arith, names-next s n at x.2, rest-next s k x.0.source x.0.destination x.1 x.3)

pub row_next : (s : List ℕ) (l at : ℕ) {row : List Bool} {next : ℕ} → row_at s l at ≡ ok row next → next ≡ at + l
unfolding row_at
row_next s l at {row} {next} h =
    let x = bind_ok (read_field s l at) _ h in
    omega (arith, (field-read s l at x.2).after, ok-next x.3)

-- the code's answers name what was read, or the refusal
cursor-is : {a : ℕ} {c : Cursor} → record { at = a } ≡ c → a ≡ c.at
cursor-is h = ap (λ (x : Cursor). x.at) h

done-is : {A : Type 0} {a b : A} → ◌≡◌ {A = Result A Refusal} (Ok a) (Ok b) → a ≡ b
done-is h = cc

bad-is : {A : Type 0} {a b : Refusal} → ◌≡◌ {A = Result A Refusal} (Err a) (Err b) → a ≡ b
bad-is h = cc

done-bad : {A B : Type 0} {a : A} {b : Refusal} → ◌≡◌ {A = Result A Refusal} (Ok a) (Err b) → B
done-bad h = let z : ◌≡◌ {A = ℕ} 0 1 = cc in absurd (omega arith)

pub header-got : (x : Ans Header) (h : Header) (c : Cursor) → told (λ y. y) x ≡ Ok (h, c) → x ≡ ok h c.at
header-got x h c e = let y = told-got (λ (z : Header). z) x h c e in y.1 ∙ ap (λ (z : Header). ok z c.at) (sym y.2)

pub names-got : (x : Ans Names) (a b : ℕ) (c : Cursor) → told pair_of x ≡ Ok ((a, b), c) → x ≡ ok (record { source = a; destination = b }) c.at
names-got x a b c h =
    let y = told-got pair_of x (a, b) c h in
    y.1 ∙ ap (λ (p : ℕ × ℕ). ok (record { source = p.0; destination = p.1 }) c.at) (sym y.2)

module _ (s : List ℕ) (k : ℕ) where
  pub arrow-got : (x : Ans Transition) (word : ℕ) (f : Facts) (c : Cursor) → ArrowIs s k x (Ok (f, c)) word
      → (t : Transition) × (x ≡ ok t c.at) × Holds s k (unpack word) t
  arrow-got (ok t next) word f c h = (t, ap (λ (m : ℕ). ok t m) (cursor-is (ap (λ (y : Facts × Cursor). y.1) (done-is (sym h.1)))), h.2)
  arrow-got (no why) word f c h = done-bad h

  pub arrow-bad : (x : Ans Transition) (word : ℕ) (q : Refusal) → ArrowIs s k x (Err q) word → x ≡ no q
  arrow-bad (ok t next) word q h = done-bad (sym h.1)
  arrow-bad (no p) word q h = ap no (bad-is (sym h))

  pub arrows-done : (x : Ans (List Transition)) (arrows : List ℕ) (c : Cursor) → HoldsArrows s k x (Ok c) arrows
      → (ts : List Transition) × (x ≡ ok ts c.at) × ((i : ℕ) → i < length arrows → Holds s k (arrow_at arrows i) (get_or ts i no_transition))
  arrows-done (ok ts next) arrows c h = (ts, ap (λ (n : ℕ). ok ts n) (cursor-is (done-is (sym h.0))), h.1)
  arrows-done (no why) arrows c h = done-bad h

  pub arrows-bad : (x : Ans (List Transition)) (arrows : List ℕ) (q : Refusal) → HoldsArrows s k x (Err q) arrows → x ≡ no q
  arrows-bad (ok ts next) arrows q h = done-bad (sym h.0)
  arrows-bad (no why) arrows q h = ap no (bad-is (sym h))

-- rows that were read, or refused
pub rows-done : (x : Ans (List (List Bool))) (rows : List ℕ) (c : Cursor) → HoldsRows x (Ok c) rows
    → (xs : List (List Bool)) × (x ≡ ok xs c.at) × ((i : ℕ) → i < length rows → get_or rows i 0 ≡ word_of (get_or xs i []))
rows-done (ok xs next) rows c h = (xs, ap (λ (m : ℕ). ok xs m) (cursor-is (done-is (sym h.0))), h.1)
rows-done (no why) rows c h = done-bad h

pub rows-bad : (x : Ans (List (List Bool))) (rows : List ℕ) (q : Refusal) → HoldsRows x (Err q) rows → x ≡ no q
rows-bad (ok xs next) rows q h = done-bad (sym h.0)
rows-bad (no why) rows q h = ap no (bad-is (sym h))

-- a row's word, one output more
pub word_more : (v w : ℕ) → word_of (bits_of w v) * 2 + v / 2 ^ w % 2 ≡ word_of (bits_of (w + 1) v)
unfolding word_of bits_of
word_more v w = rw (add-one, bit-no v w) (omega arith)

-- nothing but zero bits follows
module _ (s : List ℕ) (at : ℕ) where
  pub ends-other : (length s ≡ (at + 7) / 8 → ⊥) → ends_at s at ≡ false
  unfolding ends_at
  ends-other h = rw (ne_eqb _ _ h)

  pub ends-spare : length s ≡ (at + 7) / 8 → ends_at s at ≡ eqb (num_at s at ((at + 7) / 8 * 8 - at)) 0
  unfolding ends_at
  ends-spare h = rw (eq-eqb _ _ h)

pub not_short : (s : List ℕ) (at w : ℕ) → at + w ≤ length s * 8 → field_at s at w ≡ None → ⊥
not_short s at w h e =
    let f : ◌≡◌ {A = Got} (Some (num_at s at w, record { at = at + w })) None = sym (field-here s at w h) ∙ e in
    let z : ◌≡◌ {A = ℕ} 0 1 = cc in
    omega arith

-- what a header that is read says
pub record Headed (h : Header) (a : ℕ) : Type 0 where
  pub after : a ≡ 20
  pub states : (2 ≤ h.states) × (h.states ≤ 32)
  pub inputs : (1 ≤ h.inputs) × (h.inputs ≤ 16)
  pub outputs : (1 ≤ h.outputs) × (h.outputs ≤ 16)
  pub transitions : (1 ≤ h.transitions) × (h.transitions ≤ 128)

some : (n : ℕ) → not (eqb n 0) ≡ true → 1 ≤ n
some zero e = let z : ◌≡◌ {A = ℕ} 0 1 = cc in absurd (omega arith)
some (suc n) e = omega arith

pub header-fits : (s : List ℕ) {h : Header} {a : ℕ} → read_header s ≡ ok h a → Headed h a
unfolding read_header
header-fits s {h} {a} e =
    let x1 = bind_ok (read_field s 5 0) _ e in
    let g1 = guard_ok (not (eqb x1.0 0)) refuse.OneState _ x1.3 in
    let x2 = bind_ok (read_field s 4 x1.1) _ g1.1 in
    let x3 = bind_ok (read_field s 4 x2.1) _ x2.3 in
    let x4 = bind_ok (read_field s 7 x3.1) _ x3.3 in
    let f1 = field-read s 5 0 x1.2 in
    let f2 = field-read s 4 x1.1 x2.2 in
    let f3 = field-read s 4 x2.1 x3.2 in
    let f4 = field-read s 7 x3.1 x4.2 in
    let q = ok-next x4.3 in
    let hd = ok-is x4.3 in
    let p1 : x1.0 + 1 ≡ h.states = ap (λ (x : Header). x.states) hd in
    let p2 : x2.0 + 1 ≡ h.inputs = ap (λ (x : Header). x.inputs) hd in
    let p3 : x3.0 + 1 ≡ h.outputs = ap (λ (x : Header). x.outputs) hd in
    let p4 : x4.0 + 1 ≡ h.transitions = ap (λ (x : Header). x.transitions) hd in
    let one : 1 ≤ x1.0 = some x1.0 g1.0 in
    omega arith

-- where the rows and the transitions end
pub rows_next : (s : List ℕ) (l at n : ℕ) {xs : List (List Bool)} {b : ℕ} → l ≤ 16 → n ≤ 32 → upto (row_at s l) at n ≡ ok xs b → b ≤ at + 512
rows_next s l at n h k e = omega (arith, upto_next (row_at s l) 16 (λ a x b e. omega (arith, row_next s l a e)) at n e)

pub transitions-next : (s : List ℕ) (n k at m : ℕ) {ts : List Transition} {b : ℕ} → m ≤ 128 → upto (transition_at s n k) at m ≡ ok ts b → b ≤ at + 29056
transitions-next s n k at m h e = omega (arith, upto_next (transition_at s n k) 227 (λ a t b e. transition-next s n k a e) at m e)

-- a sheet that was read, or refused
pub answers-done : (s : List ℕ) (x : Ans Sheet) (d : Decoded) (c : Cursor) → Answers s x (Ok c) d → (a : Sheet) × (x ≡ ok a c.at) × Copy s d a
answers-done s (ok a end) d c h = (a, ap (λ (m : ℕ). ok a m) (cursor-is (done-is (sym h.0))), h.1)
answers-done s (no why) d c h = done-bad h

pub answers-bad : (s : List ℕ) (x : Ans Sheet) (d : Decoded) (q : Refusal) → Answers s x (Err q) d → x ≡ no q
answers-bad s (ok a end) d q h = done-bad (sym h.0)
answers-bad s (no why) d q h = ap no (bad-is (sym h))

-- a sheet that was read has at most 32 states and 128 transitions
pub read-sizes : (s : List ℕ) (a : Sheet) (end : ℕ) → read_sheet s ≡ ok a end → (a.states ≤ 32) × (count a ≤ 128)
unfolding read_sheet
read-sizes s a end e =
    let x1 = bind_ok (read_header s) _ e in
    let h = header-fits s x1.2 in
    let x2 = bind_ok (upto (row_at s x1.0.outputs) x1.1 x1.0.states) _ x1.3 in
    let x3 = bind_ok (upto (transition_at s x1.0.states x1.0.inputs) x2.1 x1.0.transitions) _ x2.3 in
    let g = guard_ok (ends_at s x3.1) (refuse.Tail x3.1) _ x3.3 in
    let m = upto-length (transition_at s x1.0.states x1.0.inputs) x2.1 x1.0.transitions x3.2 in
    let p : x1.0.states ≡ a.states = ap (λ (x : Sheet). x.states) (ok-is g.1) in
    let q : length x3.0 ≡ count a = ap count (ok-is g.1) in
    (omega (arith, h.states.1), omega (arith, h.transitions.1))
