-- Laws of reading: what an answer that was read says of its parts. Assumes nothing.
use mathlib.Core.Path.{◌≡◌, refl, sym, ap, ◌∙◌}
use mathlib.Core.Logic.{⊎_elim}
use mathlib.Core.List.{List, [], ◌∷◌, ◌++◌}
use mathlib.Core.Bool.{Bool, true, false}
use Prim.Native.Nat.{ℕ, zero, suc, ◌+◌, ◌*◌, ◌≤◌, ◌<◌}
use native.Mathlib.Omega.{arith}
use native.Mathlib.Nat.{eq-or-lt_of_le, le_of_suc-le-suc, mul-suc}
use native.Mathlib.Numerals.{add-one}
use lib.ListN.{length, length-append}
use Rattle.answer.specs.declared.Refusal.{Refusal}
use Rattle.answer.specs.declared.Refusal.TheVariants as refuse
use Rattle.bits.specs.Field.{Got, field_at, num_at}
use Rattle.bits.specs.Read.{Ans, ok, no, bind, guard, or_short, read_field, upto}
use Rattle.bits.specs.declared.Cursor.{Cursor}
use Rattle.std.specs.Prelude.{Some, None}
use Rattle.bits.proofs.FieldLaws.{Here, field-got, field-here, field-short}

pub ok-next : {A : Type 0} {a b : A} {m n : ℕ} → ok a m ≡ ok b n → m ≡ n
ok-next h = cc

pub ok-is : {A : Type 0} {a b : A} {m n : ℕ} → ok a m ≡ ok b n → a ≡ b
ok-is h = cc

pub ok-no : {A B : Type 0} {a : A} {m : ℕ} {r : Refusal} → ok a m ≡ no r → B
ok-no h = let z : ◌≡◌ {A = ℕ} 0 1 = cc in absurd (omega arith)

pub no-is : {A : Type 0} {q r : Refusal} → ◌≡◌ {A = Ans A} (no q) (no r) → q ≡ r
no-is h = cc

pub bind_ok : {A B : Type 0} (x : Ans A) (f : A → ℕ → Ans B) {b : B} {next : ℕ} → bind x f ≡ ok b next
    → (a : A) × (m : ℕ) × (x ≡ ok a m) × (f a m ≡ ok b next)
bind_ok (ok a m) f h = (a, m, refl, h)
bind_ok (no r) f h = ok-no (sym h)

pub guard_ok : {A : Type 0} (t : Bool) (r : Refusal) (x : Ans A) {b : A} {next : ℕ} → guard t r x ≡ ok b next → (t ≡ true) × (x ≡ ok b next)
guard_ok true r x h = (refl, h)
guard_ok false r x h = ok-no (sym h)

-- a field that was read
short_ok : (at : ℕ) (g : Got) {v next : ℕ} → or_short at g ≡ ok v next → (c : Cursor) × (g ≡ Some (v, c)) × (c.at ≡ next)
short_ok at (Some g) {v} {next} h =
    let p : g.0 ≡ v = cc in
    let q : g.1.at ≡ next = cc in
    (g.1, ap (λ (x : ℕ). Some (x, g.1)) p, q)
short_ok at None h = ok-no (sym h)

pub field-read : (s : List ℕ) (w at : ℕ) {v next : ℕ} → read_field s w at ≡ ok v next → Here s at w v next
field-read s w at {v} {next} h =
    let g = short_ok at (field_at s at w) h in
    let f = field-got s at w v g.0 g.1 in
    record { after = sym g.2 ∙ f.after; inside = omega (arith, f.inside, g.2); value = f.value; below = f.below }

pub read_here : (s : List ℕ) (w at : ℕ) → at + w ≤ length s * 8 → read_field s w at ≡ ok (num_at s at w) (at + w)
read_here s w at h = ap (or_short at) (field-here s at w h)

pub read_short : (s : List ℕ) (w at : ℕ) → length s * 8 < at + w → read_field s w at ≡ no (refuse.Short at)
read_short s w at h = ap (or_short at) (field-short s at w h)

-- one thing more
pub upto-more : {A : Type 0} (read : ℕ → Ans A) (at i : ℕ) {xs : List A} {a : ℕ} {x : A} {b : ℕ}
    → upto read at i ≡ ok xs a → read a ≡ ok x b → upto read at (i + 1) ≡ ok (xs ++ x ∷ []) b
unfolding upto
upto-more read at i h e = rw (add-one, h, e)

-- a refusal stays
pub upto-bad : {A : Type 0} (read : ℕ → Ans A) (at i m : ℕ) {xs : List A} {a : ℕ} {r : Refusal}
    → i < m → upto read at i ≡ ok xs a → read a ≡ no r → upto read at m ≡ no r
unfolding upto
upto-bad read at i zero l h e = absurd (omega arith)
upto-bad read at i (suc m) l h e =
    ⊎_elim (λ (q : i ≡ m). rw (← q, h, e)) (λ (q : i < m). rw (upto-bad read at i m q h e)) (eq-or-lt_of_le (le_of_suc-le-suc l))

-- things of at most w bits each
pub upto_next : {A : Type 0} (read : ℕ → Ans A) (w : ℕ) (step : (a : ℕ) (x : A) (b : ℕ) → read a ≡ ok x b → b ≤ a + w) (at i : ℕ) {xs : List A} {b : ℕ}
    → upto read at i ≡ ok xs b → b ≤ at + w * i
unfolding upto
upto_next read w step at zero {xs} {b} h = omega (arith, ok-next h)
upto_next read w step at (suc i) {xs} {b} h =
    let x1 = bind_ok (upto read at i) _ h in
    let x2 = bind_ok (read x1.1) _ x1.3 in
    omega (arith, upto_next read w step at i x1.2, step x1.1 x2.0 x2.1 x2.2, ok-next x2.3, mul-suc w i)

-- as many as were asked for
pub upto-length : {A : Type 0} (read : ℕ → Ans A) (at i : ℕ) {xs : List A} {b : ℕ} → upto read at i ≡ ok xs b → length xs ≡ i
unfolding upto
upto-length read at zero {xs} {b} h = ap length (sym (ok-is h))
upto-length read at (suc i) {xs} {b} h =
    let x1 = bind_ok (upto read at i) _ h in
    let x2 = bind_ok (read x1.1) _ x1.3 in
    sym (ap length (ok-is x2.3))
    ∙ length-append x1.0 (x2.0 ∷ [])
    ∙ omega (arith, upto-length read at i x1.2)

-- two readings that agree step by step
pub bind-both : {A B : Type 0} (x : Ans A) {y : Ans A} (f g : A → ℕ → Ans B) → y ≡ x → ((a : A) (next : ℕ) → x ≡ ok a next → g a next ≡ f a next)
    → bind y g ≡ bind x f
bind-both (ok a next) f g e h = rw e (h a next refl)
bind-both (no r) f g e h = rw e refl

pub upto-both : {A : Type 0} (read other : ℕ → Ans A) (w : ℕ) (step : (a : ℕ) (x : A) (b : ℕ) → read a ≡ ok x b → b ≤ a + w) (at i : ℕ)
    → ((a : ℕ) → a ≤ at + w * i → other a ≡ read a) → upto other at i ≡ upto read at i
unfolding upto
upto-both read other w step at zero h = refl
upto-both read other w step at (suc i) h =
    bind-both (upto read at i) _ _ (upto-both read other w step at i (λ a l. h a (omega (arith, mul-suc w i)))) λ xs a e.
    bind-both (read a) _ _ (h a (omega (arith, mul-suc w i, upto_next read w step at i e))) λ x b q. refl
