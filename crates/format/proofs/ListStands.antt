-- Things read one behind the other, and their bits one behind the other. Assumes nothing.
use mathlib.Core.Path.{◌≡◌, refl, sym, ap, ap₂, ◌∙◌, subst, subst₂}
use mathlib.Core.List.{List, [], ◌∷◌, ◌++◌, append_assoc, append-nil}
use mathlib.Core.Bool.{Bool}
use Prim.Native.Nat.{ℕ, zero, suc, ◌+◌, ◌*◌, ◌≤◌, ◌<◌}
use native.Mathlib.Omega.{arith}
use lib.ListN.{length, get_or, take, drop, length-append}
use lib.Seq.{split_at, take-suc, take-length}
use Rattle.bits.specs.Read.{Ans, ok, upto}
use Rattle.bits.proofs.ReadLaws.{ok-is, ok-next, bind_ok}
use Rattle.format.proofs.Stands.{Stands, stands-join, stands-split}

-- the bits of a list's elements
abbrev pub join_all : {A : Type 0} → (A → List Bool) → List A → List Bool
join_all bits [] = []
join_all bits (x ∷ xs) = bits x ++ join_all bits xs

module _ {A : Type 0} (bits : A → List Bool) where
  join-append : (xs ys : List A) → join_all bits (xs ++ ys) ≡ join_all bits xs ++ join_all bits ys
  join-append [] ys = refl
  join-append (x ∷ xs) ys = rw (join-append xs ys) (sym (append_assoc (bits x) (join_all bits xs) (join_all bits ys)))

  join-snoc : (xs : List A) (x : A) → join_all bits (xs ++ x ∷ []) ≡ join_all bits xs ++ bits x
  join-snoc xs x = join-append xs (x ∷ []) ∙ rw (append-nil (bits x))

  -- element i and those before and behind it
  join-at : (xs : List A) (i : ℕ) (e : A) → i < length xs
      → join_all bits xs ≡ join_all bits (take i xs) ++ (bits (get_or xs i e) ++ join_all bits (drop (suc i) xs))
  join-at xs i e l = ap (join_all bits) (split_at xs i e l) ∙ join-append (take i xs) (get_or xs i e ∷ drop (suc i) xs)

  join-length : (xs : List A) (i : ℕ) (e : A) → i < length xs
      → length (join_all bits (take (suc i) xs)) ≡ length (join_all bits (take i xs)) + length (bits (get_or xs i e))
  join-length xs i e l =
      ap (λ (ys : List A). length (join_all bits ys)) (take-suc xs i e l)
      ∙ ap length (join-snoc (take i xs) (get_or xs i e))
      ∙ length-append (join_all bits (take i xs)) (bits (get_or xs i e))

each_snoc : {A : Type 0} (Q : A → Type 0) (d : A) (xs : List A) (x : A) → ((j : ℕ) → j < length xs → Q (get_or xs j d)) → Q x
    → (j : ℕ) → j < length (xs ++ x ∷ []) → Q (get_or (xs ++ x ∷ []) j d)
each_snoc Q d [] x h q zero l = q
each_snoc Q d [] x h q (suc j) l = absurd (omega arith)
each_snoc Q d (y ∷ ys) x h q zero l = h 0 (omega arith)
each_snoc Q d (y ∷ ys) x h q (suc j) l = each_snoc Q d ys x (λ i m. h (suc i) (omega arith)) q j (omega arith)

-- what one thing that was read says
pub record Said {A : Type 0} (s : List ℕ) (bits : A → List Bool) (Q : A → Type 0) (at : ℕ) (x : A) (next : ℕ) : Type 0 where
  pub stands : Stands s at (bits x)
  pub after : next ≡ at + length (bits x)
  pub keeps : Q x

-- and what a list of them says
pub record AllSaid {A : Type 0} (s : List ℕ) (bits : A → List Bool) (Q : A → Type 0) (d : A) (at : ℕ) (xs : List A) (next : ℕ) : Type 0 where
  pub stands : Stands s at (join_all bits xs)
  pub after : next ≡ at + length (join_all bits xs)
  pub keeps : (j : ℕ) → j < length xs → Q (get_or xs j d)

module _ {A : Type 0} (s : List ℕ) (read : ℕ → Ans A) (bits : A → List Bool) (Q : A → Type 0) (d : A) (at : ℕ) where
  snoc-said : (xs : List A) (mid : ℕ) (x : A) (next : ℕ) → AllSaid s bits Q d at xs mid → Said s bits Q mid x next → AllSaid s bits Q d at (xs ++ x ∷ []) next
  snoc-said xs mid x next p q =
      let there : Stands s (at + length (join_all bits xs)) (bits x) = subst (λ (m : ℕ). Stands s m (bits x)) p.after q.stands in
      record {
        stands = rw (join-snoc bits xs x) (stands-join s at (join_all bits xs) (bits x) p.stands there);
        after = rw (join-snoc bits xs x) (omega (arith, p.after, q.after, length-append (join_all bits xs) (bits x)));
        keeps = each_snoc Q d xs x p.keeps q.keeps;
      }

  pub upto-said : ((a : ℕ) (x : A) (b : ℕ) → read a ≡ ok x b → Said s bits Q a x b) → at ≤ length s * 8
      → (i : ℕ) (xs : List A) (next : ℕ) → upto read at i ≡ ok xs next → AllSaid s bits Q d at xs next
  unfolding upto
  upto-said step in-it zero xs next h =
      subst₂ (AllSaid s bits Q d at) (ok-is h) (ok-next h)
      (record { stands = in-it; after = omega arith; keeps = λ j l. absurd (omega arith) })
  upto-said step in-it (suc i) xs next h =
      let x1 = bind_ok (upto read at i) _ h in
      let x2 = bind_ok (read x1.1) _ x1.3 in
      let snoc = snoc-said x1.0 x1.1 x2.0 x2.1 (upto-said step in-it i x1.0 x1.1 x1.2) (step x1.1 x2.0 x2.1 x2.2) in
      subst₂ (AllSaid s bits Q d at) (ok-is x2.3) (ok-next x2.3) snoc

  module _ (step : (a : ℕ) (x : A) → Q x → Stands s a (bits x) → read a ≡ ok x (a + length (bits x)))
      (xs : List A) (keeps : (j : ℕ) → j < length xs → Q (get_or xs j d)) (stands : Stands s at (join_all bits xs)) where
    -- element i stands behind those before it
    one-stands : (i : ℕ) → i < length xs → Stands s (at + length (join_all bits (take i xs))) (bits (get_or xs i d))
    one-stands i l =
        let before = join_all bits (take i xs) in
        let behind = join_all bits (drop (suc i) xs) in
        let w = stands-split s at before (bits (get_or xs i d) ++ behind) (subst (Stands s at) (join-at bits xs i d l) stands) in
        (stands-split s (at + length before) (bits (get_or xs i d)) behind w.1).0

    take-reads : (i : ℕ) → i ≤ length xs → upto read at i ≡ ok (take i xs) (at + length (join_all bits (take i xs)))
    unfolding upto
    take-reads zero l = let e : at ≡ at + 0 = omega arith in ap (λ (m : ℕ). ok [] m) e
    take-reads (suc i) l =
        rw (take-reads i (omega arith), step (at + length (join_all bits (take i xs))) (get_or xs i d) (keeps i l) (one-stands i l))
        (ap₂ ok (sym (take-suc xs i d l)) (omega (arith, join-length bits xs i d l)))

    pub upto-reads : upto read at (length xs) ≡ ok xs (at + length (join_all bits xs))
    upto-reads = subst (λ (ys : List A). upto read at (length xs) ≡ ok ys (at + length (join_all bits ys))) (take-length xs) (take-reads (length xs) (omega arith))
