-- Laws of the rest of a transition: what its steps find, and the arrow that keeps it. Assumes nothing.
use mathlib.Core.Path.{◌≡◌, refl, ap, ◌∙◌}
use mathlib.Core.List.{List}
use Prim.Native.Nat.{ℕ, ◌+◌, ◌<◌}
use native.Mathlib.Omega.{arith}
use Rattle.std.specs.Prelude.{Ok, Err, Some, None}
use Rattle.answer.specs.declared.Refusal.{Refusal}
use Rattle.answer.specs.declared.Refusal.TheVariants as refuse
use Rattle.bits.specs.Field.{field_at}
use Rattle.bits.specs.Read.{no}
use Rattle.bits.specs.declared.Cursor.{Cursor}
use Rattle.bits.specs.inside.Told.{told}
use Rattle.bits.proofs.FieldLaws.{field-got}
use Rattle.bits.proofs.ToldLaws.{told-got, told-bad}
use Rattle.condition.specs.Reading.{condition_at}
use Rattle.condition.specs.inside.Facts.{facts_of}
use Rattle.condition.specs.declared.Facts.{Facts}
use Rattle.condition.proofs.Laws.{facts-told}
use Rattle.reader.specs.inside.Decoding.{rest_at, ArrowIs}
use Rattle.reader.specs.inside.Packing.{pack, unpack, Digits, arrow_reach}
use Rattle.reader.specs.declared.Arrow.{Arrow}
use Rattle.reader.proofs.PackLaws.{unpack-pack}

module _ (s : List ℕ) (k source destination at : ℕ) where
  pub rest-none : field_at s at 7 ≡ None → rest_at s k source destination at ≡ no (refuse.Short at)
  unfolding rest_at
  rest-none e = rw e

  module _ (priority : ℕ) (c1 : Cursor) (e1 : field_at s at 7 ≡ Some (priority, c1)) where
    pub rest-short : field_at s c1.at 24 ≡ None → rest_at s k source destination at ≡ no (refuse.Short c1.at)
    unfolding rest_at
    rest-short e = rw (e1, e)

    module _ (wait : ℕ) (c2 : Cursor) (e2 : field_at s c1.at 24 ≡ Some (wait, c2)) where
      pub rest-bad : (q : Refusal) → told (facts_of 0) (condition_at s k c2.at) ≡ Err q → rest_at s k source destination at ≡ no q
      unfolding rest_at
      rest-bad q e = rw (e1, e2, told-bad (facts_of 0) (condition_at s k c2.at) q e)

      pub cond-start : c2.at ≡ at + 31
      cond-start =
          let p = (field-got s at 7 priority c1 e1).after in
          omega (arith, (field-got s c1.at 24 wait c2 e2).after)

      module _ (next : Cursor) (f : Facts) (e : told (facts_of 0) (condition_at s k c2.at) ≡ Ok (f, next)) where
        -- the arrow that the code makes
        abbrev arrow : Arrow
        arrow = record { source = source; destination = destination; priority = priority; form = f.form; words = f.words; wait = wait; cond = c2.at }

        pub arrow-fits : at < arrow_reach + 10 → source < 32 → destination < 32 → Digits arrow
        arrow-fits near l m =
            record {
              source = l;
              destination = m;
              priority = (field-got s at 7 priority c1 e1).below;
              words = omega (arith, (facts-told 0 8 s k 0 c2.at next f e).words);
              wait = (field-got s c1.at 24 wait c2 e2).below;
              cond = omega (arith, cond-start);
            }

        -- and the number keeps it
        pub rest-arrow : at < arrow_reach + 10 → source < 32 → destination < 32 → (word : ℕ) → word ≡ pack arrow
            → ArrowIs s k (rest_at s k source destination at) (Ok (f, next)) word
        unfolding rest_at
        rest-arrow near l m word w =
            let x = told-got (facts_of 0) (condition_at s k c2.at) f next e in
            let back : unpack word ≡ arrow = ap unpack w ∙ unpack-pack arrow (arrow-fits near l m) in
            rw (e1, e2, x.1) (
              f,
              refl,
              rw back (record {
                source = refl;
                destination = refl;
                priority = refl;
                wait = refl;
                form = ap (λ (y : Facts). y.form) x.2;
                words = ap (λ (y : Facts). y.words) x.2;
                near = omega (arith, cond-start);
                nodes = x.0.count;
                next = next.at;
                there = x.1;
              }),
            )
