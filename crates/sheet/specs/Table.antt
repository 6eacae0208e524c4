-- The sheets worked by hand, P1 to P10: rows of one table, proved by computation.
use Rattle.std.specs.Prelude.{◌≡◌, refl, List, [], ◌∷◌, ◌++◌, ℕ}
use Rattle.answer.specs.Lowest.{any_below, first_below}
use Rattle.answer.specs.Number.{number_of, place_of}
use Rattle.bits.specs.Field.{field_at, num_at, bit_at}
use Rattle.bits.specs.Read.{upto}
use Rattle.bits.specs.Word.{get_bit, bits_of}
use Rattle.condition.specs.Cond.{is_on, is_off, is_gated}
use Rattle.condition.specs.Reading.{cond_at, operands_at, input_at}
use Rattle.reader.specs.Reading.{read_header, row_at, transition_at, ends_at, read_sheet}
use Rattle.sheet.specs.Judging.{clashes, lacks_home, judge, check_sheet}

-- "Let M be the nine bytes 08 00 08 20 00 00 00 00 80 (hex)": with its bytes 2, 3 and 8 to be changed
unfoldable pub sheet_m : ℕ → ℕ → ℕ → List ℕ
sheet_m b2 b3 b8 = 0x08 ∷ 0x00 ∷ b2 ∷ b3 ∷ 0x00 ∷ 0x00 ∷ 0x00 ∷ 0x00 ∷ b8 ∷ []

-- the sheet s is answered with this number at this place
abbrev pub Is : List ℕ → ℕ → ℕ → Type 0
Is s n place = (number_of (check_sheet s) ≡ n) × (place_of (check_sheet s) ≡ place)

pub record Table : Type 0 where
  pub p1 : Is [] 1 0
  pub p2 : Is (0x00 ∷ []) 2 0
  pub p3 : Is (sheet_m 0x08 0x20 0x80) 0 0
  pub p4 : Is (sheet_m 0x08 0x20 0x81) 6 71
  pub p5 : Is (sheet_m 0x08 0x20 0x80 ++ 0x00 ∷ []) 6 71
  pub p6 : Is (0x08 ∷ 0x00 ∷ 0x08 ∷ 0x20 ∷ 0x00 ∷ 0x00 ∷ 0x00 ∷ 0x00 ∷ []) 1 63
  pub p7 : Is (sheet_m 0x08 0x40 0x80) 3 22
  pub p8 : Is (sheet_m 0x08 0x00 0x80) 7 0
  pub p9 : Is (sheet_m 0x00 0x20 0x80) 13 0
  pub p10 : Is (sheet_m 0x08 0x20 0x82) 4 67

pub table : Table
unfolding check_sheet read_sheet read_header row_at upto transition_at ends_at judge clashes lacks_home any_below first_below sheet_m cond_at operands_at input_at field_at num_at bit_at get_bit bits_of is_on is_off is_gated
table =
    record {
      p1 = (refl, refl);
      p2 = (refl, refl);
      p3 = (refl, refl);
      p4 = (refl, refl);
      p5 = (refl, refl);
      p6 = (refl, refl);
      p7 = (refl, refl);
      p8 = (refl, refl);
      p9 = (refl, refl);
      p10 = (refl, refl);
    }
