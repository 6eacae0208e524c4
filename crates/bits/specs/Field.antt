-- "Bit-packed, most significant bit first, bit 0 being the top bit of byte 0."
use Rattle.std.specs.Prelude.{ℕ, zero, suc, ◌+◌, ◌*◌, ◌-◌, ◌/◌, ◌%◌, ◌^◌, List, Bool, true, false, length, get_or, leb, Some, None}
use Rattle.std.specs.declared.option.Option.{Option}
use Rattle.bits.specs.declared.Cursor.{Cursor}

-- Below this bit a field may begin: far behind the end of any sheet, and no sum of positions wraps.
abbrev pub reach : ℕ
reach = 1000000

-- bit i of the bytes s
unfoldable pub bit_at : List ℕ → ℕ → ℕ
bit_at s i = get_or s (i / 8) 0 / 2 ^ (7 - i % 8) % 2

-- the number that the w bits from `at` on are
unfoldable pub num_at : List ℕ → ℕ → ℕ → ℕ
num_at s at zero = 0
num_at s at (suc w) = num_at s at w * 2 + bit_at s (at + w)

-- what a field's reading answers: the number, with the bit after it
abbrev pub Got : Type 0
Got = Option (ℕ × Cursor)

abbrev pub pick_got : Bool → Got → Got → Got
pick_got true a b = a
pick_got false a b = b

-- the field of w bits from `at` on with the bit after it, or none where it is not wholly there
unfoldable pub field_at : List ℕ → ℕ → ℕ → Got
field_at s at w = pick_got (leb (at + w) (length s * 8)) (Some (num_at s at w, record { at = at + w })) None
