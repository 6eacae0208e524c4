-- An arrow in one number, as the lent array keeps it: not needed to read the promises.
use Rattle.std.specs.Prelude.{ℕ, zero, suc, ◌+◌, ◌*◌, ◌/◌, ◌%◌, ◌<◌, List, get_or}
use Rattle.condition.specs.declared.Form.{Form}
use Rattle.condition.specs.declared.Form.TheVariants.{Other, On, Off, Gated}
use Rattle.reader.specs.declared.Arrow.{Arrow}

-- a form as a digit
abbrev pub form_no : Form → ℕ
form_no Other = 0
form_no On = 1
form_no Off = 2
form_no Gated = 3

-- and back
abbrev pub form_at : ℕ → Form
form_at zero = Other
form_at (suc zero) = On
form_at (suc (suc zero)) = Off
form_at (suc (suc (suc n))) = Gated

-- Each field is a digit of its own; source and priority are the highest two, so that they order the numbers.
-- 5, 7, 5, 2, 6, 15 and 24 bits are 64: the number has no bit left, and a further field needs another array.
unfoldable pub pack : Arrow → ℕ
pack t =
    let key = t.source * 128 + t.priority in
    let form = (key * 32 + t.destination) * 4 + form_no t.form in
    let cond = (form * 64 + t.words) * 32768 + t.cond in
    cond * 16777216 + t.wait

unfoldable pub unpack : ℕ → Arrow
unpack w =
    let cond = w / 16777216 in
    let form = cond / 32768 / 64 in
    let key = form / 4 / 32 in
    record {
      source = key / 128 % 32;
      destination = form / 4 % 32;
      priority = key % 128;
      form = form_at (form % 4);
      words = cond / 32768 % 64;
      wait = w % 16777216;
      cond = cond % 32768;
    }

-- each field is below its digit's base
pub record Digits (t : Arrow) : Type 0 where
  pub source : t.source < 32
  pub destination : t.destination < 32
  pub priority : t.priority < 128
  pub words : t.words < 64
  pub wait : t.wait < 16777216
  pub cond : t.cond < 32768

-- Below this bit a transition may begin, so that the first bit of its condition is below its digit's base. None begins later: 128 of at
-- most 227 bits stand behind bit 532.
abbrev pub arrow_reach : ℕ
arrow_reach = 31000

-- arrow i of the array
abbrev pub arrow_at : List ℕ → ℕ → Arrow
arrow_at words i = unpack (get_or words i 0)
