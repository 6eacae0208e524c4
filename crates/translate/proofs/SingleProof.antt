-- The contracts of this crate's public calls admit a single outcome. Assumes nothing.
use mathlib.Core.Path.{◌≡◌, refl}
use mathlib.Core.List.{List}
use Prim.Native.Nat.{ℕ}
use Rattle.answer.specs.One.{One}
use Rattle.answer.proofs.OneLaws.{one}
use Rattle.translate.specs.Writing.{Written, translate_into, Translates, ColdRuns}

-- what the relation allows is what the definition gives
pub translates-is : (s old : List ℕ) (w : Written) → Translates s old w.answer w.buffer → w ≡ translate_into s old
translates-is s old w h = λ i. record { answer = h.answer i; buffer = h.buffer i }

pub translate-once : (s old : List ℕ) → One (λ (w : Written). Translates s old w.answer w.buffer)
translate-once s old = (translate_into s old, record { answer = refl; buffer = refl }, translates-is s old)

pub cold-run-once : (s : List ℕ) → One (ColdRuns s)
cold-run-once s = one _
