-- What one more bit, and more of them, add to the text of the first bits.
use Rattle.std.proofs.Common.{◌≡◌, ℕ, zero, suc, ◌+◌, ◌/◌, ◌%◌, ◌^◌, [], ◌∷◌, ◌++◌, arith, add-one, append-nil, append_assoc, ap, sym, ◌∙◌}
use Rattle.std.proofs.lemmas.Nat.{shr-shr}
use Rattle.text.specs.Text.{bits_text}

pub one-more : (word k rest bit : ℕ) → rest ≡ word / 2 ^ k → rest % 2 ≡ bit → bits_text word k ++ (48 + bit) ∷ [] ≡ bits_text word (k + 1)
one-more word k rest bit e h =
    ap (λ n. bits_text word k ++ (48 + n) ∷ []) (sym h ∙ ap (λ n. n % 2) e) ∙ sym (ap (bits_text word) (add-one k))

split : (word k m : ℕ) → bits_text word k ++ bits_text (word / 2 ^ k) m ≡ bits_text word (m + k)
split word k zero =
    let none : k ≡ 0 + k = omega arith in
    append-nil (bits_text word k) ∙ ap (bits_text word) none
split word k (suc n) =
    let place : k + n ≡ n + k = omega arith in
    let bit : word / 2 ^ k / 2 ^ n ≡ word / 2 ^ (n + k) = shr-shr word k n ∙ ap (λ i. word / 2 ^ i) place in
    let end : suc (n + k) ≡ suc n + k = omega arith in
    sym (append_assoc (bits_text word k) (bits_text (word / 2 ^ k) n) ((48 + word / 2 ^ k / 2 ^ n % 2) ∷ []))
    ∙ ap (λ i. (bits_text word k ++ bits_text (word / 2 ^ k) n) ++ (48 + i % 2) ∷ []) bit
    ∙ ap (λ t. t ++ (48 + word / 2 ^ (n + k) % 2) ∷ []) (split word k n)
    ∙ ap (bits_text word) end

-- the first k bits, and then m of those that are left
pub more : (word k m rest : ℕ) → rest ≡ word / 2 ^ k → bits_text word k ++ bits_text rest m ≡ bits_text word (m + k)
more word k m rest e = ap (λ n. bits_text word k ++ bits_text n m) e ∙ split word k m
