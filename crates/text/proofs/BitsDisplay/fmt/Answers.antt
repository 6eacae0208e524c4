use Rattle.std.proofs.Common.{arith, rules, ◌≡◌, ◌+◌, ◌*◌, ◌/◌, ◌^◌, ◌++◌, ap, ◌∙◌}
use Rattle.std.proofs.Output.{has_written_append, has_written_of_eq}
use Rattle.std.proofs.lemmas.Nat.{shr-shr}
use Rattle.text.proofs.BitsText.{one-more, more}
use Rattle.text.specs.Text.{bits_text}
use Rattle.text.proofs.BitsDisplay.fmt.Goals.{then-rest-eq1, else-rest-eq1}
use Rattle.text.proofs.BitsDisplay.fmt.Goals as goal

-- src/lib.rt:34:9
pub loop-preserved : goal.loop-preserved
loop-preserved g c =
    let k = c.loop.counter in
    let word = c.args.self.now.word in
    let end : 4 + 4 * k ≡ 4 * (k + 1) = omega arith in
    let end' : 4 * k + 4 ≡ 4 * (k + 1) = omega arith in
    let left : c.loop.rest / 16 ≡ word / 2 ^ (4 * (k + 1)) = ap (λ n. n / 16) c.loop.invariant.0 ∙ shr-shr word (4 * k) 4 ∙ ap (λ n. word / 2 ^ n) end' in
    let next : bits_text word (4 * k) ++ c.four.result.now ≡ bits_text word (4 * (k + 1)) = ap (λ t. bits_text word (4 * k) ++ t) c.four.ensures ∙ more word (4 * k) 4 c.loop.rest c.loop.invariant.0 ∙ ap (bits_text word) end in
    (left, λ p. has_written_of_eq _ _ _ _ _ next (has_written_append _ _ _ _ _ _ (c.loop.invariant.1 p) (search rules)))

-- src/lib.rt:38:9
pub loop-2-preserved : goal.loop-2-preserved
loop-2-preserved g c =
    let k = c.loop-2.counter in
    let word = c.loop.rest in
    let half : c.loop-2.rest / 2 ≡ word / 2 ^ (k + 1) = ap (λ n. n / 2) c.loop-2.invariant.0 ∙ shr-shr word k 1 in
    let next : bits_text word k ++ c.if-rest-eq1.write_str.now ≡ bits_text word (k + 1) = elim c.if-rest-eq1.branch [ then-rest-eq1 w ↦ ap (λ t. bits_text word k ++ t.now) w.write_str-is ∙ one-more word k c.loop-2.rest 1 c.loop-2.invariant.0 w.if-rest-eq1.true | else-rest-eq1 w ↦ let no = w.if-rest-eq1.false in ap (λ t. bits_text word k ++ t.now) w.write_str-is ∙ one-more word k c.loop-2.rest 0 c.loop-2.invariant.0 (omega arith) ] in
    (half, λ p. has_written_of_eq _ _ _ _ _ next (has_written_append _ _ _ _ _ _ (c.loop-2.invariant.1 p) (search rules)))

-- src/lib.rt:32:5
pub returns-clause-writes : goal.returns-clause-writes
returns-clause-writes g c p _ =
    let word = c.args.self.now.word in
    let fours = c.loop.counter in
    let ones = c.loop-2.counter in
    let fours-end = c.loop.auto.counter-end in
    let fours-done = c.loop-test.false in
    let ones-end = c.loop-2.auto.counter-end in
    let ones-done = c.loop-2-test.false in
    let count : ones + 4 * fours ≡ c.args.self.now.count = omega arith in
    let all : bits_text word (4 * fours) ++ bits_text c.loop.rest ones ≡ bits_text word c.args.self.now.count = more word (4 * fours) ones c.loop.rest c.loop.invariant.0 ∙ ap (bits_text word) count in
    let first = c.loop.invariant.1 p in
    has_written_of_eq _ _ _ _ _ all (has_written_append _ _ _ _ _ _ first (c.loop-2.invariant.1 first.plain))
