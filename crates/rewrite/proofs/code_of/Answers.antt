use Rattle.std.proofs.Common.{◌≡◌, ◌∙◌, ap, sym, take, drop, length, ◌++◌}
use Rattle.std.proofs.lemmas.List.{take_at}
use Rattle.translate.specs.Writing.{translate_into}
use Rattle.rewrite.proofs.code_of.Goals as goal

-- src/lib.rt:16:1
pub returns : goal.returns
returns c =
    let t = c.translate-translated in
    let s = c.args.sheet.now in
    let room = c.as_mut_slice.result.now in
    let whole : take c.in_ok-code.code.len (t.new.code ++ drop (length t.new.code) c.in_ok-code.code.items) ≡ t.new.code = take_at t.new.code _ c.in_ok-code.code.len (t.auto.code ∙ c.as_mut_slice.ensures.len) in (
      room,
      sym (ap (λ r. r.verdict) t.ensures.answer) ∙ c.in_ok-translated.was,
      c.truncate.ensures.items ∙ ap (take t.result.length) (whole ∙ t.ensures.buffer) ∙ ap (λ n. take n (translate_into s room).buffer) (ap (λ r. r.length) t.ensures.answer),
    )
