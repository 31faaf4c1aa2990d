use Rattle.std.proofs.Common.{◌≡◌, ◌∙◌, ◌-◌, ◌++◌, ap, min, length, replicate, arith}
use Rattle.std.specs.String.{string_bytes}
use Rattle.su_history_text.specs.Parts.{padded, stays_on_line}
use Rattle.su_history_text.proofs.Padding.{one_space_more, stays-padded}
use Rattle.su_history_text.proofs.parts.padded.Goals as goal

pub loop-place-preserved : goal.loop-place-preserved
loop-place-preserved c =
    let low = c.loop-place.auto._place in
    let there = c.loop-place-test.true in
    let start = ap length c.as_str-place.ensures.value in
    let more = one_space_more (string_bytes c.args.text) (string_bytes c.loop-place.text) (string_bytes c.push_str.new.self) (min c.loop-place._place c.args.width - length (string_bytes c.args.text)) c.loop-place.invariant c.in_ok-push_str.ensures.bytes in
    more ∙ ap (λ n. string_bytes c.args.text ++ replicate n 32) (omega (arith, low, there, start))

pub returns-clause-value : goal.returns-clause-value
returns-clause-value c =
    let ends = c.loop-place-test.false in
    c.loop-place.invariant ∙ ap (λ n. string_bytes c.args.text ++ replicate n 32) (omega (arith, ends))

pub returns-clause-line : goal.returns-clause-line
returns-clause-line c =
    let ends = c.loop-place-test.false in
    let is : string_bytes c.loop-place.text ≡ padded c.args.width (string_bytes c.args.text) =
    c.loop-place.invariant ∙ ap (λ n. string_bytes c.args.text ++ replicate n 32) (omega (arith, ends)) in
    ap stays_on_line is ∙ stays-padded c.args.width (string_bytes c.args.text) c.requires
