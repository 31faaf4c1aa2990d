use Rattle.std.proofs.Common.{◌∙◌, ◌+◌, ap, max, drop, arith}
use Rattle.su_history_text.specs.Parts.{longest_name}
use Rattle.su_history_text.proofs.TeamNames.{longest_more, max_by_cmp}
use Rattle.su_history_text.proofs.parts.longest_name.Goals as goal

pub loop-number-preserved : goal.loop-number-preserved
loop-number-preserved c =
    let there = c.loop-number-test.true in
    let count = c.user_count-number-end.ensures.value in
    ap (λ n. max n (longest_name (drop (c.loop-number.number + 1) c.args.team.now))) (c.max-longest.ensures ∙ max_by_cmp c.loop-number.longest c.name_length.result)
    ∙ longest_more c.args.team.now c.loop-number.number c.loop-number.longest c.name_length.result (omega (arith, there, count)) c.name_length.ensures c.loop-number.invariant
