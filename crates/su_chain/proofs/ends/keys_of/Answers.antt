use Rattle.std.proofs.Common.{ap, ◌∙◌, arith, rules}
use Rattle.std.proofs.lemmas.Grind.{common_steps}
use Rattle.su_bytes.specs.RosterBytes.{user_key}
use Rattle.su_chain.proofs.KeyLemmas.{one_more}
use Rattle.su_chain.proofs.ends.keys_of.Goals as goal

pub loop-number-preserved : goal.loop-number-preserved
loop-number-preserved c =
    let (long, keys, leaves, good) = c.loop-number.invariant in (
      search rules,
      search rules,
      grind (arith, common_steps),
      one_more c.args.roster.now c.loop-number.number c.in_ok-key.key good (c.in_ok-key.ensures.key ∙ ap (user_key c.args.roster.now) c.in-Ok.ensures.value) c.in_ok-key.ensures.good,
    )
