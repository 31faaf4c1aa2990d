use Rattle.std.proofs.Common.{◌∙◌, arith}
use Rattle.su_lms.proofs.public_keys.ends_at_root.Goals as goal

pub returns : goal.returns
returns c =
    c.leads_to_root.ensures c.args.message.now (λ i low. (c.run_chains.ensures i (omega arith)).value ∙ c.set_chains.ensures i low)
