use Rattle.std.proofs.Common.{ap, ◌∙◌, arith}
use Rattle.std.proofs.lemmas.List.{get_or-take}
use Rattle.sha_lanes.specs.declared.runs.ChainRun.{ChainRun}
use Rattle.sha_lanes.specs.Run.{idle}
use Rattle.su_lms.specs.Signature.{HasShape}
use Rattle.su_lms.proofs.checks.Check.verdict.Goals as goal

pub returns : goal.returns
returns c =
    let shape : HasShape c.args.self.now.key.now c.args.self.now.signature.now = (rw c.as_bytes-key.ensures.value at c.has_shape.ensures).0 c.if-not-has_shape.false in
    (rw c.as_bytes-key.ensures.value at c.leads_to_root.ensures) c.args.self.now.message.now
    (λ i low. ap (λ (run : ChainRun). run.value) (get_or-take c.chain_count.result c.args.ends.now i idle (omega arith)) ∙ c.requires.ends shape i low)
