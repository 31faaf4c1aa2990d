use Rattle.std.proofs.Common.{ap, ◌∙◌}
use Rattle.su_version.specs.Version.{Version}
use Rattle.su_chain.proofs.EndLemmas.{checked, unchecked}
use Rattle.su_chain.proofs.ends.ChainEnd.check.Goals as goal

pub returns-clause-next : goal.returns-clause-next
returns-clause-next c =
    checked c.args.roster.now c.args.self.now c.args.commit.now c.tip-tip.result _ c.version.ensures.commit
    (c.author.ensures.value ∙ ap (λ (v : Version). v.author) c.version.ensures.value) c.tip-tip.ensures.tip c.tip-tip.ensures.used c.check.result c.check.ensures.follows

pub returns-clause-refused : goal.returns-clause-refused
returns-clause-refused c =
    unchecked c.args.roster.now c.args.self.now c.args.commit.now c.tip-tip.result _ c.version.ensures.commit
    (c.author.ensures.value ∙ ap (λ (v : Version). v.author) c.version.ensures.value) c.tip-tip.ensures.tip c.tip-tip.ensures.used c.check.result c.check.ensures.refused
