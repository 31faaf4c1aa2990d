use Rattle.std.proofs.Common.{◌∙◌}
use Rattle.su_view.specs.Keeping.{holding_of}
use Rattle.su_view.proofs.ShownLemmas.{order_passes, order_refuses}
use Rattle.su_view.proofs.last_commits.check_list.Goals as goal

pub returns-clause-passes : goal.returns-clause-passes
returns-clause-passes g c =
    order_passes c.check_own.result (holding_of c.args.keeping.now) c.args.shown.now (c.in-Ok.ensures.value.0 c.if-not-signed.false) _ c.roster.ensures _ (c.as_ref.ensures.value ∙ c.requires.last_own) c.check_own.ensures.passes

pub returns-clause-refused : goal.returns-clause-refused
returns-clause-refused g c =
    order_refuses c.check_own.result (holding_of c.args.keeping.now) c.args.shown.now (c.in-Ok.ensures.value.0 c.if-not-signed.false) _ c.roster.ensures _ (c.as_ref.ensures.value ∙ c.requires.last_own) c.check_own.ensures.refused
