use Rattle.std.proofs.Common.{◌≡◌, ◌⊎◌, subst}
use Rattle.std.specs.Prelude.{OnOk, IfErr}
use Rattle.su_bytes.specs.Order.{Passes, RefusedBy}
use Rattle.su_bytes.specs.declared.refusals.Refusal.TheVariants.{NoMemory}
use Rattle.su_view.specs.LastCommits.{shown_order}
use Rattle.su_view.specs.declared.refusals.ViewRefusal.TheVariants.{Plain}
use Rattle.su_view.specs.Viewed.{ViewOn}
use Rattle.su_view.proofs.views.View.check_list.Goals as goal

pub returns-clause-passes : goal.returns-clause-passes
returns-clause-passes g c = subst (λ (v : ViewOn g.row.S.Denot). OnOk c.check_list.result (Passes (shown_order v.holding c.args.shown.now))) c.self.view_is c.check_list.ensures.passes

pub returns-clause-refused : goal.returns-clause-refused
returns-clause-refused g c =
    subst (λ (v : ViewOn g.row.S.Denot). IfErr c.check_list.result (λ e. (e ≡ Plain NoMemory) ⊎ RefusedBy (shown_order v.holding c.args.shown.now) e)) c.self.view_is c.check_list.ensures.refused
