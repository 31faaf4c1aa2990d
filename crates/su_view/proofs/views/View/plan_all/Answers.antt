use Rattle.std.proofs.Common.{◌≡◌, ◌⊎◌, None, Ok, Err, IfOk, refl}
use Rattle.std.specs.Prelude.{IfErr}
use Rattle.su_part_tree.specs.Loading.{IsLoadRefusal}
use Rattle.su_plan.specs.Plan.{plan_all}
use Rattle.su_view.proofs.AskLemmas.{asks_seen, on_list, still_settled}
use Rattle.su_view.proofs.KeepingLemmas.{keeping_desk}
use Rattle.su_view.proofs.views.View.plan_all.Goals as goal

pub invariant_of-self : goal.invariant_of-self
invariant_of-self g c = keeping_desk g.S.BlockSource.may_give c.self.inside.keeping (record c.self.inside.keeping { desk = c.plan_all.new.desk }) c.self.invariant refl (still_settled c.plan_all.result c.self.inside.keeping.desk.state c.plan_all.new.desk.state c.plan_all.ensures.none_ready c.plan_all.ensures.err) (c.plan_all.ensures.asks.clear)

pub returns-clause-asks : goal.returns-clause-asks
returns-clause-asks g c = asks_seen c.self.inside.keeping c.args.self.now c.plan_all.new.desk c.self.view_is c.plan_all.ensures.asks

pub returns-clause-planned : goal.returns-clause-planned
returns-clause-planned g c clear = on_list c.self.inside.keeping c.self.invariant c.args.self.now c.self.view_is
    (λ ro T u. IfOk c.plan_all.result (λ ops. plan_all ro T u c.args.commands.now ≡ Ok ops.items)) (c.plan_all.ensures.planned clear)

pub returns-clause-refused : goal.returns-clause-refused
returns-clause-refused g c clear = on_list c.self.inside.keeping c.self.invariant c.args.self.now c.self.view_is
    (λ ro T u. IfErr c.plan_all.result (λ e. IsLoadRefusal e ⊎ (plan_all ro T u c.args.commands.now ≡ Err e))) (c.plan_all.ensures.refused clear)
