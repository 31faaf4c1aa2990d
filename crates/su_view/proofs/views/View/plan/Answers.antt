use Rattle.std.proofs.Common.{◌≡◌, ◌⊎◌, None, Ok, Err, IfOk, refl}
use Rattle.std.specs.Prelude.{IfErr}
use Rattle.su_part_tree.specs.Loading.{IsLoadRefusal}
use Rattle.su_bytes.specs.declared.formats.TheConstants.{NEWEST_FORMAT}
use Rattle.su_op.specs.Batch.{first_refusal}
use Rattle.su_plan.specs.Plan.{plan}
use Rattle.su_view.proofs.AskLemmas.{asks_seen, on_list, still_settled}
use Rattle.su_view.proofs.KeepingLemmas.{keeping_desk}
use Rattle.su_view.proofs.views.View.plan.Goals as goal

pub invariant_of-self : goal.invariant_of-self
invariant_of-self g c = keeping_desk g.S.BlockSource.may_give c.self.inside.keeping (record c.self.inside.keeping { desk = c.plan.new.desk }) c.self.invariant refl (still_settled c.plan.result c.self.inside.keeping.desk.state c.plan.new.desk.state c.plan.ensures.none_ready c.plan.ensures.err) (c.plan.ensures.asks.clear)

pub returns-clause-asks : goal.returns-clause-asks
returns-clause-asks g c = asks_seen c.self.inside.keeping c.args.self.now c.plan.new.desk c.self.view_is c.plan.ensures.asks

pub returns-clause-planned : goal.returns-clause-planned
returns-clause-planned g c clear = on_list c.self.inside.keeping c.self.invariant c.args.self.now c.self.view_is
    (λ ro T u. IfOk c.plan.result (λ ops. plan ro T u c.args.command.now ≡ Ok ops.items)) (c.plan.ensures.planned clear)

pub returns-clause-accepted : goal.returns-clause-accepted
returns-clause-accepted g c clear = on_list c.self.inside.keeping c.self.invariant c.args.self.now c.self.view_is
    (λ ro T u. IfOk c.plan.result (λ ops. first_refusal ro T u NEWEST_FORMAT ops.items ≡ None)) (c.plan.ensures.accepted clear)

pub returns-clause-refused : goal.returns-clause-refused
returns-clause-refused g c clear = on_list c.self.inside.keeping c.self.invariant c.args.self.now c.self.view_is
    (λ ro T u. IfErr c.plan.result (λ e. IsLoadRefusal e ⊎ (plan ro T u c.args.command.now ≡ Err e))) (c.plan.ensures.refused clear)
