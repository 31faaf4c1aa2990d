use Rattle.std.proofs.Common.{◌≡◌, ◌∙◌, ◌+◌, ◌++◌, ◌∷◌, drop, suc, Ok, refl, sym, ap, add-one}
use Rattle.std.proofs.Math.Seq.{drop-cons}
use Rattle.su_op.specs.Batch.{action_by, effect}
use Rattle.su_bytes.specs.declared.formats.TheConstants.{NEWEST_FORMAT}
use Rattle.su_desk.specs.Desk.{DeskState}
use Rattle.su_desk.specs.Trial.{tree_with_ready}
use Rattle.su_plan.specs.Plan.{and_behind, plan, plan_all}
use Rattle.su_stored_desk.proofs.Public.{asks_nothing, asks_on}
use Rattle.su_stored_plan.proofs.PlanLemmas.{none_before, first_planned}
use Rattle.su_stored_plan.proofs.plans.plan_on.Goals as goal

pub loop-command-init : goal.loop-command-init
loop-command-init g c =
    let r = plan_all c.args.desk.now.state.settled.roster (tree_with_ready c.args.desk.now.state) c.args.user c.args.commands.now in
    record {
      settled = refl;
      planned = λ clear. none_before r ∙ ap (λ ops. and_behind ops r) (sym c.new-planned.ensures.items);
      asks = asks_nothing g.met.S.BlockSource.follows_itself c.args.desk.now c.args.desk.now refl refl refl;
    }

pub loop-command-preserved : goal.loop-command-preserved
loop-command-preserved g c =
    let l = c.loop-command in
    let all = c.args.commands.now in
    let it = c.command-item.result in
    let r = c.in_ok-next.ensures in
    let ops = c.in_ok-next.next.items in
    let ro = c.args.desk.now.state.settled.roster in
    let T = tree_with_ready l.desk.state in
    let a = c.args.user in
    let rest = drop (l.command-index + 1) all in
    let left : drop l.command-index all ≡ it ∷ rest
    = drop-cons all l.command-index it c.loop-command-test.true ∙ ap (λ o. o ∷ drop (suc l.command-index) all) (sym c.command-item.is) ∙ ap (λ j. it ∷ drop j all) (sym (add-one l.command-index)) in
    record {
      settled = r.settled ∙ l.invariant.settled;
      planned = λ clear.
          let is : plan ro T a it ≡ Ok ops = ap (λ (d : DeskState). plan d.roster T a it) (sym l.invariant.settled) ∙ r.planned clear in
          let done : tree_with_ready c.plan_next.new.desk.state ≡ effect ro T (action_by a NEWEST_FORMAT ops) = r.effect clear ∙ ap (λ (d : DeskState). effect d.roster T (action_by a NEWEST_FORMAT ops)) l.invariant.settled in
          l.invariant.planned (r.asks.clear clear)
          ∙ ap (λ cs. and_behind l.planned.items (plan_all ro T a cs)) left
          ∙ first_planned ro T a it rest l.planned.items ops is
          ∙ ap (λ U. and_behind (l.planned.items ++ ops) (plan_all ro U a rest)) (sym done)
          ∙ ap (λ os. and_behind os (plan_all ro (tree_with_ready c.plan_next.new.desk.state) a rest)) (sym c.in_ok-append.ensures.items);
      asks = asks_on g.met.S.BlockSource.follows_on c.args.desk.now l.desk c.plan_next.new.desk l.invariant.asks c.plan_next.ensures.asks;
    }

pub returns-in_err-next-clause-asks : goal.returns-in_err-next-clause-asks
returns-in_err-next-clause-asks g c = asks_on g.met.S.BlockSource.follows_on c.args.desk.now c.loop-command.desk c.plan_next.new.desk c.loop-command.invariant.asks c.plan_next.ensures.asks

pub returns-in_err-append-clause-asks : goal.returns-in_err-append-clause-asks
returns-in_err-append-clause-asks g c = asks_on g.met.S.BlockSource.follows_on c.args.desk.now c.loop-command.desk c.plan_next.new.desk c.loop-command.invariant.asks c.plan_next.ensures.asks
