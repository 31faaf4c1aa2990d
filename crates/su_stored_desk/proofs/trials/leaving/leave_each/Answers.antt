use Rattle.std.proofs.Common.{⊎_elim, inl, inr}
use Rattle.su_stored_desk.proofs.TrialLemmas.{refused_by}
use Rattle.su_stored_desk.proofs.trials.leaving.leave_each.Goals as goal

pub loop-earlier-init : goal.loop-earlier-init
loop-earlier-init g c = record {
  leads = λ ro F T ts leads. leads;
  more = λ ro F T ts leads i m. inl m;
  follows = g.met.S.BlockSource.follows_itself c.args.source.now;
}

pub loop-earlier-preserved : goal.loop-earlier-preserved
loop-earlier-preserved g c =
    let l = c.loop-earlier in
    let one = c.leave_one.ensures in
    record {
      leads = λ ro F T ts leads. one.leads ro F T ts (l.invariant.leads ro F T ts leads);
      more = λ ro F T ts leads i m. ⊎_elim (l.invariant.more ro F T ts leads i) (λ hashed. inr hashed) (one.more ro F T ts (l.invariant.leads ro F T ts leads) i m);
      follows = g.met.S.BlockSource.follows_on c.args.source.now l.source c.leave_one.new.source l.invariant.follows one.follows;
    }

pub returns-in_err-leave_one-clause-leads : goal.returns-in_err-leave_one-clause-leads
returns-in_err-leave_one-clause-leads g c ro F T ts leads = c.leave_one.ensures.leads ro F T ts (c.loop-earlier.invariant.leads ro F T ts leads)

pub returns-in_err-leave_one-clause-more : goal.returns-in_err-leave_one-clause-more
returns-in_err-leave_one-clause-more g c ro F T ts leads i m =
    let l = c.loop-earlier in
    ⊎_elim (l.invariant.more ro F T ts leads i) (λ hashed. inr hashed) (c.leave_one.ensures.more ro F T ts (l.invariant.leads ro F T ts leads) i m)

pub returns-in_err-leave_one-clause-follows : goal.returns-in_err-leave_one-clause-follows
returns-in_err-leave_one-clause-follows g c =
    let l = c.loop-earlier in
    g.met.S.BlockSource.follows_on c.args.source.now l.source c.leave_one.new.source l.invariant.follows c.leave_one.ensures.follows

pub returns-in_err-leave_one-clause-refused : goal.returns-in_err-leave_one-clause-refused
returns-in_err-leave_one-clause-refused g c = refused_by _ c.from_residual.result c.in_err-leave_one.field-0.0 c.from_residual.ensures.1 c.in_err-leave_one.ensures.refused
