use Rattle.std.proofs.Common.{◌≡◌, [], ap, ◌∙◌, refl, sym, subst, arith, rules}
use Rattle.su_block.specs.Memory.{Memory}
use Rattle.su_audit.specs.Audit.{held_by_first}
use Rattle.su_log_ahead.specs.Ahead.{IsLeft}
use Rattle.su_log_ahead.proofs.Public.{all_left}
use Rattle.su_audit.proofs.AuditLemmas.{none_yet, further, at_end, refused_next, told_taken, told_refused, some_taken, some_refused, wrote_nothing}
use Rattle.su_audit.proofs.audits.run_audit.Goals as goal

pub loop-number-init : goal.loop-number-init
loop-number-init g c = record {
  stands = λ input is.
      let holds : c.in-Ok-new.view.holding ≡ held_by_first c.args.roster [] = search rules in
      none_yet c.args.roster input _ _ _ holds (ap (λ (m : Memory). m.items) c.new-items.ensures)
      (subst (λ s. IsLeft s 0 input) (sym c.new-log.ensures) (all_left (g.R.Read.remaining c.args.reader) 0 input is));
  writer = refl;
}

pub loop-number-preserved : goal.loop-number-preserved
loop-number-preserved g c = record {
  stands = λ log is. further c.args.roster log _ _ _ _ (c.loop-number.invariant.stands log is) _ _ _ c.in-Took.ensures;
  writer = c.loop-number.invariant.writer;
}

pub returns-in-Ended-clause-prints : goal.returns-in-Ended-clause-prints
returns-in-Ended-clause-prints g c = λ log before is there.
    told_taken c.args.roster log before _ _ _ c.tell_taken.result
    (at_end c.args.roster log _ _ _ _ (c.loop-number.invariant.stands log is) _ (omega arith) c.in-Ended.ensures)
    refl (c.tell_taken.ensures before (c.loop-number.invariant.writer ∙ there))

pub returns-in-Refused-clause-prints : goal.returns-in-Refused-clause-prints
returns-in-Refused-clause-prints g c = λ log before is there.
    told_refused c.args.roster log before _ _ c.loop-number.number c.in-Refused.refusal c.tell_refused.result
    (refused_next c.args.roster log _ _ _ _ (c.loop-number.invariant.stands log is) _ c.in-Refused.ensures)
    refl (c.tell_refused.ensures before (c.loop-number.invariant.writer ∙ there))

pub returns-in-Ended-clause-text : goal.returns-in-Ended-clause-text
returns-in-Ended-clause-text g c before there = some_taken _ before _ c.tell_taken.result (c.tell_taken.ensures before (c.loop-number.invariant.writer ∙ there))

pub returns-in-Refused-clause-text : goal.returns-in-Refused-clause-text
returns-in-Refused-clause-text g c before there =
    some_refused c.loop-number.number c.in-Refused.refusal before _ c.tell_refused.result (c.tell_refused.ensures before (c.loop-number.invariant.writer ∙ there))

pub returns-in-Failed-clause-prints : goal.returns-in-Failed-clause-prints
returns-in-Failed-clause-prints g c = λ log before is there. wrote_nothing c.in-Failed.fault before _ (c.loop-number.invariant.writer ∙ there)

pub returns-in-Failed-clause-text : goal.returns-in-Failed-clause-text
returns-in-Failed-clause-text g c before there = wrote_nothing c.in-Failed.fault before _ (c.loop-number.invariant.writer ∙ there)
