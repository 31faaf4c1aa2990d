use Rattle.std.proofs.Common.{ℕ, ap, subst, ◌∙◌}
use Rattle.su_bytes.specs.declared.refusals.Refusal.TheVariants.{Malformed}
use Rattle.su_view.specs.declared.refusals.ViewRefusal.TheVariants.{Plain}
use Rattle.su_audit.specs.declared.steps.Step.TheVariants as step
use Rattle.su_log.specs.Record.{spelled}
use Rattle.su_audit.specs.Step.{IfRefused, IsRefusedRecord}
use Rattle.su_audit.proofs.StepLemmas.{refused_step, refused_record, takes_record}
use Rattle.su_audit.proofs.steps.next_step.Goals as goal

pub returns-in-Ok-take : goal.returns-in-Ok-take
returns-in-Ok-take g c = λ place input l.
    let (rest, begins, left) = c.in-Ok.ensures.next place input l in
    takes_record c.args.view.now.holding c.take.new.view.holding c.args.items.now.items c.take.new.items.items place input (spelled c.in-Ok.next) rest _ begins left c.in-Ok-take.ensures.took

pub returns-in-Err-Refused : goal.returns-in-Err-Refused
returns-in-Err-Refused g c = λ place input l.
    let (rest, begins, left) = c.in-Ok.ensures.next place input l in
    refused_record c.args.view.now.holding c.args.items.now.items place input (spelled c.in-Ok.next) rest c.in-Err-Refused.refusal begins (subst (IfRefused (IsRefusedRecord c.args.view.now.holding c.args.items.now.items c.in-Ok.next.bytes.items c.in-Ok.next.item.items)) c.in-Err-Refused.field-0-is c.in-Err-Refused.ensures.refused)

pub returns-in-Err-End : goal.returns-in-Err-End
returns-in-Err-End g c = λ place input l. rw c.in-Err-End.field-0-is at (c.in-Err-End.ensures.next place input l)

pub returns-in-Err-Cut : goal.returns-in-Err-Cut
returns-in-Err-Cut g c = λ place input l.
    let stops = rw c.in-Err-Cut.field-0-is at (c.in-Err-Cut.ensures.next place input l) in
    refused_step c.args.view.now.holding c.args.view.now.holding c.args.items.now.items c.args.items.now.items c.in-Err-Cut.place place input _ c.refused_at.result
    (c.refused_at.ensures ∙ ap (λ (p : ℕ). step.Refused (Plain (Malformed p))) c.in-Err-Cut.place-is) stops
