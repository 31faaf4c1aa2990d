use Rattle.std.proofs.Common.{◌∷◌, [], sym}
use Rattle.su_audit.proofs.StepLemmas.{told_so, took_always}
use Rattle.su_audit.proofs.steps.join.Goals as goal

pub accept_with-requires-clause-known : goal.accept_with-requires-clause-known
accept_with-requires-clause-known c = c.verdict_or_none.ensures c.args.commit c.requires.verdict

pub returns-in-Ok-clause-took : goal.returns-in-Ok-clause-took
returns-in-Ok-clause-took c =
    let (change, is, grows) = c.in-Ok.ensures.took in
    (change, sym is, took_always c.args.view.now c.accept_with.new.self (record { commit = c.args.commit; change = change } ∷ []) grows)

pub returns-in-Err-clause-refused : goal.returns-in-Err-clause-refused
returns-in-Err-clause-refused c =
    told_so c.args.view.now c.accept_with.new.self c.args.commit c.args.item.items c.args.is_named c.in-Err.refusal c.not_taken.result c.requires.other c.not_taken.ensures c.in-Err.ensures.refused
