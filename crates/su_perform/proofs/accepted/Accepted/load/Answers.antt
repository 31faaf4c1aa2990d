use Rattle.std.proofs.Common.{◌∙◌, sym, inr}
use Rattle.su_op.specs.Action.{action_by}
use Rattle.su_part_forest.specs.Seen.{seen}
use Rattle.su_part_forest.proofs.Lifting.{on_ok}
use Rattle.su_perform.proofs.FoundLemmas.{found_is_local}
use Rattle.su_perform.proofs.LoadedLemmas.{asked_seen, if_err, if_ok, refused_alike}
use Rattle.su_perform.proofs.accepted.Accepted.load.Goals as goal

pub returns-in-Ok-clause-accepted : goal.returns-in-Ok-clause-accepted
returns-in-Ok-clause-accepted g c T h free =
    let x = action_by c.args.author c.args.format c.args.op.now in
    let stands = c.in-Ok.ensures.loads.stands T h free in
    let same = refused_alike c.args.roster.now c.load_asked.new.forest T stands x (c.in-Ok.ensures.has T h free) in
    on_ok c.check.result (λ e. sym same ∙ e) (c.check.ensures.accepted (T, stands))

pub returns-in-Ok-clause-found : goal.returns-in-Ok-clause-found
returns-in-Ok-clause-found g c T h free =
    let f = c.load_asked.new.forest in
    let stands = c.in-Ok.ensures.loads.stands T h free in
    let agree = asked_seen f T stands c.args.author c.args.op.now (c.in-Ok.ensures.has T h free) in
    if_ok c.check.result (λ y. found_is_local (seen f) T c.args.author c.args.op.now y agree) (c.check.ensures.found (T, stands))

pub returns-in-Ok-clause-refused : goal.returns-in-Ok-clause-refused
returns-in-Ok-clause-refused g c T h free =
    let x = action_by c.args.author c.args.format c.args.op.now in
    let stands = c.in-Ok.ensures.loads.stands T h free in
    let same = refused_alike c.args.roster.now c.load_asked.new.forest T stands x (c.in-Ok.ensures.has T h free) in
    if_err c.check.result (λ e is. inr (sym same ∙ is)) (c.check.ensures.refused (T, stands))

pub returns-in-Ok-clause-failed : goal.returns-in-Ok-clause-failed
returns-in-Ok-clause-failed g c T h free =
    let x = action_by c.args.author c.args.format c.args.op.now in
    let stands = c.in-Ok.ensures.loads.stands T h free in
    let same = refused_alike c.args.roster.now c.load_asked.new.forest T stands x (c.in-Ok.ensures.has T h free) in
    if_err c.check.result (λ e is. inr (sym same ∙ is)) (c.check.ensures.refused (T, stands))
