use Rattle.std.proofs.Common.{sym, subst, inl}
use Rattle.su_op.specs.Action.{action_by}
use Rattle.su_op.specs.Operation.{effect}
use Rattle.su_op.specs.Rule.{Plan}
use Rattle.su_part_forest.specs.Forest.{Stands}
use Rattle.su_part_forest.specs.Loading.{HashedFor}
use Rattle.su_part_forest.proofs.Lifting.{on_ok}
use Rattle.su_table.specs.Edit.{edits}
use Rattle.su_perform.proofs.FoundLemmas.{found_fits, found_tells_plan}
use Rattle.su_perform.proofs.LoadedLemmas.{if_err, less}
use Rattle.su_perform.proofs.applying.apply.Goals as goal

pub returns-in-Ok-clause-done : goal.returns-in-Ok-clause-done
unfolding effect
returns-in-Ok-clause-done g c T h free =
    let ro = c.args.roster.now in
    let y = action_by c.args.author c.args.format c.args.op.now in
    let loaded = c.in-Ok.ensures in
    let found = loaded.found T h free in
    let fits = found_fits ro T y c.in-Ok.accepted found (loaded.accepted T h free) in
    on_ok c.perform_loading.result (λ s. subst (λ (p : Plan). Stands c.perform_loading.new.forest (edits T p.edits)) (sym (found_tells_plan ro T y c.in-Ok.accepted found)) s)
    (c.perform_loading.ensures.done T (loaded.stands T h free) (less (HashedFor T) _ _ free loaded.no_more) fits)

pub returns-in-Ok-clause-refused : goal.returns-in-Ok-clause-refused
returns-in-Ok-clause-refused g c T h free =
    let y = action_by c.args.author c.args.format c.args.op.now in
    let loaded = c.in-Ok.ensures in
    let fits = found_fits c.args.roster.now T y c.in-Ok.accepted (loaded.found T h free) (loaded.accepted T h free) in
    if_err c.perform_loading.result (λ e is. inl is) (c.perform_loading.ensures.refused T (loaded.stands T h free) (less (HashedFor T) _ _ free loaded.no_more) fits)

pub returns-in-Ok-clause-failed : goal.returns-in-Ok-clause-failed
returns-in-Ok-clause-failed g c T h free =
    let y = action_by c.args.author c.args.format c.args.op.now in
    let loaded = c.in-Ok.ensures in
    let fits = found_fits c.args.roster.now T y c.in-Ok.accepted (loaded.found T h free) (loaded.accepted T h free) in
    if_err c.perform_loading.result (λ e is. inl is) (c.perform_loading.ensures.failed T (loaded.stands T h free) (less (HashedFor T) _ _ free loaded.no_more) fits)

pub returns-in-Ok-clause-err : goal.returns-in-Ok-clause-err
returns-in-Ok-clause-err g c T h free =
    let y = action_by c.args.author c.args.format c.args.op.now in
    let loaded = c.in-Ok.ensures in
    let fits = found_fits c.args.roster.now T y c.in-Ok.accepted (loaded.found T h free) (loaded.accepted T h free) in
    c.perform_loading.ensures.err T (loaded.stands T h free) (less (HashedFor T) _ _ free loaded.no_more) fits
