use Rattle.std.proofs.Common.{◌≡◌, ◌∙◌, subst, [], ◌∷◌}
use Rattle.std.proofs.lemmas.List.{nil_from_length}
use Rattle.std.proofs.lemmas.Result.{err_from_is_err_and}
use Rattle.std.specs.List.{AllByRecursion}
use Rattle.su_part_forest.specs.Forest.{Stands}
use Rattle.su_part_forest.proofs.EditLifting.{small_inum}
use Rattle.su_undone.specs.Undone.{grown, grown_to}
use Rattle.su_inverse.specs.Kept.{HoldsSize}
use Rattle.su_part_inverse.specs.Kept.{runs}
use Rattle.su_part_inverse.specs.Open.{SizeIsOpen}
use Rattle.su_part_inverse.specs.Ready.{SizeIsReady}
use Rattle.su_part_inverse.specs.Steps.{finished}
use Rattle.su_part_inverse.proofs.Moves.{grown_moves}
use Rattle.su_part_inverse.proofs.OpenLemmas.{open_grown}
use Rattle.su_part_inverse.proofs.ReadyLemmas.{each, ready_on, sizes_on}
use Rattle.su_part_inverse.proofs.Rolling.{area_between, back_again, end_between, known_again}
use Rattle.su_part_inverse.proofs.Using.{size_known}
use Rattle.su_part_inverse.proofs.undos.+lengthen.Goals as goal

pub returns-in-None-clause-ok : goal.returns-in-None-clause-ok
returns-in-None-clause-ok t c F T h sizes ready is =
    let none = nil_from_length c.args.sizes.now c.in-None.ensures.cases in
    c.finish.ensures F T h ready (subst (λ ks. finished c.args.inverse.now (grown ks F) ≡ T) none is)

pub returns-in_default-clause-ok : goal.returns-in_default-clause-ok
returns-in_default-clause-ok t c F T h sizes ready done =
    let i = c.args.inverse.now in
    let f = c.args.forest.now in
    let g = c.grow.new.forest in
    let first = c.in-Some.first.now in
    let rest = c.in-Some.rest.now in
    let is : c.args.sizes.now ≡ first ∷ rest = c.in-Some.ensures.cases.0 in
    let (one, more) = subst (AllByRecursion (SizeIsReady [] F T f)) is sizes in
    let known = c.in_ok-grow-in-Some.ensures.known F h one.known in
    let moves = grown_moves F T first one.held in
    c.in_default.ensures.ok (grown_to first F) T (c.in_ok-grow-in-Some.ensures.ok F h one.known) (sizes_on [] F (grown_to first F) T f g known moves rest more)
    (ready_on [] F (grown_to first F) T f g known moves i.sizes.items i.resets.items (runs i) ready) (subst (λ ks. finished i (grown ks F) ≡ T) is done)

pub returns-in-Err-clause-err : goal.returns-in-Err-clause-err
returns-in-Err-clause-err t c F T h sizes ready =
    let i = c.args.inverse.now in
    let f = c.args.forest.now in
    let g = c.grow.new.forest in
    let j = c.lengthen.new.forest in
    let first = c.in-Some.first.now in
    let rest = c.in-Some.rest.now in
    let is : c.args.sizes.now ≡ first ∷ rest = c.in-Some.ensures.cases.0 in
    let (one, more) = subst (AllByRecursion (SizeIsReady [] F T f)) is sizes in
    let known = c.in_ok-grow-in-Some.ensures.known F h one.known in
    let moves = grown_moves F T first one.held in
    let stands = c.in_ok-grow-in-Some.ensures.ok F h one.known in
    let sizes' = sizes_on [] F (grown_to first F) T f g known moves rest more in
    let ready' = ready_on [] F (grown_to first F) T f g known moves i.sizes.items i.resets.items (runs i) ready in
    let mid = c.in-Err.ensures.err (grown_to first F) T stands sizes' ready' in
    let between = c.in-Err.ensures.err_known (grown_to first F) T stands sizes' ready' in
    let small = small_inum c.number-number.result first.place.1 c.number-number.ensures.range.1 c.number-number.ensures.value in
    let was = c.size-was.ensures (F, h) ∙ size_known F f h first.place (one.known small) in
    let ends = c.in_ok-grow-in-Some.ensures.cuts F h one.known in
    subst (Stands c.cut.new.forest) (back_again F f g j first small c.size-was.result was one.known known between ends)
    (c.cut.ensures.stands (grown_to first F) mid (area_between F f g j first small c.size-was.result was one.known known between ends)
    (end_between F f g j first small c.size-was.result was one.known known between ends))

pub returns-in-Err-clause-err_known : goal.returns-in-Err-clause-err_known
returns-in-Err-clause-err_known t c F T h sizes ready =
    let i = c.args.inverse.now in
    let f = c.args.forest.now in
    let g = c.grow.new.forest in
    let j = c.lengthen.new.forest in
    let first = c.in-Some.first.now in
    let rest = c.in-Some.rest.now in
    let is : c.args.sizes.now ≡ first ∷ rest = c.in-Some.ensures.cases.0 in
    let (one, more) = subst (AllByRecursion (SizeIsReady [] F T f)) is sizes in
    let known = c.in_ok-grow-in-Some.ensures.known F h one.known in
    let moves = grown_moves F T first one.held in
    let stands = c.in_ok-grow-in-Some.ensures.ok F h one.known in
    let sizes' = sizes_on [] F (grown_to first F) T f g known moves rest more in
    let ready' = ready_on [] F (grown_to first F) T f g known moves i.sizes.items i.resets.items (runs i) ready in
    let mid = c.in-Err.ensures.err (grown_to first F) T stands sizes' ready' in
    let between = c.in-Err.ensures.err_known (grown_to first F) T stands sizes' ready' in
    let small = small_inum c.number-number.result first.place.1 c.number-number.ensures.range.1 c.number-number.ensures.value in
    let was = c.size-was.ensures (F, h) ∙ size_known F f h first.place (one.known small) in
    let ends = c.in_ok-grow-in-Some.ensures.cuts F h one.known in
    known_again F f g j first small c.size-was.result was one.known known between ends c.cut.new.forest
    (c.cut.ensures.known (grown_to first F) mid (area_between F f g j first small c.size-was.result was one.known known between ends)
    (end_between F f g j first small c.size-was.result was one.known known between ends))

pub returns-in_err-grow-in-Some-clause-loaded : goal.returns-in_err-grow-in-Some-clause-loaded
returns-in_err-grow-in-Some-clause-loaded t c F T h sizes opens =
    let f = c.args.forest.now in
    let first = c.in-Some.first.now in
    let rest = c.in-Some.rest.now in
    let is : c.args.sizes.now ≡ first ∷ rest = c.in-Some.ensures.cases.0 in
    let (one, more) = subst (AllByRecursion (SizeIsReady [] F T f)) is sizes in
    let (open', left) = subst (AllByRecursion (SizeIsOpen [] F f)) is opens in
    let p = err_from_is_err_and c.from_residual.result c.from_residual.ensures.1 in
    rw (p.1, p.2) (c.in_err-grow-in-Some.ensures.loaded F h one.known open')

pub returns-in-Err-clause-loaded : goal.returns-in-Err-clause-loaded
returns-in-Err-clause-loaded t c F T h sizes opens =
    let f = c.args.forest.now in
    let g = c.grow.new.forest in
    let first = c.in-Some.first.now in
    let rest = c.in-Some.rest.now in
    let is : c.args.sizes.now ≡ first ∷ rest = c.in-Some.ensures.cases.0 in
    let (one, more) = subst (AllByRecursion (SizeIsReady [] F T f)) is sizes in
    let (open', left) = subst (AllByRecursion (SizeIsOpen [] F f)) is opens in
    let known = c.in_ok-grow-in-Some.ensures.known F h one.known in
    let stands = c.in_ok-grow-in-Some.ensures.ok F h one.known in
    let held = each (SizeIsReady [] F T f) (HoldsSize T) (λ k r. r.held) rest more in
    c.in-Err.ensures.loaded (grown_to first F) T stands (sizes_on [] F (grown_to first F) T f g known (grown_moves F T first one.held) rest more)
    (open_grown first F T f g one.held h stands c.in_ok-grow-in-Some.ensures.beside rest held left)
