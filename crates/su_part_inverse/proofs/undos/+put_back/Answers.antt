use Rattle.std.proofs.Common.{◌≡◌, ◌∙◌, sym, ap, subst, [], ◌∷◌}
use Rattle.std.proofs.lemmas.List.{nil_from_length}
use Rattle.std.proofs.lemmas.Result.{err_from_is_err_and}
use Rattle.std.specs.List.{AllByRecursion}
use Rattle.su_table.specs.Edit.{edit}
use Rattle.su_table.proofs.Public.{edit-back}
use Rattle.su_part_forest.specs.Forest.{Stands}
use Rattle.su_part_forest.specs.Known.{Knows}
use Rattle.su_undone.specs.Undone.{grown}
use Rattle.su_inverse.specs.Kept.{HoldsSize}
use Rattle.su_part_inverse.specs.Kept.{runs}
use Rattle.su_part_inverse.specs.Open.{AreOpen, SizeIsOpen}
use Rattle.su_part_inverse.specs.Ready.{ReturnsAreReady, SizeIsReady, comes_with, overwritten_area, want_of}
use Rattle.su_part_inverse.specs.Steps.{finished, name_edit, returned}
use Rattle.su_part_inverse.proofs.BackLemmas.{came_back, ready_behind, ready_named}
use Rattle.su_part_inverse.proofs.Moves.{name_moves}
use Rattle.su_part_inverse.proofs.OpenLemmas.{open_behind, open_named}
use Rattle.su_part_inverse.proofs.ReadyLemmas.{each, ready_on}
use Rattle.su_part_inverse.proofs.undos.+put_back.Goals as goal

pub returns-in-None-clause-ok : goal.returns-in-None-clause-ok
returns-in-None-clause-ok t c F T h back ready is =
    let i = c.args.inverse.now in
    let none = nil_from_length c.args.returns.now c.in-None.ensures.cases in
    let whole = c.as_slice.ensures.value in
    c.lengthen.ensures.ok F T h (subst (AllByRecursion (SizeIsReady [] F T c.args.forest.now)) (sym whole) ready.sizes) ready
    (subst (λ ks. finished i (grown ks F) ≡ T) (sym whole) (subst (λ rs. returned rs i F ≡ T) none is))

pub returns-in-None-clause-err : goal.returns-in-None-clause-err
returns-in-None-clause-err t c F T h back ready =
    c.lengthen.ensures.err F T h (subst (AllByRecursion (SizeIsReady [] F T c.args.forest.now)) (sym c.as_slice.ensures.value) ready.sizes) ready

pub returns-in-None-clause-err_known : goal.returns-in-None-clause-err_known
returns-in-None-clause-err_known t c F T h back ready =
    c.lengthen.ensures.err_known F T h (subst (AllByRecursion (SizeIsReady [] F T c.args.forest.now)) (sym c.as_slice.ensures.value) ready.sizes) ready

pub returns-in_default-clause-ok : goal.returns-in_default-clause-ok
returns-in_default-clause-ok t c F T h back ready done =
    let i = c.args.inverse.now in
    let f = c.args.forest.now in
    let g = c.bring_back.new.forest in
    let first = c.in-Some.first.now in
    let rest = c.in-Some.rest.now in
    let is : c.args.returns.now ≡ first ∷ rest = c.in-Some.ensures.cases.0 in
    let G = edit F (name_edit first) in
    let known = c.in_ok-overwritten-in-Some.ensures.known F h in
    let apart = ap (λ ks. comes_with ks first) (sym c.as_slice-in-Some.ensures.value) ∙ sym c.if-comes_with.ensures in
    let back' = ready_named i.inodes.items first rest F T apart (subst (λ rs. ReturnsAreReady [] i.inodes.items rs F T) is back) in
    c.in_default.ensures.ok G T (c.in_ok-overwritten-in-Some.ensures.ok F h) back' (ready_on [] F G T f g known (name_moves F T first) i.sizes.items i.resets.items (runs i) ready)
    (subst (λ rs. returned rs i F ≡ T) is done)

pub returns-in-Err-clause-err : goal.returns-in-Err-clause-err
returns-in-Err-clause-err t c F T h back ready =
    let i = c.args.inverse.now in
    let f = c.args.forest.now in
    let g = c.bring_back.new.forest in
    let first = c.in-Some.first.now in
    let rest = c.in-Some.rest.now in
    let is : c.args.returns.now ≡ first ∷ rest = c.in-Some.ensures.cases.0 in
    let apart = ap (λ ks. comes_with ks first) (sym c.as_slice-in-Some.ensures.value) ∙ sym c.if-comes_with.ensures in
    let back' = ready_named i.inodes.items first rest F T apart (subst (λ rs. ReturnsAreReady [] i.inodes.items rs F T) is back) in
    let o = c.in_ok-overwritten-in-Some.overwritten in
    let G = edit F (name_edit first) in
    let known = c.in_ok-overwritten-in-Some.ensures.known F h in
    let stands = c.in_ok-overwritten-in-Some.ensures.ok F h in
    let ready' = ready_on [] F G T f g known (name_moves F T first) i.sizes.items i.resets.items (runs i) ready in
    let mid = c.in-Err.ensures.err G T stands back' ready' in
    let between = c.in-Err.ensures.err_known G T stands back' ready' in
    let same = ap (edit G) (c.in_ok-overwritten-in-Some.ensures.overwritten F h) ∙ edit-back F (name_edit first) in
    subst (Stands c.take_back.new.forest) same
    (c.take_back.ensures.stands G mid (between (want_of (overwritten_area o)) (c.in_ok-overwritten-in-Some.ensures.added F h)) (c.in_ok-overwritten-in-Some.ensures.room F h))

pub returns-in-Err-clause-err_known : goal.returns-in-Err-clause-err_known
returns-in-Err-clause-err_known t c F T h back ready w x =
    let i = c.args.inverse.now in
    let f = c.args.forest.now in
    let g = c.bring_back.new.forest in
    let first = c.in-Some.first.now in
    let rest = c.in-Some.rest.now in
    let is : c.args.returns.now ≡ first ∷ rest = c.in-Some.ensures.cases.0 in
    let apart = ap (λ ks. comes_with ks first) (sym c.as_slice-in-Some.ensures.value) ∙ sym c.if-comes_with.ensures in
    let back' = ready_named i.inodes.items first rest F T apart (subst (λ rs. ReturnsAreReady [] i.inodes.items rs F T) is back) in
    let o = c.in_ok-overwritten-in-Some.overwritten in
    let G = edit F (name_edit first) in
    let known = c.in_ok-overwritten-in-Some.ensures.known F h in
    let stands = c.in_ok-overwritten-in-Some.ensures.ok F h in
    let ready' = ready_on [] F G T f g known (name_moves F T first) i.sizes.items i.resets.items (runs i) ready in
    let mid = c.in-Err.ensures.err G T stands back' ready' in
    let between = c.in-Err.ensures.err_known G T stands back' ready' in
    let same = ap (edit G) (c.in_ok-overwritten-in-Some.ensures.overwritten F h) ∙ edit-back F (name_edit first) in
    subst (λ V. Knows V w c.take_back.new.forest) same
    (c.take_back.ensures.known G mid (between (want_of (overwritten_area o)) (c.in_ok-overwritten-in-Some.ensures.added F h)) (c.in_ok-overwritten-in-Some.ensures.room F h) w (between w (known w x)))

pub returns-then-comes_with-clause-ok : goal.returns-then-comes_with-clause-ok
returns-then-comes_with-clause-ok t c F T h back ready done =
    let i = c.args.inverse.now in
    let first = c.in-Some.first.now in
    let rest = c.in-Some.rest.now in
    let is : c.args.returns.now ≡ first ∷ rest = c.in-Some.ensures.cases.0 in
    let comes = ap (λ ks. comes_with ks first) (sym c.as_slice-in-Some.ensures.value) ∙ sym c.if-comes_with.ensures in
    let back' = subst (λ rs. ReturnsAreReady [] i.inodes.items rs F T) is back in
    let same = came_back i.inodes.items first F T back'.back back'.held.0 comes in
    c.put_back.ensures.ok F T h (ready_behind i.inodes.items first rest F T back') ready
    (subst (λ V. returned rest i V ≡ T) same (subst (λ rs. returned rs i F ≡ T) is done))

pub returns-then-comes_with-clause-err : goal.returns-then-comes_with-clause-err
returns-then-comes_with-clause-err t c F T h back ready =
    let i = c.args.inverse.now in
    let first = c.in-Some.first.now in
    let rest = c.in-Some.rest.now in
    let is : c.args.returns.now ≡ first ∷ rest = c.in-Some.ensures.cases.0 in
    c.put_back.ensures.err F T h (ready_behind i.inodes.items first rest F T (subst (λ rs. ReturnsAreReady [] i.inodes.items rs F T) is back)) ready

pub returns-then-comes_with-clause-err_known : goal.returns-then-comes_with-clause-err_known
returns-then-comes_with-clause-err_known t c F T h back ready =
    let i = c.args.inverse.now in
    let first = c.in-Some.first.now in
    let rest = c.in-Some.rest.now in
    let is : c.args.returns.now ≡ first ∷ rest = c.in-Some.ensures.cases.0 in
    c.put_back.ensures.err_known F T h (ready_behind i.inodes.items first rest F T (subst (λ rs. ReturnsAreReady [] i.inodes.items rs F T) is back)) ready

pub returns-then-comes_with-clause-loaded : goal.returns-then-comes_with-clause-loaded
returns-then-comes_with-clause-loaded t c F T h ready opens =
    let i = c.args.inverse.now in
    let first = c.in-Some.first.now in
    let rest = c.in-Some.rest.now in
    let is : c.args.returns.now ≡ first ∷ rest = c.in-Some.ensures.cases.0 in
    c.put_back.ensures.loaded F T h ready (open_behind i.inodes.items first rest i.sizes.items F c.args.forest.now (subst (λ rs. AreOpen [] i.inodes.items rs i.sizes.items F c.args.forest.now) is opens))

pub returns-in-None-clause-loaded : goal.returns-in-None-clause-loaded
returns-in-None-clause-loaded t c F T h ready opens =
    let whole = c.as_slice.ensures.value in
    c.lengthen.ensures.loaded F T h (subst (AllByRecursion (SizeIsReady [] F T c.args.forest.now)) (sym whole) ready.sizes) (subst (AllByRecursion (SizeIsOpen [] F c.args.forest.now)) (sym whole) opens.sizes)

pub returns-in_err-overwritten-in-Some-clause-loaded : goal.returns-in_err-overwritten-in-Some-clause-loaded
returns-in_err-overwritten-in-Some-clause-loaded t c F T h ready opens =
    let i = c.args.inverse.now in
    let first = c.in-Some.first.now in
    let rest = c.in-Some.rest.now in
    let is : c.args.returns.now ≡ first ∷ rest = c.in-Some.ensures.cases.0 in
    let apart = ap (λ ks. comes_with ks first) (sym c.as_slice-in-Some.ensures.value) ∙ sym c.if-comes_with.ensures in
    let p = err_from_is_err_and c.from_residual.result c.from_residual.ensures.1 in
    rw (p.1, p.2) (c.in_err-overwritten-in-Some.ensures.loaded F h ((subst (λ rs. AreOpen [] i.inodes.items rs i.sizes.items F c.args.forest.now) is opens).returns.0 apart))

pub returns-in-Err-clause-loaded : goal.returns-in-Err-clause-loaded
returns-in-Err-clause-loaded t c F T h ready opens =
    let i = c.args.inverse.now in
    let f = c.args.forest.now in
    let g = c.bring_back.new.forest in
    let first = c.in-Some.first.now in
    let rest = c.in-Some.rest.now in
    let is : c.args.returns.now ≡ first ∷ rest = c.in-Some.ensures.cases.0 in
    let G = edit F (name_edit first) in
    let known = c.in_ok-overwritten-in-Some.ensures.known F h in
    let stands = c.in_ok-overwritten-in-Some.ensures.ok F h in
    let held = each (SizeIsReady [] F T f) (HoldsSize T) (λ k r. r.held) i.sizes.items ready.sizes in
    c.in-Err.ensures.loaded G T stands (ready_on [] F G T f g known (name_moves F T first) i.sizes.items i.resets.items (runs i) ready)
    (open_named i.inodes.items first F T f g h stands c.in_ok-overwritten-in-Some.ensures.keeps rest i.sizes.items held (subst (λ rs. AreOpen [] i.inodes.items rs i.sizes.items F f) is opens))
