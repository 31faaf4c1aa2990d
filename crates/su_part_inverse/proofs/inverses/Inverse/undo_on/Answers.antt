use Rattle.std.proofs.Common.{◌≡◌, sym, subst}
use Rattle.std.specs.List.{AllByRecursion}
use Rattle.su_part_inverse.specs.Kept.{HoldsInode}
use Rattle.su_part_inverse.specs.Open.{AreOpen}
use Rattle.su_part_inverse.specs.Ready.{IsReady, ReturnsAreReady}
use Rattle.su_part_inverse.specs.Steps.{restored}
use Rattle.su_part_inverse.proofs.Final.{put_back_is}
use Rattle.su_part_inverse.proofs.BackLemmas.{none_back}
use Rattle.su_part_inverse.proofs.Initial.{open_first, ready_first}
use Rattle.su_part_inverse.proofs.inverses.Inverse.undo_on.Goals as goal

pub returns-clause-ok : goal.returns-clause-ok
returns-clause-ok c F T h loaded put =
    let i = c.args.self.now in
    let f = c.args.forest.now in
    let whole = c.as_slice.ensures.value in
    c.restore.ensures.ok F T h (subst (AllByRecursion (HoldsInode T)) (sym whole) put.kept.inodes)
    (subst (λ ks. ReturnsAreReady ks i.inodes.items i.returns.items F T) (sym whole) (record { back = none_back i.inodes.items F T; held = put.kept.returns })) (subst (λ ks. IsReady ks i F T f) (sym whole) (ready_first i F T f h loaded put))
    (subst (λ ks. restored T ks i F ≡ T) (sym whole) (put_back_is i F T put))

pub returns-clause-err : goal.returns-clause-err
returns-clause-err c F T h loaded put =
    let i = c.args.self.now in
    let f = c.args.forest.now in
    let whole = c.as_slice.ensures.value in
    c.restore.ensures.err F T h (subst (AllByRecursion (HoldsInode T)) (sym whole) put.kept.inodes)
    (subst (λ ks. ReturnsAreReady ks i.inodes.items i.returns.items F T) (sym whole) (record { back = none_back i.inodes.items F T; held = put.kept.returns })) (subst (λ ks. IsReady ks i F T f) (sym whole) (ready_first i F T f h loaded put))

pub returns-clause-loaded : goal.returns-clause-loaded
returns-clause-loaded c F T h loaded put =
    let i = c.args.self.now in
    let f = c.args.forest.now in
    let whole = c.as_slice.ensures.value in
    c.restore.ensures.loaded F T h (subst (AllByRecursion (HoldsInode T)) (sym whole) put.kept.inodes) (subst (λ ks. IsReady ks i F T f) (sym whole) (ready_first i F T f h loaded put))
    (subst (λ ks. AreOpen ks i.inodes.items i.returns.items i.sizes.items F f) (sym whole) (open_first i F T f h loaded put))
