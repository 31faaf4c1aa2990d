use Rattle.std.proofs.Common.{◌≡◌, sym, subst, [], ◌∷◌}
use Rattle.std.proofs.lemmas.List.{nil_from_length}
use Rattle.std.proofs.lemmas.Result.{err_from_is_err_and}
use Rattle.std.specs.List.{AllByRecursion}
use Rattle.su_table.specs.Edit.{edit}
use Rattle.su_part.specs.Known.{Want.AnInode}
use Rattle.su_part_forest.specs.Forest.{Stands}
use Rattle.su_part_forest.specs.Known.{Knows, Want.OfUser}
use Rattle.su_part_forest.proofs.EditLifting.{on_err}
use Rattle.su_inverse.specs.Kept.{HoldsSize}
use Rattle.su_part_inverse.specs.Kept.{runs, HoldsInode}
use Rattle.su_part_inverse.specs.Open.{AreOpen}
use Rattle.su_part_inverse.specs.Ready.{IsReady, ReturnsAreReady, SizeIsReady}
use Rattle.su_part_inverse.specs.Steps.{inode_edit, restored, returned}
use Rattle.su_part_inverse.proofs.BackLemmas.{ready_brought}
use Rattle.su_part_inverse.proofs.Final.{inode_held}
use Rattle.su_part_inverse.proofs.OpenLemmas.{open_brought}
use Rattle.su_part_inverse.proofs.Reading.{meant_at}
use Rattle.su_part_inverse.proofs.ReadyLemmas.{each, ready_back}
use Rattle.su_part_inverse.proofs.Rolling.{given_back, taken}
use Rattle.su_part_inverse.proofs.undos.+restore.Goals as goal

pub returns-in-None-clause-ok : goal.returns-in-None-clause-ok
returns-in-None-clause-ok t c F T h held back ready is =
    let i = c.args.inverse.now in
    let none = nil_from_length c.args.inodes.now c.in-None.ensures.cases in
    let whole = c.as_slice.ensures.value in
    c.put_back.ensures.ok F T h (subst (λ rs. ReturnsAreReady [] i.inodes.items rs F T) (sym whole) (subst (λ ks. ReturnsAreReady ks i.inodes.items i.returns.items F T) none back)) (subst (λ ks. IsReady ks i F T c.args.forest.now) none ready)
    (subst (λ rs. returned rs i F ≡ T) (sym whole) (subst (λ ks. restored T ks i F ≡ T) none is))

pub returns-in-None-clause-err : goal.returns-in-None-clause-err
returns-in-None-clause-err t c F T h held back ready =
    let i = c.args.inverse.now in
    let none = nil_from_length c.args.inodes.now c.in-None.ensures.cases in
    c.put_back.ensures.err F T h (subst (λ rs. ReturnsAreReady [] i.inodes.items rs F T) (sym c.as_slice.ensures.value) (subst (λ ks. ReturnsAreReady ks i.inodes.items i.returns.items F T) none back))
    (subst (λ ks. IsReady ks i F T c.args.forest.now) none ready)

pub returns-in-None-clause-err_known : goal.returns-in-None-clause-err_known
returns-in-None-clause-err_known t c F T h held back ready =
    let i = c.args.inverse.now in
    let none = nil_from_length c.args.inodes.now c.in-None.ensures.cases in
    on_err c.put_back.result (λ known p. known (OfUser p.0 (AnInode p.1)))
    (c.put_back.ensures.err_known F T h (subst (λ rs. ReturnsAreReady [] i.inodes.items rs F T) (sym c.as_slice.ensures.value) (subst (λ ks. ReturnsAreReady ks i.inodes.items i.returns.items F T) none back))
    (subst (λ ks. IsReady ks i F T c.args.forest.now) none ready))

pub returns-in_default-clause-ok : goal.returns-in_default-clause-ok
returns-in_default-clause-ok t c F T h held back ready done =
    let i = c.args.inverse.now in
    let f = c.args.forest.now in
    let g = c.bring_back.new.forest in
    let first = c.in-Some.first.now in
    let rest = c.in-Some.rest.now in
    let is : c.args.inodes.now ≡ first ∷ rest = c.in-Some.ensures.cases.0 in
    let (one, more) = subst (AllByRecursion (HoldsInode T)) is held in
    let back' = ready_brought rest i.inodes.items first i.returns.items F T one (subst (λ ks. ReturnsAreReady ks i.inodes.items i.returns.items F T) is back) in
    let ready' = subst (λ ks. IsReady ks i F T f) is ready in
    let known = c.in_ok-was-in-Some.ensures.known F T h one in
    let added = c.in_ok-was-in-Some.ensures.added F T h one in
    c.in_default.ensures.ok (edit F (inode_edit T first)) T (c.in_ok-was-in-Some.ensures.ok F T h one) more back'
    (ready_back rest first F T f g (inode_held T first one) known added i.sizes.items i.resets.items (runs i) ready') (subst (λ ks. restored T ks i F ≡ T) is done)

pub returns-in-Err-clause-err : goal.returns-in-Err-clause-err
returns-in-Err-clause-err t c F T h held back ready =
    let i = c.args.inverse.now in
    let f = c.args.forest.now in
    let g = c.bring_back.new.forest in
    let first = c.in-Some.first.now in
    let rest = c.in-Some.rest.now in
    let is : c.args.inodes.now ≡ first ∷ rest = c.in-Some.ensures.cases.0 in
    let (one, more) = subst (AllByRecursion (HoldsInode T)) is held in
    let G = edit F (inode_edit T first) in
    let known = c.in_ok-was-in-Some.ensures.known F T h one in
    let added = c.in_ok-was-in-Some.ensures.added F T h one in
    let stands = c.in_ok-was-in-Some.ensures.ok F T h one in
    let back' = ready_brought rest i.inodes.items first i.returns.items F T one (subst (λ ks. ReturnsAreReady ks i.inodes.items i.returns.items F T) is back) in
    let ready' = ready_back rest first F T f g (inode_held T first one) known added i.sizes.items i.resets.items (runs i) (subst (λ ks. IsReady ks i F T f) is ready) in
    let mid = c.in-Err.ensures.err G T stands more back' ready' in
    let between = c.in-Err.ensures.err_known G T stands more back' ready' in
    subst (Stands c.give_back_inode.new.forest) (given_back F T first)
    (c.give_back_inode.ensures.stands F G mid (between first.place added) (c.in_ok-was-in-Some.ensures.was F h) (meant_at f F h first.place) (taken F T first))

pub returns-in-Err-clause-err_known : goal.returns-in-Err-clause-err_known
returns-in-Err-clause-err_known t c F T h held back ready p x =
    let i = c.args.inverse.now in
    let f = c.args.forest.now in
    let g = c.bring_back.new.forest in
    let first = c.in-Some.first.now in
    let rest = c.in-Some.rest.now in
    let is : c.args.inodes.now ≡ first ∷ rest = c.in-Some.ensures.cases.0 in
    let (one, more) = subst (AllByRecursion (HoldsInode T)) is held in
    let G = edit F (inode_edit T first) in
    let known = c.in_ok-was-in-Some.ensures.known F T h one in
    let added = c.in_ok-was-in-Some.ensures.added F T h one in
    let stands = c.in_ok-was-in-Some.ensures.ok F T h one in
    let back' = ready_brought rest i.inodes.items first i.returns.items F T one (subst (λ ks. ReturnsAreReady ks i.inodes.items i.returns.items F T) is back) in
    let ready' = ready_back rest first F T f g (inode_held T first one) known added i.sizes.items i.resets.items (runs i) (subst (λ ks. IsReady ks i F T f) is ready) in
    let mid = c.in-Err.ensures.err G T stands more back' ready' in
    let between = c.in-Err.ensures.err_known G T stands more back' ready' in
    subst (λ V. Knows V (OfUser p.0 (AnInode p.1)) c.give_back_inode.new.forest) (given_back F T first)
    (c.give_back_inode.ensures.known F G mid (between first.place added) (c.in_ok-was-in-Some.ensures.was F h) (meant_at f F h first.place) (taken F T first)
    (OfUser p.0 (AnInode p.1)) tt (between p (known (OfUser p.0 (AnInode p.1)) tt x)))

pub returns-in-None-clause-loaded : goal.returns-in-None-clause-loaded
returns-in-None-clause-loaded t c F T h held ready opens =
    let i = c.args.inverse.now in
    let none = nil_from_length c.args.inodes.now c.in-None.ensures.cases in
    c.put_back.ensures.loaded F T h (subst (λ ks. IsReady ks i F T c.args.forest.now) none ready)
    (subst (λ rs. AreOpen [] i.inodes.items rs i.sizes.items F c.args.forest.now) (sym c.as_slice.ensures.value) (subst (λ ks. AreOpen ks i.inodes.items i.returns.items i.sizes.items F c.args.forest.now) none opens))

pub returns-in_err-was-in-Some-clause-loaded : goal.returns-in_err-was-in-Some-clause-loaded
returns-in_err-was-in-Some-clause-loaded t c F T h held ready opens =
    let i = c.args.inverse.now in
    let first = c.in-Some.first.now in
    let rest = c.in-Some.rest.now in
    let is : c.args.inodes.now ≡ first ∷ rest = c.in-Some.ensures.cases.0 in
    let p = err_from_is_err_and c.from_residual.result c.from_residual.ensures.1 in
    rw (p.1, p.2) (c.in_err-was-in-Some.ensures.loaded F h (subst (λ ks. AreOpen ks i.inodes.items i.returns.items i.sizes.items F c.args.forest.now) is opens).inodes.0.loaded)

pub returns-in-Err-clause-loaded : goal.returns-in-Err-clause-loaded
returns-in-Err-clause-loaded t c F T h held ready opens =
    let i = c.args.inverse.now in
    let f = c.args.forest.now in
    let g = c.bring_back.new.forest in
    let first = c.in-Some.first.now in
    let rest = c.in-Some.rest.now in
    let is : c.args.inodes.now ≡ first ∷ rest = c.in-Some.ensures.cases.0 in
    let (one, more) = subst (AllByRecursion (HoldsInode T)) is held in
    let ready' = subst (λ ks. IsReady ks i F T f) is ready in
    let opens' = subst (λ ks. AreOpen ks i.inodes.items i.returns.items i.sizes.items F f) is opens in
    let known = c.in_ok-was-in-Some.ensures.known F T h one in
    let added = c.in_ok-was-in-Some.ensures.added F T h one in
    let stands = c.in_ok-was-in-Some.ensures.ok F T h one in
    let sizes = each (SizeIsReady (first ∷ rest) F T f) (HoldsSize T) (λ k r. r.held) i.sizes.items ready'.sizes in
    c.in-Err.ensures.loaded (edit F (inode_edit T first)) T stands more (ready_back rest first F T f g (inode_held T first one) known added i.sizes.items i.resets.items (runs i) ready')
    (open_brought rest i.inodes.items first F T f g opens'.inodes.0.among one h stands c.in_ok-was-in-Some.ensures.beside added i.returns.items i.sizes.items sizes opens')
