use Rattle.std.proofs.Common.{◌≡◌, false, true, refl, sym, subst, Result, Ok, Err, IfOk}
use Rattle.su_bytes.specs.declared.refusals.Refusal.{Refusal}
use Rattle.su_table.specs.Tree.{Tree}
use Rattle.su_op.specs.declared.areas.Area.{Area}
use Rattle.su_inverse.specs.Kept.{CanKeep, HoldsNothing}
use Rattle.su_inverse.specs.declared.resets.Reset.TheVariants.{Nothing as NothingReset}
use Rattle.su_inverse.proofs.HeldLemmas.{no_inode_held}
use Rattle.su_part_inverse.specs.Kept.{HoldsKept}
use Rattle.su_perform.specs.Loaded.{HasArea, wanted_for}
use Rattle.su_part_inverse.specs.declared.inverses.Kept.{Kept}
use Rattle.su_part_inverse.specs.declared.inverses.Kept.TheVariants.{Reset as ResetKept}
use Rattle.su_part_inverse.proofs.Reading.{links_held, open_inode, size_held, there_at}
use Rattle.su_part_inverse.proofs.inverses.keep.Goals as goal

-- that nothing is kept is right where nothing is
nothing_kept : (T : Tree) (a : Area) (r : Result Kept Refusal) → IfOk r (λ k. k ≡ ResetKept (NothingReset a)) → HoldsNothing T a → IfOk r (λ k. HoldsKept T k)
nothing_kept T a (Ok k) e held = subst (HoldsKept T) (sym e) held
nothing_kept T a (Err e) _ held = tt

pub returns-then-not-has_inode-clause-loaded : goal.returns-then-not-has_inode-clause-loaded
returns-then-not-has_inode-clause-loaded c T h has =
    let f = c.args.forest.now in
    let opens = subst (HasArea T f) c.in-Inode.is has in
    absurd (let z : false ≡ true = c.if-not-has_inode.ensures.told T h (open_inode f T h c.in-Inode.place (wanted_for c.in-Inode.part) opens) in cc)

pub returns-in-Pointer-clause-loaded : goal.returns-in-Pointer-clause-loaded
returns-in-Pointer-clause-loaded c T h has = c.keep_pointer.ensures.loaded T (subst (HasArea T c.args.forest.now) c.in-Pointer.is has)

pub returns-in-Links-clause-holds : goal.returns-in-Links-clause-holds
returns-in-Links-clause-holds c T h can =
    let p = c.in-Inode.place in
    links_held T p _ c.links.result (c.in-Some.ensures.there T h (there_at c.args.forest.now T h p (c.if-not-has_inode.ensures.found refl))) c.links.ensures

pub returns-in-Size-clause-holds : goal.returns-in-Size-clause-holds
returns-in-Size-clause-holds c T h can =
    let p = c.in-Inode.place in
    size_held T p _ c.size.result (c.in-Some.ensures.there T h (there_at c.args.forest.now T h p (c.if-not-has_inode.ensures.found refl))) c.size.ensures

pub returns-in-None-clause-holds : goal.returns-in-None-clause-holds
returns-in-None-clause-holds c T h can =
    let p = c.in-Inode.place in
    let none = c.in-None.ensures.there T h (there_at c.args.forest.now T h p (c.if-not-has_inode.ensures.found refl)) in
    nothing_kept T c.args.area.now _ c.nothing-in-None.ensures.value
    (subst (HoldsNothing T) (sym c.in-Inode.is) (no_inode_held T p c.in-Inode.part (sym none) (subst (CanKeep T) c.in-Inode.is can)))
