use Rattle.std.proofs.Common.{◌∙◌, ◌++◌, ◌∷◌, [], ap, subst, sym}
use Rattle.su_op.specs.declared.areas.Area.TheVariants.{Inode as InodeArea, Pointer as PointerArea}
use Rattle.su_stored_forest.specs.Freed.{free_or_in, unled_or_in}
use Rattle.su_stored_forest.specs.Fronts.{IsNoFreerBeside}
use Rattle.su_stored_forest.proofs.FreedLemmas.{all_weaker, inode_freed, inode_leads, pointer_freed, pointer_stays}
use Rattle.su_stored_forest.proofs.stored.StoredForest.note_area.Goals as goal

pub returns-in-Inode-default-Kind-clause-taken : goal.returns-in-Inode-default-Kind-clause-taken
returns-in-Inode-default-Kind-clause-taken g c T before h =
    let p = c.in-Inode-default-Kind.place in
    let a = c.in-Inode-default-Kind.field-1 in
    let w = before ++ InodeArea p a ∷ [] in
    rw c.in-Inode-default-Kind.is
    (record {
      users = c.note_free.ensures (free_or_in before T) (free_or_in w T) h.users
          (subst (λ q. IsNoFreerBeside q (free_or_in before T) (free_or_in w T)) (sym (ap (λ u. (u, p.1)) (c.from.ensures ∙ c.number.ensures.value))) (inode_freed T before p a));
      groups = all_weaker (unled_or_in before T) (unled_or_in w T) c.args.self.now.groups.items (inode_leads T before p a) h.groups;
    })

pub returns-in-Pointer-clause-taken : goal.returns-in-Pointer-clause-taken
returns-in-Pointer-clause-taken g c T before h =
    let p = c.in-Pointer.file in
    let w = before ++ PointerArea p ∷ [] in
    rw c.in-Pointer.is
    (record {
      users = all_weaker (free_or_in before T) (free_or_in w T) c.args.self.now.users.items (pointer_stays T before p) h.users;
      groups = c.note_free-in-Pointer.ensures (unled_or_in before T) (unled_or_in w T) h.groups
          (subst (λ q. IsNoFreerBeside q (unled_or_in before T) (unled_or_in w T)) (sym (ap (λ u. (u, p.1)) (c.from-in-Pointer.ensures ∙ c.number-in-Pointer.ensures.value))) (pointer_freed T before p));
    })
