use Rattle.std.specs.Prelude.{slice_get}
use Rattle.su_bytes.specs.Principal.{is_user, is_group}
use Rattle.su_part.specs.Part.{StandsUser}
use Rattle.su_group_part.specs.Part.{StandsGroup}
use Rattle.su_part_forest.specs.Copy.{IsUserCopy, IsGroupCopy}
use Rattle.su_part_forest.proofs.CopyLemmas.{copies_at, part_copied, inode_copied, name_copied, pointer_copied}
use Rattle.su_part_forest.proofs.forests.PartForest.copy.Goals as goal

pub returns-clause-stands : goal.returns-clause-stands
returns-clause-stands c T h = record {
  users = λ u. part_copied IsUserCopy (λ p. StandsUser u p T) (λ p q r s. r.stands u T s) (is_user u) _ _ (copies_at IsUserCopy _ _ c.in_ok-users.ensures.copied u) (h.users u);
  groups = λ g. part_copied IsGroupCopy (λ p. StandsGroup g p T) (λ p q r s. r.stands g T s) (is_group g) _ _ (copies_at IsGroupCopy _ _ c.in_ok-groups.ensures.copied g) (h.groups g);
  no_user = h.no_user;
  no_group = h.no_group;
}

pub returns-clause-inodes : goal.returns-clause-inodes
returns-clause-inodes c sound p has =
    inode_copied sound.0 p.0 p.1 (is_user p.0) (slice_get c.args.self.now.users.items p.0) _ (sound.1.users p.0) (copies_at IsUserCopy _ _ c.in_ok-users.ensures.copied p.0) has

pub returns-clause-names : goal.returns-clause-names
returns-clause-names c sound p x has =
    name_copied sound.0 x p.0 p.1 (is_user p.0) (slice_get c.args.self.now.users.items p.0) _ (sound.1.users p.0) (copies_at IsUserCopy _ _ c.in_ok-users.ensures.copied p.0) has

pub returns-clause-pointers : goal.returns-clause-pointers
returns-clause-pointers c g has =
    pointer_copied g.1 (slice_get c.args.self.now.groups.items g.0) _ (copies_at IsGroupCopy _ _ c.in_ok-groups.ensures.copied g.0) has
