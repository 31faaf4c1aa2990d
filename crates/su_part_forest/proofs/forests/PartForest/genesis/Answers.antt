use Rattle.std.specs.Prelude.{slice_get}
use Rattle.su_part.specs.Part.{HasAt, HasInode, HasNameAt as HasNameOf, IsAllIn}
use Rattle.su_part_forest.proofs.FreshLemmas.{each_part, names_of_all, no_inode, no_pointer, other_group, other_user}
use Rattle.su_part_forest.proofs.forests.PartForest.genesis.Goals as goal

pub returns-clause-value : goal.returns-clause-value
returns-clause-value c = record {
  users = c.in_ok-users.ensures.stands;
  groups = c.in_ok-groups.ensures.stands;
  no_user = λ u n none. no_inode u n (other_user u none);
  no_group = λ g n none. no_pointer g n (other_group g none);
}

pub returns-clause-inodes : goal.returns-clause-inodes
returns-clause-inodes c p =
    each_part (HasAt p.1 (λ i. IsAllIn i.content)) (HasInode p.1) (slice_get c.in_ok-users.users.items p.0) (λ q h. h.inode) (c.in_ok-users.ensures.all p.0 p.1)

pub returns-clause-names : goal.returns-clause-names
returns-clause-names c p x =
    each_part (HasAt p.1 (λ i. IsAllIn i.content)) (HasNameOf p.1 x) (slice_get c.in_ok-users.users.items p.0) (λ q h. names_of_all x p.1 q h) (c.in_ok-users.ensures.all p.0 p.1)
