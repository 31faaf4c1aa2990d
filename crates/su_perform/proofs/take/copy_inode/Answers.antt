use Rattle.std.proofs.Common.{sym, subst}
use Rattle.su_op.specs.Take.{copy_of}
use Rattle.su_part.specs.Known.Want.{AnInode}
use Rattle.su_part_forest.specs.Forest.{Stands}
use Rattle.su_part_forest.specs.Known.{Knows}
use Rattle.su_part_forest.specs.Known.Want.{OfUser}
use Rattle.su_part_forest.proofs.EditLifting.{small_inum}
use Rattle.su_table.specs.Edit.{Edit.Inodes, edit}
use Rattle.su_perform.proofs.PerformLemmas.{copied, knows_has, none_copied, none_gone}
use Rattle.su_perform.proofs.take.copy_inode.Goals as goal

pub returns-in_ok-exchange_inode-in-Some-clause-ok : goal.returns-in_ok-exchange_inode-in-Some-clause-ok
returns-in_ok-exchange_inode-in-Some-clause-ok c T h can =
    let (i, at, stands, meant) = copied c.args.forest.now T h c.args.place.now _ _ (c.in_ok-inode.ensures.copied T h can.there) c.in-Some.is in
    subst (λ o. Stands c.exchange_inode.new.self (edit T (Inodes c.args.other (copy_of o)))) (sym at) (c.in_ok-exchange_inode-in-Some.ensures.ok T i h stands meant)

pub returns-in_ok-exchange_inode-in-Some-clause-added : goal.returns-in_ok-exchange_inode-in-Some-clause-added
returns-in_ok-exchange_inode-in-Some-clause-added c T h can =
    let (i, at, stands, meant) = copied c.args.forest.now T h c.args.place.now _ _ (c.in_ok-inode.ensures.copied T h can.there) c.in-Some.is in
    subst (λ o. Knows (edit T (Inodes c.args.other (copy_of o))) (OfUser c.args.other.0 (AnInode c.args.other.1)) c.exchange_inode.new.self) (sym at) (c.in_ok-exchange_inode-in-Some.ensures.added T i h stands meant)

pub returns-in-None-clause-ok : goal.returns-in-None-clause-ok
returns-in-None-clause-ok c T h can =
    let none = none_copied T c.args.place.now _ (c.in_ok-inode.ensures.copied T h can.there) c.in-None.is in
    subst (λ o. Stands c.args.forest.now (edit T (Inodes c.args.other (copy_of o)))) (sym none) (subst (Stands c.args.forest.now) (sym (none_gone T c.args.other can.free)) h)

pub returns-in-None-clause-added : goal.returns-in-None-clause-added
returns-in-None-clause-added c T h can =
    let f = c.args.forest.now in
    let want = OfUser c.args.other.0 (AnInode c.args.other.1) in
    let small = small_inum c.number-number.result c.args.other.1 c.number-number.ensures.range.1 c.number-number.ensures.value in
    let none = none_copied T c.args.place.now _ (c.in_ok-inode.ensures.copied T h can.there) c.in-None.is in
    subst (λ o. Knows (edit T (Inodes c.args.other (copy_of o))) want f) (sym none) (subst (λ S. Knows S want f) (sym (none_gone T c.args.other can.free)) (knows_has f T h c.args.other small can.inode))
