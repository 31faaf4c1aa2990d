use Rattle.std.proofs.Common.{◌≡◌, Some, subst}
use Rattle.std.specs.FinMap.{get}
use Rattle.su_bytes.specs.Place.{Place}
use Rattle.su_bytes.specs.declared.refusals.Refusal.TheVariants.{NoMemory}
use Rattle.su_op.specs.Take.{copy_of}
use Rattle.su_op.proofs.TakeLemmas.{copied_back}
use Rattle.su_part.specs.Known.Want.{AnInode}
use Rattle.su_part_forest.specs.Forest.{Stands}
use Rattle.su_part_forest.specs.Known.Want.{OfUser}
use Rattle.su_table.specs.Edit.{Edit.Inodes, edit}
use Rattle.su_perform.proofs.PerformLemmas.{can_copy, handed_on, pointers_again, take_pointer}
use Rattle.su_perform.proofs.take.AcceptedTake.perform.Goals as goal

pub returns-in_err-copy_inode-clause-loaded : goal.returns-in_err-copy_inode-clause-loaded
returns-in_err-copy_inode-clause-loaded c T h free has =
    handed_on (λ e. e ≡ NoMemory) _ _ c.from_residual.ensures.1 (c.in_err-copy_inode.ensures.loaded T h (can_copy c.args.self.now c.args.forest.now T h free has))

pub returns-in_err-copy_inode-clause-err : goal.returns-in_err-copy_inode-clause-err
returns-in_err-copy_inode-clause-err c T h free has =
    handed_on (λ e. Stands c.copy_inode.new.forest T) _ _ c.from_residual.ensures.1 (c.in_err-copy_inode.ensures.err T h (can_copy c.args.self.now c.args.forest.now T h free has))

pub returns-in-Err-clause-loaded : goal.returns-in-Err-clause-loaded
returns-in-Err-clause-loaded c T h free has =
    let x = c.args.self.now in
    let f = c.args.forest.now in
    let to : Place = (x.author, x.take.now.body) in
    let V = edit T (Inodes to (copy_of (get T.inodes x.place))) in
    let can = can_copy x f T h free has in
    let copied = c.in_ok-copy_inode.ensures in
    c.in-Err.ensures.loaded V (pointers_again f c.copy_inode.new.forest T V (copied.keeps T h can) h (copied.ok T h can) x.take.now.file (Some to) (take_pointer x f T has))

pub returns-in-Err-clause-err : goal.returns-in-Err-clause-err
returns-in-Err-clause-err c T h free has =
    let x = c.args.self.now in
    let to : Place = (x.author, x.take.now.body) in
    let V = edit T (Inodes to (copy_of (get T.inodes x.place))) in
    let can = can_copy x c.args.forest.now T h free has in
    let copied = c.in_ok-copy_inode.ensures in
    let known = c.in-Err.ensures.err_known V (copied.ok T h can) (OfUser x.author (AnInode x.take.now.body)) (copied.added T h can) in
    subst (Stands c.remove_inode.new.self) (copied_back T to (get T.inodes x.place) free) (c.remove_inode.ensures.stands V (c.in-Err.ensures.err V (copied.ok T h can)) known)

pub returns-clause-ok : goal.returns-clause-ok
returns-clause-ok c T h free has =
    let x = c.args.self.now in
    let to : Place = (x.author, x.take.now.body) in
    c.in_default.ensures.ok (edit T (Inodes to (copy_of (get T.inodes x.place)))) (c.in_ok-copy_inode.ensures.ok T h (can_copy x c.args.forest.now T h free has))
