use Rattle.std.proofs.Common.{Some, subst}
use Rattle.su_part_forest.specs.Forest.{Stands}
use Rattle.su_node.specs.InodeChange.InodeChange.{Made}
use Rattle.su_part.specs.Known.Want.{AnInode}
use Rattle.su_part_forest.specs.Known.{Knows}
use Rattle.su_part_forest.specs.Known.Want.{OfUser}
use Rattle.su_table.specs.Edit.{Edit.Inodes, edit}
use Rattle.su_perform.specs.Performed.{created_at}
use Rattle.su_perform.proofs.PerformLemmas.{made_gone, pointers_again}
use Rattle.su_perform.proofs.create.AcceptedCreate.add_file.Goals as goal

pub returns-in-Err-clause-loaded : goal.returns-in-Err-clause-loaded
returns-in-Err-clause-loaded c T h is =
    let x = c.args.self.now in
    let made = c.in_ok-make_inode.ensures in
    let V = edit T (Inodes (created_at x) (Made x.create.now.file x.create.now.kind)) in
    c.in-Err.ensures.loaded V (pointers_again c.args.forest.now c.make_inode.new.self T V (made.keeps T h is.free) h (made.ok T h) x.create.now.file (Some (created_at x)) is.pointer)

pub returns-in-Err-clause-err : goal.returns-in-Err-clause-err
returns-in-Err-clause-err c T h is =
    let x = c.args.self.now in
    let made = c.in_ok-make_inode.ensures in
    let stands = c.in-Err.ensures.err _ (made.ok T h) in
    let known = c.in-Err.ensures.err_known _ (made.ok T h) (OfUser x.author (AnInode x.create.now.body)) (made.added T h) in
    subst (Stands c.remove_inode.new.self) (made_gone T (created_at x) x.create.now.file x.create.now.kind is.free) (c.remove_inode.ensures.stands _ stands known)

pub returns-in-Err-clause-err_known : goal.returns-in-Err-clause-err_known
returns-in-Err-clause-err_known c T h is w k =
    let x = c.args.self.now in
    let made = c.in_ok-make_inode.ensures in
    let stands = c.in-Err.ensures.err _ (made.ok T h) in
    let known = c.in-Err.ensures.err_known _ (made.ok T h) (OfUser x.author (AnInode x.create.now.body)) (made.added T h) in
    let before = c.in-Err.ensures.err_known _ (made.ok T h) w (made.known T h w k) in
    subst (λ S. Knows S w c.remove_inode.new.self) (made_gone T (created_at x) x.create.now.file x.create.now.kind is.free) (c.remove_inode.ensures.known _ stands known w before)
