use Rattle.std.proofs.Common.{◌≡◌, refl}
use Rattle.std.specs.Prelude.{Err}
use Rattle.std.proofs.lemmas.Result.{err_from_is_err_and}
use Rattle.su_part.specs.declared.users.UserPart.{UserPart}
use Rattle.su_part.proofs.ShedLemmas.{shed_handed_on}
use Rattle.su_part.proofs.ShedParts.{inode_left}
use Rattle.su_part.proofs.users.UserPart.shed_inode.Goals as goal

pub returns-in_err-put_inode_items-clause-sheds : goal.returns-in_err-put_inode_items-clause-sheds
returns-in_err-put_inode_items-clause-sheds g c =
    let p = err_from_is_err_and c.from_residual.result c.from_residual.ensures.1 in
    let is : c.put_inode_items.result ≡ Err p.0 = cc (c.in_err-put_inode_items.was, p.2) in
    shed_handed_on p.0 is p.1 c.put_inode_items.ensures.sheds

pub returns-clause-sheds : goal.returns-clause-sheds
returns-clause-sheds g c =
    let q = c.put_inode_items.new.self in
    let w : UserPart = record { table = q.table; inodes = c.remove.new.self; alloc = q.alloc } in
    inode_left c.args.number c.args.self.now q w refl c.remove.ensures.updates.0 c.in_ok-put_inode_items.ensures.put c.in_ok-put_inode_items.ensures.sheds
