use Rattle.std.proofs.Common.{◌≡◌, refl, sym, ap, Some}
use Rattle.std.specs.Option.{is_some}
use Rattle.su_part.specs.declared.users.UserPart.{UserPart}
use Rattle.su_part.specs.Part.{at_number}
use Rattle.su_part.proofs.ShedParts.{inode_sheds, put_there_took}
use Rattle.su_part.proofs.UserLemmas.{put_there}
use Rattle.su_part.proofs.users.UserPart.put_inode_items.Goals as goal

pub returns-clause-sheds : goal.returns-clause-sheds
returns-clause-sheds g c =
    let after : UserPart = record { table = c.args.self.now.table; inodes = c.get_mut.follows.lender c.shed.new.self; alloc = c.args.self.now.alloc } in
    inode_sheds c.args.number c.in-Some.inode.now c.shed.new.self c.args.self.now after refl c.in-Some.ensures.value ((c.get_mut.follows.holds c.shed.new.self).3 (ap is_some (sym c.in-Some.ensures.value))).0 c.shed.ensures.sheds

pub returns-clause-put : goal.returns-clause-put
returns-clause-put g c =
    let after : UserPart = record { table = c.args.self.now.table; inodes = c.get_mut.follows.lender c.shed.new.self; alloc = c.args.self.now.alloc } in
    let there : at_number after.inodes.entries c.args.number ≡ Some c.shed.new.self = put_there c.args.self.now.inodes.entries after.inodes.entries c.args.number c.shed.new.self ((c.get_mut.follows.holds c.shed.new.self).3 (ap is_some (sym c.in-Some.ensures.value))).0 in
    put_there_took c.shed.result (at_number after.inodes.entries c.args.number) c.in-Some.inode.now c.shed.new.self there c.shed.ensures.sheds c.shed.ensures.put

pub returns-clause-there : goal.returns-clause-there
returns-clause-there g c =
    let after : UserPart = record { table = c.args.self.now.table; inodes = c.get_mut.follows.lender c.shed.new.self; alloc = c.args.self.now.alloc } in
    ap is_some (put_there c.args.self.now.inodes.entries after.inodes.entries c.args.number c.shed.new.self ((c.get_mut.follows.holds c.shed.new.self).3 (ap is_some (sym c.in-Some.ensures.value))).0)
