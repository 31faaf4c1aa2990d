use Rattle.std.proofs.Common.{refl, sym, ap}
use Rattle.std.specs.Option.{is_some}
use Rattle.su_part.proofs.LoadLemmas.{loads_on, loads_within}
use Rattle.su_part.proofs.FetchLemmas.{inode_within}
use Rattle.su_part.proofs.UserLemmas.{all_on, all_with_more}
use Rattle.su_part.proofs.users.UserPart.fetch.Goals as goal

pub returns-in-Some-clause-loads : goal.returns-in-Some-clause-loads
returns-in-Some-clause-loads g c =
    loads_on all_on g.met.S.BlockSource.follows_on c.load_inode.ensures.loads
    (loads_within c.load_inode.new.self (record { table = c.load_inode.new.self.table; inodes = c.get_mut.follows.lender c.fetch.new.self; alloc = c.load_inode.new.self.alloc })
    (inode_within c.number.result c.in-Some.inode.now c.fetch.new.self c.load_inode.new.self (record { table = c.load_inode.new.self.table; inodes = c.get_mut.follows.lender c.fetch.new.self; alloc = c.load_inode.new.self.alloc }) refl c.in-Some.ensures.value ((c.get_mut.follows.holds c.fetch.new.self).3 (ap is_some (sym c.in-Some.ensures.value))).0)
    (all_with_more c.load_inode.new.self (record { table = c.load_inode.new.self.table; inodes = c.get_mut.follows.lender c.fetch.new.self; alloc = c.load_inode.new.self.alloc }) c.number.result c.in-Some.inode.now c.fetch.new.self refl c.in-Some.ensures.value c.fetch.ensures.loads.keeps ((c.get_mut.follows.holds c.fetch.new.self).3 (ap is_some (sym c.in-Some.ensures.value))).0)
    c.fetch.ensures.loads)
