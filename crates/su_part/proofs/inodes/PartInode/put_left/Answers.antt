use Rattle.std.proofs.Common.{◌+◌, length}
use Rattle.su_part.proofs.LeftLemmas.{bytes_known_but, bytes_left, names_known_but, names_left}
use Rattle.su_part.proofs.inodes.PartInode.put_left.Goals as goal

pub returns-in-Bytes-clause-stands : goal.returns-in-Bytes-clause-stands
returns-in-Bytes-clause-stands c i xs h le is =
    bytes_left c.args.first xs c.args.digests.now c.args.self.now i h c.in-Bytes.bytes c.in-Bytes.is c.put_left.new.self (λ bs s low ds. c.put_left.ensures.stands bs xs s low ds) le is

pub returns-in-Bytes-clause-known : goal.returns-in-Bytes-clause-known
returns-in-Bytes-clause-known c i xs h le =
    bytes_known_but c.args.first xs (c.args.first + length c.args.digests.now) c.args.self.now i h c.in-Bytes.bytes c.in-Bytes.is c.put_left.new.self c.put_left.ensures.leaves le

pub returns-in-Names-clause-stands : goal.returns-in-Names-clause-stands
returns-in-Names-clause-stands c i xs h le is = names_left c.args.first xs c.args.self.now i h _ c.in-Names.is

pub returns-in-Names-clause-known : goal.returns-in-Names-clause-known
returns-in-Names-clause-known c i xs h le = names_known_but c.args.first xs (c.args.first + length c.args.digests.now) c.args.self.now i h _ c.in-Names.is
