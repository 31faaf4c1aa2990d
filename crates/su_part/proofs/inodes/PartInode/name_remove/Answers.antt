use Rattle.std.proofs.Common.{None}
use Rattle.su_part.proofs.KnownLemmas.{known_bytes_same, known_name_taken, names_taken}
use Rattle.su_part.proofs.inodes.PartInode.name_remove.Goals as goal

pub returns-in-Names-clause-stands : goal.returns-in-Names-clause-stands
returns-in-Names-clause-stands c i h known =
    names_taken c.args.self.now i h c.in-Names.names c.in-Names.is c.take.new.self c.args.name.now c.byte_count-bytes.ensures.key known c.take.ensures.stands

pub returns-in-Names-clause-known : goal.returns-in-Names-clause-known
returns-in-Names-clause-known c i h known =
    known_name_taken c.args.self.now i h c.in-Names.names c.in-Names.is c.take.new.self c.args.name.now c.byte_count-bytes.ensures.key known c.take.ensures.stands c.take.ensures.stays

pub returns-in-Bytes-clause-known : goal.returns-in-Bytes-clause-known
returns-in-Bytes-clause-known c i h known = known_bytes_same c.args.self.now i h _ c.in-Bytes.is c.args.name.now None
