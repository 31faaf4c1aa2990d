use Rattle.std.proofs.Common.{◌≤◌, length, subst}
use Rattle.su_node.specs.Inode.{Content, size_of}
use Rattle.su_node.specs.InodeChange.{with_size}
use Rattle.su_part.proofs.ContentLemmas.{bytes_cut, names_not_cut}
use Rattle.su_part.proofs.KnownLemmas.{known_bytes, known_cut, known_names_same}
use Rattle.su_part.proofs.inodes.PartInode.cut.Goals as goal

pub returns-in-Bytes-clause-stands : goal.returns-in-Bytes-clause-stands
returns-in-Bytes-clause-stands c i h le = bytes_cut c.args.self.now i h c.in-Bytes.bytes c.in-Bytes.is c.cut.new.self c.args.size le c.cut.ensures.stands

pub returns-in-Bytes-clause-known : goal.returns-in-Bytes-clause-known
returns-in-Bytes-clause-known c i h le =
    known_bytes c.args.self.now i h c.in-Bytes.bytes c.in-Bytes.is c.cut.new.self (with_size c.args.size)
    (λ bs e s. let within : c.args.size ≤ length bs = subst (λ (x : Content). c.args.size ≤ size_of x) e le in known_cut c.in-Bytes.bytes c.cut.new.self bs c.args.size (c.cut.ensures.stands bs s within) (c.cut.ensures.keeps bs s within) within)

pub returns-in-Names-clause-stands : goal.returns-in-Names-clause-stands
returns-in-Names-clause-stands c i h le = names_not_cut c.args.self.now i h _ c.in-Names.is c.args.size

pub returns-in-Names-clause-known : goal.returns-in-Names-clause-known
returns-in-Names-clause-known c i h le = known_names_same c.args.self.now i h _ c.in-Names.is (with_size c.args.size)
