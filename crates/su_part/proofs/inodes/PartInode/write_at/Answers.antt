use Rattle.std.proofs.Common.{◌≡◌, ◌+◌, ◌≤◌, true, false, length, subst, sym}
use Rattle.su_node.specs.InodeChange.{with_bytes_at}
use Rattle.su_part.specs.Part.{HasAllIn}
use Rattle.su_part.specs.declared.inodes.PartContent.TheVariants.{Bytes as LoadedBytes}
use Rattle.su_part.proofs.ContentLemmas.{all_in_itself, bytes_written}
use Rattle.su_part.proofs.KnownLemmas.{bytes_size, known_bytes, known_names_same}
use Rattle.su_part.proofs.inodes.PartInode.write_at.Goals as goal

pub returns-in_ok-write_at-in-Bytes-clause-ok : goal.returns-in_ok-write_at-in-Bytes-clause-ok
returns-in_ok-write_at-in-Bytes-clause-ok c i h = bytes_written c.args.self.now i h c.in-Bytes.blocks c.in-Bytes.is c.write_at.new.self c.args.off c.args.bytes.now c.in_ok-write_at-in-Bytes.ensures.ok

pub returns-in_ok-write_at-in-Bytes-clause-known : goal.returns-in_ok-write_at-in-Bytes-clause-known
returns-in_ok-write_at-in-Bytes-clause-known c i h =
    known_bytes c.args.self.now i h c.in-Bytes.blocks c.in-Bytes.is c.write_at.new.self (with_bytes_at c.args.off c.args.bytes.now) (λ bs e s. c.in_ok-write_at-in-Bytes.ensures.known bs s)

pub returns-in_err-write_at-in-Bytes-clause-succeeds : goal.returns-in_err-write_at-in-Bytes-clause-succeeds
returns-in_err-write_at-in-Bytes-clause-succeeds c i h le =
    let within = subst (λ n. c.args.off + length c.args.bytes.now ≤ n) (sym (bytes_size c.args.self.now i h c.in-Bytes.blocks c.in-Bytes.is)) le in
    absurd (let z : false ≡ true = c.in_err-write_at-in-Bytes.ensures.succeeds within in cc)

pub returns-in-Names-clause-known : goal.returns-in-Names-clause-known
returns-in-Names-clause-known c i h = known_names_same c.args.self.now i h _ c.in-Names.is (with_bytes_at c.args.off c.args.bytes.now)

pub returns-in_ok-write_at-in-Bytes-clause-all : goal.returns-in_ok-write_at-in-Bytes-clause-all
returns-in_ok-write_at-in-Bytes-clause-all c i h le =
    let within = subst (λ n. c.args.off + length c.args.bytes.now ≤ n) (sym (bytes_size c.args.self.now i h c.in-Bytes.blocks c.in-Bytes.is)) le in
    subst (λ p. HasAllIn p (LoadedBytes c.write_at.new.self)) (sym c.in-Bytes.is) (c.write_at.ensures.all within)

pub returns-in_err-write_at-in-Bytes-clause-all : goal.returns-in_err-write_at-in-Bytes-clause-all
returns-in_err-write_at-in-Bytes-clause-all c i h le =
    let within = subst (λ n. c.args.off + length c.args.bytes.now ≤ n) (sym (bytes_size c.args.self.now i h c.in-Bytes.blocks c.in-Bytes.is)) le in
    subst (λ p. HasAllIn p (LoadedBytes c.write_at.new.self)) (sym c.in-Bytes.is) (c.write_at.ensures.all within)

pub returns-in-Names-clause-all : goal.returns-in-Names-clause-all
returns-in-Names-clause-all c i h le = all_in_itself c.args.self.now.content
