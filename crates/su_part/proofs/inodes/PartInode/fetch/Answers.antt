use Rattle.std.proofs.Common.{sym, subst}
use Rattle.su_part.specs.declared.inodes.PartContent.TheVariants.{Bytes as LoadedBytes, Names as LoadedNames}
use Rattle.su_part.specs.Part.{HasAllIn}
use Rattle.su_part.proofs.LoadLemmas.{loads_within}
use Rattle.su_part.proofs.FetchLemmas.{bytes_within, names_within}
use Rattle.su_part.proofs.inodes.PartInode.fetch.Goals as goal

pub returns-in-Bytes-clause-loads : goal.returns-in-Bytes-clause-loads
returns-in-Bytes-clause-loads g c =
    loads_within c.args.self.now (record { home = c.args.self.now.home; links = c.args.self.now.links; content = LoadedBytes c.fetch_bytes.new.bytes })
    (bytes_within c.args.self.now c.in-Bytes.bytes c.fetch_bytes.new.bytes c.in-Bytes.is)
    (subst (λ p. HasAllIn p (LoadedBytes c.fetch_bytes.new.bytes)) (sym c.in-Bytes.is) c.fetch_bytes.ensures.loads.keeps)
    c.fetch_bytes.ensures.loads

pub returns-in-Names-clause-loads : goal.returns-in-Names-clause-loads
returns-in-Names-clause-loads g c =
    loads_within c.args.self.now (record { home = c.args.self.now.home; links = c.args.self.now.links; content = LoadedNames c.fetch_names.new.names })
    (names_within c.args.self.now c.in-Names.names c.fetch_names.new.names c.in-Names.is)
    (subst (λ p. HasAllIn p (LoadedNames c.fetch_names.new.names)) (sym c.in-Names.is) c.fetch_names.ensures.loads.keeps)
    c.fetch_names.ensures.loads
