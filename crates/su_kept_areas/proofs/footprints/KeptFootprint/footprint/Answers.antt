use Rattle.su_kept_areas.proofs.footprints.KeptFootprint.footprint.Goals as goal

pub returns-clause-reads : goal.returns-clause-reads
returns-clause-reads c = c.in_ok-reads.ensures.value c.args.self.now.reads.items c.bytes_read.ensures

pub returns-clause-writes : goal.returns-clause-writes
returns-clause-writes c = c.in_ok-writes.ensures.value c.args.self.now.writes.items c.bytes_written.ensures
