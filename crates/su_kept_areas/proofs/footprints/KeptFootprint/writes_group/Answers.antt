use Rattle.su_kept_areas.proofs.footprints.KeptFootprint.writes_group.Goals as goal

pub returns : goal.returns
returns c = c.carries.ensures c.args.self.now.writes.items c.bytes_written.ensures
