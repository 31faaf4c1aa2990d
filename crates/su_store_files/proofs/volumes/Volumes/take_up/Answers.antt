use Rattle.su_store_files.proofs.volumes.Volumes.take_up.Goals as goal

pub returns-then-not-is_empty-clause-held : goal.returns-then-not-is_empty-clause-held
returns-then-not-is_empty-clause-held g c records held = c.halt.ensures.held records (c.advance.ensures.held records held)
