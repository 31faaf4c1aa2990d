use Rattle.su_store_files.proofs.volumes.Volumes.go_on.Goals as goal

pub returns-in-Err-clause-held : goal.returns-in-Err-clause-held
returns-in-Err-clause-held g c anew records held = c.halt.ensures.held records (c.in-Err.ensures.same records held)
