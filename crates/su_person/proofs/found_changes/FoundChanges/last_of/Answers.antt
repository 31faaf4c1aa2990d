use Rattle.std.proofs.Common.{Some, None}
use Rattle.su_person.proofs.FoundLemmas.{found_told}
use Rattle.su_person.proofs.found_changes.FoundChanges.last_of.Goals as goal

pub returns-in-Some : goal.returns-in-Some
returns-in-Some c = found_told c.args.self.now.lasts c.args.file.now c.key_of.result (Some c.in-Some.last.now) c.key_of.ensures c.in-Some.ensures.value

pub returns-in-None : goal.returns-in-None
returns-in-None c = found_told c.args.self.now.lasts c.args.file.now c.key_of.result None c.key_of.ensures c.in-None.ensures.value
