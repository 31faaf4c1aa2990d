use Rattle.std.proofs.Common.{◌≡◌, ◌∙◌, Bool, true, false, not, Some, None, sym, ap}
use Rattle.std.specs.Option.{is_some}
use Rattle.su_person.proofs.FoundLemmas.{missing_told}
use Rattle.su_person.proofs.found_changes.FoundChanges.is_missing.Goals as goal

none_told : (there answer : Bool) → there ≡ not answer → answer ≡ not there
none_told there true is = sym (ap not is)
none_told there false is = sym (ap not is)

pub returns-in-Some : goal.returns-in-Some
returns-in-Some c =
    none_told (is_some c.in-Some.last.now) c.is_none.result c.is_none.ensures
    ∙ missing_told c.args.self.now.lasts c.args.file.now c.key_of.result (Some c.in-Some.last.now) c.key_of.ensures c.in-Some.ensures.value

pub returns-in-None : goal.returns-in-None
returns-in-None c = missing_told c.args.self.now.lasts c.args.file.now c.key_of.result None c.key_of.ensures c.in-None.ensures.value
