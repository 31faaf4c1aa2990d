use Rattle.std.proofs.Common.{◌∙◌, ap, inr, arith}
use Rattle.std.proofs.lemmas.List.{nil_from_length}
use Rattle.su_draft.specs.Path.{with_name}
use Rattle.su_read_draft.proofs.NameLists.{with_name-last, with_name-root}
use Rattle.su_read_draft.proofs.paths.last_name.Goals as goal

pub returns-in-Some : goal.returns-in-Some
returns-in-Some c = ap with_name c.in-Some.ensures.items ∙ with_name-last c.pop.new.self.items c.in-Some.name

pub returns-in-None : goal.returns-in-None
returns-in-None c = inr (ap with_name (nil_from_length c.args.names.items (omega (arith, c.args.names.ok.0, c.in-None.ensures.cases.0))) ∙ with_name-root)
