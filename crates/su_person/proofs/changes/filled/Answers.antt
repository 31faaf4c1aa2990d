use Rattle.su_desk.specs.declared.fillings.Filling.TheVariants.{Makes, Edits}
use Rattle.su_person.proofs.FillingLemmas.{told}
use Rattle.su_person.proofs.changes.filled.Goals as goal

pub returns-in-Makes : goal.returns-in-Makes
returns-in-Makes c = λ f. told f c.args.entry.now.change (Makes c.in-Makes.file) c.in-Makes.ensures

pub returns-in-Edits : goal.returns-in-Edits
returns-in-Edits c = λ f. told f c.args.entry.now.change (Edits c.in-Edits.file) c.in-Edits.ensures
