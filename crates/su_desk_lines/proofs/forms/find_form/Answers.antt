use Rattle.su_desk_lines.proofs.FoundForms.{row_found}
use Rattle.su_desk_lines.proofs.forms.find_form.Goals as goal

pub returns : goal.returns
returns g c = row_found c.args.forms.now c.args.word.now c.first_form.result c.first_form.ensures
