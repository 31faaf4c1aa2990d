use Rattle.std.specs.String.{string_bytes}
use Rattle.su_spelling.specs.Shown.{shown}
use Rattle.su_history_text.proofs.Staying.{stays-name, stays-told}
use Rattle.su_history_text.proofs.parts.shown_text.Goals as goal

pub returns-clause-line : goal.returns-clause-line
returns-clause-line c = stays-told string_bytes c.shown.result (shown c.args.name.now) c.shown.ensures (stays-name c.args.name.now c.type_inv.name)
