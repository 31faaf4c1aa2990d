use Rattle.std.proofs.Common.{◌++◌, codes}
use Rattle.std.specs.Fmt.{decimal}
use Rattle.std.specs.String.{string_bytes}
use Rattle.su_history_text.proofs.Staying.{stays-decimal, stays-told}
use Rattle.su_history_text.proofs.deeds.undid_text.Goals as goal

pub returns-clause-line : goal.returns-clause-line
returns-clause-line c = stays-told string_bytes c.format.result (codes "undid " ++ decimal c.args.number) c.format.ensures.ok (stays-decimal c.args.number)
