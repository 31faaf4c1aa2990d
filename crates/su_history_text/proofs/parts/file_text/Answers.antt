use Rattle.std.specs.String.{string_bytes}
use Rattle.su_bytes.specs.FileId.{file_id_text}
use Rattle.su_history_text.proofs.Staying.{stays-file_id, stays-told}
use Rattle.su_history_text.proofs.parts.file_text.Goals as goal

pub returns-in-None-clause-line : goal.returns-in-None-clause-line
returns-in-None-clause-line c = stays-told string_bytes c.format.result (file_id_text c.args.file) c.format.ensures.ok (stays-file_id c.args.file)
