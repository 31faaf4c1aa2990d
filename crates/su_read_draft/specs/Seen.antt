-- What is seen of the planner's own structs.
use Rattle.su_draft.specs.Path.{NamedPath}
use Rattle.su_draft.specs.Draft.{DraftState}
use Rattle.su_read_draft.specs.declared.paths.NamedPath.{NamedPath as PathRead}
use Rattle.su_read_draft.specs.declared.drafts.Draft.{Draft}

abbrev pub seen_path : PathRead → NamedPath
seen_path path = record { directory = path.directory.items; name = path.name }

abbrev pub seen_draft : Draft → DraftState
seen_draft d = record { author = d.author; operations = d.operations.items; used = d.used }
