-- Where a file of a tree stands.
use Rattle.std.specs.Prelude.{Result}
use Rattle.std.specs.Option.{ok_or}
use Rattle.su_bytes.specs.Place.{Place}
use Rattle.su_bytes.specs.declared.file_ids.FileId.{FileId}
use Rattle.su_bytes.specs.declared.refusals.Refusal.{Refusal}
use Rattle.su_bytes.specs.declared.refusals.Refusal.TheVariants.{NoFile}
use Rattle.su_table.specs.Query.{body}
use Rattle.su_table.specs.Tree.{Tree}

-- where the body of a file stands: `NoFile` where it has none
unfoldable pub place_of : Tree → FileId → Result Place Refusal
place_of T f = ok_or (body T f) (NoFile f)
