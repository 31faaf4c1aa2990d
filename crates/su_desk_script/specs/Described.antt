-- What is read of a file that is described.
use Rattle.std.specs.Prelude.{◌≡◌, Ok}
use Rattle.su_bytes.specs.Place.{Place}
use Rattle.su_bytes.specs.declared.file_ids.FileId.{FileId}
use Rattle.su_node.specs.Inode.{Inode}
use Rattle.su_reading.specs.Reading.{head_of}
use Rattle.su_reading.specs.declared.heads.InodeHead.{InodeHead}
use Rattle.su_table.specs.Tree.{Tree}
use Rattle.su_desk_script.specs.Session.{description}

-- where the body of a file stands, and what is told of it beside its content
abbrev pub IsDescribed : Tree → FileId → Place × InodeHead → Type 0
IsDescribed T f d = (i : Inode) × (description T f ≡ Ok (d.0, i)) × (d.1 ≡ head_of i)
