-- How files are called: by a path that leads to them.
use Rattle.std.specs.Prelude.{ℕ, List, Option, if◌then◌else◌}
use Rattle.std.specs.FinMap.{FinMap, contains_key, get, insert}
use Rattle.std.specs.Ordering.{nat_cmp}
use Rattle.std.specs.Cmp.Lexicographic.{slice_cmp}
use Rattle.su_bytes.specs.declared.file_ids.FileId.{FileId}
use Rattle.su_bytes.specs.FileId.{file_id_bytes}

-- from the six bytes of a file id to the file's path
abbrev pub Names : Type 0
Names = FinMap (slice_cmp nat_cmp) (List ℕ)

abbrev pub path_at : Names → FileId → Option (List ℕ)
path_at names f = get names (file_id_bytes f)

-- with that path of a file, where it has none
abbrev pub with_path : Names → FileId → List ℕ → Names
with_path names f path =
    if contains_key names (file_id_bytes f) then names else insert names (file_id_bytes f) path
