-- What a file of a tree is.
use Rattle.std.specs.Prelude.{ℕ, Option, Some, None, Result, Err}
use Rattle.std.specs.FinMap.{get}
use Rattle.std.specs.Option.{ok_or, option_map}
use Rattle.su_bytes.specs.Place.{Place}
use Rattle.su_bytes.specs.declared.file_ids.FileId.{FileId}
use Rattle.su_bytes.specs.declared.refusals.Refusal.{Refusal}
use Rattle.su_bytes.specs.declared.refusals.Refusal.TheVariants.{NoFile, WrongKind}
use Rattle.su_node.specs.Inode.{Inode, kind_of, size_of}
use Rattle.su_table.specs.Query.{body}
use Rattle.su_table.specs.Tree.{Tree}
use Rattle.su_files.specs.declared.stats.Stat.{Stat}

-- what an inode in the i-table of that user is
abbrev pub stat_of : ℕ → Inode → Stat
stat_of holder i = record {
  holder = holder;
  kind = kind_of i.content;
  size = size_of i.content;
  links = i.links;
}

abbrev pub stat_at : Tree → FileId → Option Place → Result Stat Refusal
stat_at T f None = Err (NoFile f)
stat_at T f (Some p) = ok_or (option_map (stat_of p.0) (get T.inodes p)) (WrongKind f)

-- What a file is, by the inode that stands for it: `NoFile` where the file has no body, and
-- `WrongKind` where a group's pointer points at nothing.
abbrev pub stat_in : Tree → FileId → Result Stat Refusal
stat_in T f = stat_at T f (body T f)
