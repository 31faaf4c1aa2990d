-- The log that a client saves. (This project's own format: the one that an audit reads.)
use Rattle.std.specs.Prelude.{ℕ, List, ◌++◌}
use Rattle.std.specs.List.{flat_map}
use Rattle.su_change.specs.Item.{item_bytes}
use Rattle.su_version.specs.Commit.{commit_bytes}
use Rattle.su_legal.specs.Legal.{Committed}
use Rattle.su_log.specs.Log.{LogRecord}
use Rattle.su_log.specs.Part.{part_bytes}

-- a commit's bytes and the item of its change, each with its length before it
abbrev pub entry_bytes : Committed → List ℕ
entry_bytes c = part_bytes (commit_bytes c.commit) ++ part_bytes (item_bytes c.change)

abbrev pub saved_log : List Committed → List ℕ
saved_log cs = flat_map entry_bytes cs

-- what a log has of a commit
abbrev pub saved_record : Committed → LogRecord
saved_record c = record { commit = commit_bytes c.commit; item = item_bytes c.change }
