use Rattle.std.proofs.Common.{◌≡◌, map}
use Rattle.std.specs.Map.Iter.{deref_pair}
use Rattle.su_seen.specs.Kept.{by_bytes}
use Rattle.su_seen.specs.Seen.{file_lines}
use Rattle.su_seen.proofs.files.SeenFiles.spelled.Given as goal

-- the lines of the files so far
abbrev pub invariant-loop-path : goal.invariant-loop-path
invariant-loop-path l = l.text.items ≡ file_lines (by_bytes (map deref_pair l.yielded))
