-- The bytes that a reader of lines has before it.
use Rattle.std.specs.Prelude.{ℕ, List, drop, Option}
use Rattle.std.specs.Io.KnownBytes.{prepend_known}
use Rattle.su_desk_lines.specs.declared.lines.LineReader.{LineReader}

-- what was read and not yet taken, and then what its reader has left, where that is known
abbrev pub unread : {R : Type 0} → (R → Option (List ℕ)) → LineReader R → Option (List ℕ)
unread remaining lines =
    prepend_known (drop lines.start lines.filled.items) (remaining lines.reader)
