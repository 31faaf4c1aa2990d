-- Limits of what operations make.
use Rattle.std.specs.Prelude.{ℕ}
use Rattle.su_bytes.specs.declared.formats.Format.{Format}
use Rattle.su_bytes.specs.declared.formats.Format.TheVariants.{V1, V2, V3, V4}
use Rattle.su_op.specs.declared.limits.TheConstants.{LARGEST_WRITE, MOST_LINKS}

-- bytes of one write
abbrev pub largest_write : ℕ
largest_write = LARGEST_WRITE

-- bytes that a change in that format may give a file
abbrev pub largest_file : Format → ℕ
largest_file V1 = 1048576
largest_file V2 = 16777216
largest_file V3 = 16777216
largest_file V4 = 16777216

-- names of a file
abbrev pub most_links : ℕ
most_links = MOST_LINKS
