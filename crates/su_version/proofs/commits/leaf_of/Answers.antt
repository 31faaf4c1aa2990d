use Rattle.std.proofs.Common.{ap, ◌∙◌}
use Rattle.std.specs.Int.{w32, from_be_bytes}
use Rattle.su_lms.specs.Strings.{number_at}
use Rattle.su_version.proofs.commits.leaf_of.Goals as goal

pub returns : goal.returns
unfolding number_at
returns c = c.from_be_bytes.ensures ∙ ap (from_be_bytes w32) c.copy_from_slice.ensures.after
