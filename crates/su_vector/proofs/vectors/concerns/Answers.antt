use Rattle.std.proofs.Common.{nat_eq, sym, ◌∙◌}
use Rattle.su_bytes.proofs.Public.{list_any-map}
use Rattle.su_vector.proofs.vectors.concerns.Goals as goal

pub returns-in-Group : goal.returns-in-Group
returns-in-Group c = rw c.in-Group.is (c.carries.ensures ∙ sym (list_any-map (nat_eq c.in-Group.group) (λ e. e.0) c.args.groups.now))
