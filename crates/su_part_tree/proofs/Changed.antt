-- A node that is no end.
use Rattle.std.proofs.Common.{◌≡◌, sym, subst}
use Rattle.su_hash_tree.specs.declared.nodes.Node.{Node}
use Rattle.su_hash_tree.specs.Stands.{IsEnd}

pub no_end : {K V : Type 0} {n e : Node K V} → n ≡ e → ¬ (IsEnd n) → ¬ (IsEnd e)
no_end is split end_ = split (subst IsEnd (sym is) end_)
