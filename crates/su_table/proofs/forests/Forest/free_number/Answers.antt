use Rattle.std.proofs.Common.{◌∙◌, ap, sym, refl, [], get_or}
use Rattle.su_bytes.specs.Principal.{is_user}
use Rattle.su_node.specs.Digest.{inode_digest}
use Rattle.su_node.specs.Field.{Field.KindOf}
use Rattle.su_table.specs.Free.{has_none}
use Rattle.su_table.specs.Query.{is_nothing, is_free_at}
use Rattle.su_table.proofs.Fronts.{least_alike}
use Rattle.su_table.proofs.KeptTables.{kept_lacks, number_within, user_is}
use Rattle.su_table.proofs.Stores.{val-At, is_nothing-field_value}
use Rattle.su_table.proofs.forests.Forest.free_number.Goals as goal

pub free_number-requires : goal.free_number-requires
free_number-requires c = number_within inode_digest is_user c.self.inside.inodes.entries c.self.inside.digests c.number.result (c.args.user, 0) c.self.invariant.0 c.number.ensures.value (user_is _ _ c.number.ensures.value c.number.ensures.range)

pub returns : goal.returns
returns c =
    let es = c.self.inside.inodes.entries in
    least_alike (has_none (get_or c.self.inside.digests c.number.result [])) (λ i. is_free_at c.args.self.now (c.args.user, i)) c.args.from_ (λ i.
    kept_lacks inode_digest is_user es c.self.inside.digests c.number.result (c.args.user, i) c.self.invariant.0 c.number.ensures.value (user_is _ _ c.number.ensures.value c.number.ensures.range)
    ∙ sym (is_nothing-field_value _) ∙ sym (ap is_nothing (val-At es _ c.args.self.now c.self.view_is (c.args.user, i) KindOf _ refl)))
    c.free_number.result c.free_number.ensures
