use Rattle.std.proofs.Common.{◌∙◌, ap, [], get_or}
use Rattle.std.specs.FinMap.{entries}
use Rattle.su_bytes.specs.Principal.{is_user}
use Rattle.su_tree.specs.Digest.{digest}
use Rattle.su_tree.specs.Number.{numbers}
use Rattle.su_node.specs.Digest.{inode_digest}
use Rattle.su_table.specs.Tree.{Tree}
use Rattle.su_table.specs.Handle.{pairs_of, user_table}
use Rattle.su_table.proofs.KeptTables.{number_within, user_is}
use Rattle.su_table.proofs.forests.Forest.i_handle.Goals as goal

pub digest-requires : goal.digest-requires
digest-requires c = number_within inode_digest is_user c.self.inside.inodes.entries c.self.inside.digests c.number.result (c.args.user, 0) c.self.invariant.0 c.number.ensures.value (user_is _ _ c.number.ensures.value c.number.ensures.range)

pub returns-clause-value : goal.returns-clause-value
unfolding user_table
returns-clause-value c =
    c.digest.ensures
    ∙ ap (digest (numbers (λ d. d))) (ap (λ u. get_or c.self.inside.digests u []) c.number.ensures.value
    ∙ c.self.invariant.0.each c.args.user (user_is _ _ c.number.ensures.value c.number.ensures.range)
    ∙ ap (λ (T : Tree). pairs_of inode_digest c.args.user (entries T.inodes)) c.self.view_is)
