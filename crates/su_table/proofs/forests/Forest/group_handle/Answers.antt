use Rattle.std.proofs.Common.{◌∙◌, ap, [], get_or}
use Rattle.std.specs.FinMap.{entries}
use Rattle.su_bytes.specs.Principal.{is_group}
use Rattle.su_tree.specs.Digest.{digest}
use Rattle.su_tree.specs.Number.{numbers}
use Rattle.su_tree.specs.Value.{place_bytes}
use Rattle.su_bytes.specs.Place.{Place}
use Rattle.su_table.specs.Tree.{Tree}
use Rattle.su_table.specs.Handle.{pairs_of, group_table}
use Rattle.su_table.proofs.KeptTables.{number_within, group_is}
use Rattle.su_table.proofs.forests.Forest.group_handle.Goals as goal

pub digest-requires : goal.digest-requires
digest-requires c = number_within (λ (p : Place). p) is_group c.self.inside.pointers.entries c.self.inside.bodies c.number.result (c.args.group, 0) c.self.invariant.1 c.number.ensures.value (group_is _ _ c.number.ensures.value c.number.ensures.range)

pub returns-clause-value : goal.returns-clause-value
unfolding group_table
returns-clause-value c =
    c.digest.ensures
    ∙ ap (digest (numbers place_bytes)) (ap (λ u. get_or c.self.inside.bodies u []) c.number.ensures.value
    ∙ c.self.invariant.1.each c.args.group (group_is _ _ c.number.ensures.value c.number.ensures.range)
    ∙ ap (λ (T : Tree). pairs_of (λ (p : Place). p) c.args.group (entries T.pointers)) c.self.view_is)
