use Rattle.std.proofs.Common.{◌∙◌, ap, sym}
use Rattle.su_table.specs.Query.{is_link_to}
use Rattle.su_node.specs.Field.{Field.NameOf}
use Rattle.su_table.proofs.Stores.{val-At, is_link_to-derived}
use Rattle.su_table.proofs.forests.Forest.leads_to.Goals as goal

pub returns-in-Some : goal.returns-in-Some
returns-in-Some c = c.eq.ensures ∙ is_link_to-derived c.name_get.result c.args.file ∙ ap (λ v. is_link_to v c.args.file) c.name_get.ensures ∙ sym (ap (λ v. is_link_to v c.args.file) (val-At c.self.inside.inodes.entries _ c.args.self.now c.self.view_is c.args.place (NameOf c.args.name.now) _ c.in-Some.ensures.value))

pub returns-in-None : goal.returns-in-None
returns-in-None c = sym (ap (λ v. is_link_to v c.args.file) (val-At c.self.inside.inodes.entries _ c.args.self.now c.self.view_is c.args.place (NameOf c.args.name.now) _ c.in-None.ensures.value))
