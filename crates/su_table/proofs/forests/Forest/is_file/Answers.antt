use Rattle.std.proofs.Common.{◌≡◌, ◌∙◌, ap, sym, refl}
use denote.Enum.Bare.{sameb}
use Rattle.su_bytes.specs.declared.file_ids.Kind.{Kind}
use Rattle.su_bytes.specs.declared.file_ids.Kind.TheVariants.{File, Dir}
use Rattle.su_bytes.specs.declared.file_ids.FileId.{FileId}
use Rattle.su_bytes.specs.contracts.file_ids.Kind.{the_type}
use Rattle.su_table.specs.Query.{is_file_kind}
use Rattle.su_node.specs.Field.{Field.KindOf, Value.AKind}
use Rattle.su_table.proofs.Stores.{val-At}
use Rattle.su_table.proofs.forests.Forest.is_file.Goals as goal

is_file_kind-derived : (k : Kind) (home : FileId) → sameb the_type k File ≡ is_file_kind (AKind k home)
is_file_kind-derived File home = refl
is_file_kind-derived Dir home = refl

pub returns-in-Some : goal.returns-in-Some
returns-in-Some c = c.eq.ensures ∙ ap (λ k. sameb the_type k File) c.kind.ensures ∙ is_file_kind-derived _ _ ∙ sym (ap is_file_kind (val-At c.self.inside.inodes.entries _ c.args.self.now c.self.view_is c.args.place KindOf _ c.in-Some.ensures.value))

pub returns-in-None : goal.returns-in-None
returns-in-None c = sym (ap is_file_kind (val-At c.self.inside.inodes.entries _ c.args.self.now c.self.view_is c.args.place KindOf _ c.in-None.ensures.value))
