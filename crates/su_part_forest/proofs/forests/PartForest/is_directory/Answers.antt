use Rattle.std.proofs.Common.{◌≡◌, ◌∙◌, ap, sym, refl, None}
use denote.Enum.Bare.{sameb}
use Rattle.su_bytes.specs.declared.file_ids.Kind.{Kind}
use Rattle.su_bytes.specs.declared.file_ids.Kind.TheVariants.{File, Dir}
use Rattle.su_bytes.specs.declared.file_ids.FileId.{FileId}
use Rattle.su_bytes.specs.contracts.file_ids.Kind.{the_type}
use Rattle.su_table.specs.Query.{is_dir_kind}
use Rattle.su_node.specs.Field.{Field.KindOf, Value.AKind}
use Rattle.su_part_forest.proofs.Asked.{loaded_stands, cell_seen, kind_is}
use Rattle.su_part_forest.proofs.forests.PartForest.is_directory.Goals as goal

is_dir_kind-derived : (k : Kind) (home : FileId) → sameb the_type k Dir ≡ is_dir_kind (AKind k home)
is_dir_kind-derived File home = refl
is_dir_kind-derived Dir home = refl

pub returns-in-Some : goal.returns-in-Some
returns-in-Some c sound =
    let found = c.in-Some.ensures.loaded in
    let x = loaded_stands c.args.self.now sound c.args.place c.in-Some.inode.now found in
    c.eq.ensures ∙ ap (λ k. sameb the_type k Dir) (c.kind.ensures x.0 x.1) ∙ is_dir_kind-derived _ x.0.home
    ∙ sym (ap is_dir_kind (kind_is c.args.self.now c.args.place c.in-Some.inode.now found x.0 x.1))

pub returns-in-None : goal.returns-in-None
returns-in-None c sound = sym (ap is_dir_kind (cell_seen c.args.self.now c.args.place KindOf None c.in-None.ensures.loaded))
