use Rattle.std.proofs.Common.{◌∙◌, ap, sym, Some, Option, Result, Ok, Err, OnErr}
use Rattle.su_node.specs.Field.{Field.NameOf, file_value, content_value, field_value}
use Rattle.std.specs.FinMap.{from_entries, get-from_entries}
use Rattle.su_node.proofs.NameOrder.{name_cmp_total}
use Rattle.su_node.specs.Inode.{Inode, Content, Content.Names}
use Rattle.su_node.specs.View.{content_of}
use Rattle.su_node.specs.InodeChange.{with_name}
use Rattle.su_node.proofs.Names.{name_put, with_name-file}
use Rattle.su_node.proofs.inodes.Inode.name_set.Goals.{in-Names+in_ok-insert, in_default}
use Rattle.su_node.proofs.inodes.Inode.name_set.Goals as goal

pub returns-clause-ok : goal.returns-clause-ok
returns-clause-ok c =
    let was = ap (λ (i : Inode). Some (record i { content = with_name c.args.name (Some c.args.file) i.content })) (sym c.self.view_is) in
    let with : Content → Option Inode = λ d. Some (record { home = c.self.inside.home; links = c.self.inside.links; content = d }) in
    elim c.match-self.branch [
      | in-Names+in_ok-insert w ↦ rw w.self-inside-is (was ∙ ap with (ap (λ s. with_name c.args.name (Some c.args.file) (content_of s)) w.in-Names.is ∙ name_put w.in-Names.names.entries c.args.name c.args.file ∙ ap (λ es. Names (from_entries es)) (sym w.in_ok-insert.ensures.new)))
      | in_default w ↦ rw w.self-inside-is (was ∙ ap with (with_name-file c.args.name (Some c.args.file) c.self.inside.content w.in_default.not-Names))
    ]

OnErr-always : {X Y P : Type 0} (r : Result X Y) → P → OnErr r P
OnErr-always (Ok x) p = tt
OnErr-always (Err y) p = p

pub returns-in_err-insert-clause-absent : goal.returns-in_err-insert-clause-absent
returns-in_err-insert-clause-absent c = OnErr-always c.from_residual.result
    (ap (λ (i : Inode). field_value (Some i) (NameOf c.args.name)) (sym c.self.view_is)
    ∙ ap (λ s. content_value (content_of s) c.self.inside.links c.self.inside.home (NameOf c.args.name)) c.in-Names.is
    ∙ ap file_value (get-from_entries name_cmp_total c.in-Names.names.entries c.args.name ∙ c.in_err-insert.ensures.absent))
