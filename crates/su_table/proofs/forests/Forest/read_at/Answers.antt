use Rattle.std.proofs.Common.{◌∙◌, ap, sym, Some, inr}
use Rattle.std.specs.Option.{option_map, ok_or}
use Rattle.std.proofs.lemmas.Result.{err_from_is_err_and}
use Rattle.su_bytes.specs.declared.refusals.Refusal.TheVariants.{WrongKind, NoMemory}
use Rattle.su_node.specs.Inode.{bytes_of, within}
use Rattle.su_table.specs.Query.{part}
use Rattle.su_table.proofs.Stores.{IfOk-ok_or, IfErr-ok_or}
use Rattle.su_table.proofs.forests.Forest.read_at.Goals as goal

pub returns-in_err-inode-clause-refused : goal.returns-in_err-inode-clause-refused
returns-in_err-inode-clause-refused c =
    let p = err_from_is_err_and c.from_residual.result c.from_residual.ensures.1 in
    rw (p.1, p.2) (inr (ap (part (λ i. option_map (within c.args.off c.args.len) (bytes_of (Some i))) c.args.file) c.in_err-inode.ensures.refused))

pub returns-clause-ok : goal.returns-clause-ok
returns-clause-ok c = rw c.ok_or.ensures.value (IfOk-ok_or (λ v. v.items) c.in_ok-read_at.field-0 (WrongKind c.args.file) _
    (ap (part (λ i. option_map (within c.args.off c.args.len) (bytes_of (Some i))) c.args.file) c.in_ok-inode.ensures.ok ∙ ap (λ o. ok_or o (WrongKind c.args.file)) (sym c.in_ok-read_at.ensures.value)))

pub returns-clause-refused : goal.returns-clause-refused
returns-clause-refused c = rw c.ok_or.ensures.value (IfErr-ok_or (λ v. v.items) NoMemory c.in_ok-read_at.field-0 (WrongKind c.args.file) _
    (ap (part (λ i. option_map (within c.args.off c.args.len) (bytes_of (Some i))) c.args.file) c.in_ok-inode.ensures.ok ∙ ap (λ o. ok_or o (WrongKind c.args.file)) (sym c.in_ok-read_at.ensures.value)))
