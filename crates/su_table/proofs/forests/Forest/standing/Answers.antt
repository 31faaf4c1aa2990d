use Rattle.std.proofs.Common.{◌≡◌, ◌∙◌, ap, sym, Option, Some, None, Result, Ok, Err}
use Rattle.std.specs.Prelude.{IfOk, IfErr}
use Rattle.std.specs.Borrow.{Bor}
use Rattle.std.specs.Option.{ok_or, option_copied}
use Rattle.std.proofs.lemmas.Result.{err_from_is_err_and}
use Rattle.su_bytes.specs.declared.file_ids.FileId.{FileId}
use Rattle.su_bytes.specs.declared.refusals.Refusal.TheVariants.{NoFile, WrongKind}
use Rattle.su_bytes.specs.Place.{Place}
use Rattle.su_table.specs.Tree.{Tree}
use Rattle.su_node.specs.Inode.{Inode}
use Rattle.std.specs.FinMap.{get}
use Rattle.su_table.specs.Query.{body, standing_at, standing}
use Rattle.su_table.proofs.Stores.{error-ok_or}
use Rattle.su_table.proofs.forests.Forest.standing.Goals as goal

no_body : (T : Tree) (f : FileId) → None ≡ body T f → standing T f ≡ Err (NoFile f)
unfolding standing
no_body T f none = ap (standing_at T f) (sym none)

at_body : (T : Tree) (f : FileId) (p : Place) (o : Option Inode) → Some p ≡ body T f → o ≡ get T.inodes p → standing T f ≡ ok_or o (WrongKind f)
unfolding standing
at_body T f p o at is = ap (standing_at T f) (sym at) ∙ ap (λ i. ok_or i (WrongKind f)) (sym is)

found_ok : {X E : Type 0} (o : Option (Bor X)) (e : E) (l : Result X E) → l ≡ ok_or (option_copied o) e → IfOk (ok_or o e) (λ i. l ≡ Ok i.now)
found_ok None e l is = tt
found_ok (Some i) e l is = is

none_err : {X E : Type 0} (o : Option (Bor X)) (e : E) (l : Result X E) → l ≡ ok_or (option_copied o) e → IfErr (ok_or o e) (λ x. l ≡ Err x)
none_err None e l is = is
none_err (Some i) e l is = tt

pub returns-in_err-user-clause-refused : goal.returns-in_err-user-clause-refused
returns-in_err-user-clause-refused c =
    let p = err_from_is_err_and c.from_residual.result c.from_residual.ensures.1 in
    let none = c.in_err-user.ensures.ok_part in
    rw (p.1, p.2) (no_body c.args.self.now c.args.file.now (sym none ∙ c.body.ensures) ∙ ap Err (sym (error-ok_or _ c.body.result (NoFile c.args.file.now) c.in_err-user.ensures.value none)))

pub returns-clause-ok : goal.returns-clause-ok
returns-clause-ok c = rw c.ok_or-2.ensures.value (found_ok c.inode.result _ _ (at_body c.args.self.now c.args.file.now _ _ (sym c.in_ok-user.ensures.ok_part ∙ c.body.ensures) c.inode.ensures))

pub returns-clause-refused : goal.returns-clause-refused
returns-clause-refused c = rw c.ok_or-2.ensures.value (none_err c.inode.result _ _ (at_body c.args.self.now c.args.file.now _ _ (sym c.in_ok-user.ensures.ok_part ∙ c.body.ensures) c.inode.ensures))
