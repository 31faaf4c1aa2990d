use Rattle.std.proofs.Common.{◌≡◌, ◌∙◌, sym, ap, Some, None}
use Rattle.std.specs.Prelude.{option_copied}
use Rattle.su_bytes.specs.FileId.{file_id_bytes}
use Rattle.su_history_text.specs.FileNames.{path_at}
use Rattle.su_history_text.proofs.NameLemmas.{found, get-found}
use Rattle.su_history_text.proofs.file_names.FileNames.path_of.Goals as goal

pub returns-in_err-path : goal.returns-in_err-path
returns-in_err-path c =
    let none : path_at c.args.self.now c.args.file ≡ None =
    get-found c.self.inside.paths.entries c.args.self.now (file_id_bytes c.args.file) None c.self.view_is (c.in_err-path.ensures.value ∙ ap (found c.self.inside.paths.entries) c.key_of.ensures) in
    ap option_copied c.from_residual.ensures ∙ sym none

pub returns : goal.returns
returns c =
    ap Some c.as_bytes.ensures
    ∙ sym (get-found c.self.inside.paths.entries c.args.self.now (file_id_bytes c.args.file) (Some c.in_ok-path.path.now) c.self.view_is (c.in_ok-path.ensures.value ∙ ap (found c.self.inside.paths.entries) c.key_of.ensures))
