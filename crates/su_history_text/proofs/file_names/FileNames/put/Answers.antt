use Rattle.std.proofs.Common.{◌∙◌, sym}
use Rattle.su_bytes.specs.FileId.{file_id_bytes}
use Rattle.su_history_text.proofs.NameLemmas.{put-kept, put-new}
use Rattle.su_history_text.proofs.file_names.FileNames.put.Goals as goal

pub returns-then-contains_key-clause-ok : goal.returns-then-contains_key-clause-ok
returns-then-contains_key-clause-ok c =
    put-kept c.self.inside.paths.entries c.args.self.now (file_id_bytes c.args.file) c.key_of-key.result c.args.path.now c.self.view_is c.key_of-key.ensures
    (sym c.contains_key.ensures ∙ c.if-contains_key.true)

pub returns-clause-ok : goal.returns-clause-ok
returns-clause-ok c =
    put-new c.self.inside.paths.entries c.insert.new.self.entries c.args.self.now (file_id_bytes c.args.file) c.key_of-key.result c.args.path.now c.new.result c.self.view_is c.key_of-key.ensures
    (c.new.ensures ∙ c.in_ok-bytes.ensures.items) (sym c.contains_key.ensures ∙ c.if-contains_key.false) c.in_ok-insert.ensures.updates.0
