-- Bytes tell the commit, and the change.
use Rattle.std.proofs.Common.{◌≡◌, [], sym, ◌∙◌, append-nil}
use Rattle.su_format.proofs.Public.{spelling_told}
use Rattle.su_op.specs.declared.operations.Change.{Change}
use Rattle.su_change.specs.Item.{IsChange, HasItem, item_bytes}
use Rattle.su_change.proofs.Public.{item_lawful, item_of}
use Rattle.su_version.specs.Commit.{Commit, IsCommit, commit_bytes}
use Rattle.su_version.proofs.Public.{commit_lawful, commit_of}

pub commit_told : (c d : Commit) → IsCommit c → IsCommit d → commit_bytes c ≡ commit_bytes d → c ≡ d
commit_told c d f g e =
    (spelling_told commit_lawful commit_of c d [] [] f g (append-nil (commit_bytes c) ∙ e ∙ sym (append-nil (commit_bytes d)))).0

pub change_told : (c d : Change) → IsChange c × HasItem c → IsChange d × HasItem d → item_bytes c ≡ item_bytes d → c ≡ d
change_told c d f g e =
    (spelling_told item_lawful item_of c d [] [] f g (append-nil (item_bytes c) ∙ e ∙ sym (append-nil (item_bytes d)))).0
