use Rattle.std.proofs.Common.{◌++◌, ap, ◌∙◌}
use Rattle.su_lms.specs.Strings.{u32str}
use Rattle.su_lms.specs.PrivateKey.{PrivateKey, key_of}
use Rattle.su_lms.specs.KeyFile.{private_key_of}
use Rattle.su_lms.specs.Signer.{SignerState}
use Rattle.su_lms.proofs.NodeTables.{root_in_table}
use Rattle.su_lms.proofs.signers.Signer.public.Goals as goal

pub returns : goal.returns
unfolding key_of
returns g c =
    let key : PrivateKey = private_key_of c.self.inside.file in
    c.of_parts.ensures
    ∙ ap (λ root. u32str key.lms ++ u32str key.ots ++ key.id ++ root) (root_in_table key c.self.inside.nodes.items c.index.result.now c.self.invariant c.index.ensures)
    ∙ ap (λ (s : SignerState _). key_of s.key) c.self.view_is
