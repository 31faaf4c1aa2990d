use Rattle.std.proofs.lemmas.Nat.{from_be_bytes-to_be_bytes_4}
use Rattle.std.proofs.Common.{ℕ, ◌<◌, ◌^◌, List, ◌++◌, ap, sym, ◌∙◌, subst, arith}
use Rattle.su_lms.specs.Strings.{number_at, u32str, joined}
use Rattle.su_lms.specs.Signature.{IsSigned}
use Rattle.su_lms.specs.PrivateKey.{PrivateKey, IsPrivateKey, key_of, signature_of, one_time_signature, path_at, leaf_count}
use Rattle.su_lms.specs.ParameterSets.{height_of}
use Rattle.su_lms.specs.KeyFile.{private_key_of}
use Rattle.su_lms.specs.Signer.{SignerState}
use Rattle.su_lms.proofs.Signing.{signature_of-is_signed, signature_of-is}
use Rattle.su_lms.proofs.signers.Signer.sign.Goals as goal

pub returns-clause-signature : goal.returns-clause-signature
returns-clause-signature g c =
    let key : PrivateKey = private_key_of c.self.inside.file in
    let q : ℕ = c.self.inside.file.next in
    let message : List ℕ = c.args.message.now in
    let path : List ℕ = joined (height_of key.lms) (path_at key q) in
    c.append_path.ensures
    ∙ ap (λ s. s ++ path) (c.append-2.ensures.items ∙ ap (λ s. c.append_one_time.new.out.items ++ s) c.to_be_bytes-2.ensures)
    ∙ ap (λ s. s ++ u32str key.lms ++ path) c.append_one_time.ensures.items
    ∙ ap (λ s. s ++ one_time_signature key q message ++ u32str key.lms ++ path) (c.append.ensures.items ∙ ap (λ s. c.in_ok-signature.signature.items ++ s) c.to_be_bytes.ensures ∙ ap (λ s. s ++ u32str q) c.in_ok-signature.ensures.items)
    ∙ sym (signature_of-is key q message)
    ∙ ap (λ (s : SignerState _). signature_of s.key s.next message) c.self.view_is

pub returns-clause-signed : goal.returns-clause-signed
returns-clause-signed g c =
    let key : PrivateKey = private_key_of c.self.inside.file in
    let q : ℕ = c.self.inside.file.next in
    let message : List ℕ = c.args.message.now in
    let made : IsPrivateKey key = record { types = c.self.inside.file.params.listed; id = omega arith; seed = omega arith } in
    let below : q < leaf_count key = omega (arith, c.leaf_count.ensures.value) in
    let signed : IsSigned (key_of key) message (signature_of key q message) = signature_of-is_signed key made q message below in
    let P : SignerState _ → Type 0 = λ s. IsSigned (key_of s.key) message (signature_of s.key s.next message) in
    subst (λ s. IsSigned (key_of c.args.self.now.key) message s) (sym (returns-clause-signature g c)) (subst P c.self.view_is signed)

pub returns-clause-leaf : goal.returns-clause-leaf
unfolding number_at signature_of
returns-clause-leaf g c =
    let small : c.self.inside.file.next < 2 ^ 32 = omega arith in
    ap (number_at 0) (returns-clause-signature g c) ∙ from_be_bytes-to_be_bytes_4 _ (subst (λ (s : SignerState _). s.next < 2 ^ 32) c.self.view_is small)
