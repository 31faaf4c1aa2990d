use Rattle.std.proofs.Common.{◌≡◌, ℕ, List, ◌++◌, ap, ◌∙◌}
use Rattle.std.proofs.lemmas.List.{append_assoc}
use Rattle.su_lms.specs.ParameterSets.{chain_count}
use Rattle.su_lms.specs.Strings.{joined, u32str}
use Rattle.su_lms.specs.OneTime.{message_hash, with_checksum}
use Rattle.su_lms.specs.PrivateKey.{PrivateKey, one_time_signature, signed_value, digits_of, randomizer}
use Rattle.su_lms.specs.KeyFile.{private_key_of}
use Rattle.su_lms.proofs.signers.append_one_time.Goals as goal

pub returns-clause-items : goal.returns-clause-items
unfolding one_time_signature
returns-clause-items c =
    let key : PrivateKey = private_key_of c.args.file.now in
    let old : List ℕ = c.args.out.now.items in
    let head : List ℕ = u32str key.ots ++ randomizer key.seed c.args.q in
    let values : List ℕ → List ℕ = λ digits. joined (chain_count key.ots) (signed_value key c.args.q digits) in
    let front : c.append-2.new.out.items ≡ old ++ head =
    c.append-2.ensures.items
    ∙ ap (λ s. s ++ c.randomizer-randomizer.result) (c.append.ensures.items ∙ ap (λ s. old ++ s) c.to_be_bytes.ensures)
    ∙ ap (λ s. old ++ u32str key.ots ++ s) c.randomizer-randomizer.ensures ∙ append_assoc old (u32str key.ots) (randomizer key.seed c.args.q) in
    let digits : c.with_checksum-digits.result ≡ digits_of key c.args.q c.args.message.now =
    c.with_checksum-digits.ensures.value
    ∙ ap (with_checksum key.ots) (c.message_hash.ensures ∙ ap (λ r. message_hash key.id c.args.q r c.args.message.now) c.randomizer-randomizer.ensures) in
    c.append_values.ensures.items
    ∙ ap (λ s. s ++ values c.with_checksum-digits.result) front
    ∙ append_assoc old head (values c.with_checksum-digits.result)
    ∙ ap (λ d. old ++ (head ++ values d)) digits
