use Rattle.std.proofs.Common.{◌≡◌, ◌≤◌, ◌<◌, length, take, sym, subst, ap, ◌∙◌, arith}
use Rattle.std.specs.Prelude.{IsOk}
use Rattle.std.proofs.lemmas.List.{take_all}
use Rattle.su_lms.specs.Signature.{IsPublicKey}
use Rattle.su_audit.proofs.KeyLemmas.{all_taken}
use Rattle.su_audit.proofs.keys.key_within.Goals as goal

pub returns-in-Ok-clause-spelled : goal.returns-in-Ok-clause-spelled
returns-in-Ok-clause-spelled g c = λ input is.
    let same : c.as_bytes.result.now ≡ take 57 input = c.as_bytes.ensures.value ∙ c.in-Ok.ensures.value ∙ c.as_slice.ensures.value ∙ c.in_ok-bytes.ensures input is in
    let size : length (take 57 input) ≡ 56 = sym (ap length same) ∙ c.as_bytes.ensures.key.size in
    let short : length (take 57 input) < 57 = omega (arith, size) in
    same ∙ all_taken 57 input short

pub returns-clause-spelled : goal.returns-clause-spelled
returns-clause-spelled g c = λ input is key.
    let size = key.size in
    let within : length input ≤ 57 = omega (arith, size) in
    let same : c.as_slice.result.now ≡ input = c.as_slice.ensures.value ∙ c.in_ok-bytes.ensures input is ∙ take_all 57 input within in
    let clash = subst IsOk c.in-Err.is (c.parse.ensures.accepted.1 (subst IsPublicKey (sym same) key)) in
    absurd (cc)
