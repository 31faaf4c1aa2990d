use Rattle.std.proofs.Common.{◌≡◌, ℕ, ◌+◌, ◌/◌, ◌%◌, List, ◌++◌, length, ap, ◌∙◌, arith}
use Rattle.std.proofs.Math.Nat.{div-eq_of_lt, mod-eq_of_lt}
use Rattle.sha_lanes.specs.declared.runs.ChainRun.{ChainRun}
use Rattle.sha_lanes.specs.Run.{run_at}
use Rattle.su_lms.specs.ParameterSets.{chain_count, width_of}
use Rattle.su_lms.specs.Strings.{coef, joined}
use Rattle.su_lms.specs.OneTime.{chain, chain_place, private_value}
use Rattle.su_lms.specs.PrivateKey.{PrivateKey, signed_value}
use Rattle.su_lms.specs.KeyFile.{private_key_of}
use Rattle.su_lms.proofs.Joining.{joined_same}
use Rattle.su_lms.proofs.ChainRuns.{value_after_private}
use Rattle.su_lms.proofs.signers.append_values.Goals as goal

pub returns-clause-items : goal.returns-clause-items
returns-clause-items c =
    let key : PrivateKey = private_key_of c.args.file.now in
    let q : ℕ = c.args.q in
    let n : ℕ = length c.args.runs.now in
    let steps : ℕ → ℕ = λ i. coef c.args.digits.now i (width_of key.ots) in
    let private : List ChainRun = c.set_private_values.new.runs in
    let ends : ℕ → List ℕ = λ i. (run_at c.run_signed.new.runs i).value in
    let size : length c.run_signed.new.runs ≡ chain_count key.ots = omega arith in
    c.append_ends.ensures.items
    ∙ ap (λ m. c.args.out.now.items ++ joined m ends) size
    ∙ ap (λ s. c.args.out.now.items ++ s) (joined_same (chain_count key.ots) ends (signed_value key q c.args.digits.now) (λ i low.
    let leaf : q + i / n ≡ q = omega (arith, div-eq_of_lt {n = i} {m = n} (omega arith)) in
    let here : i % n ≡ i = mod-eq_of_lt {n = i} {m = n} (omega arith) in
    c.run_signed.ensures i (omega arith)
    ∙ value_after_private key.id key.seed (q + i / n) (i % n) (steps i) (run_at private i) (c.set_private_values.ensures i (omega arith))
    ∙ ap (λ p. chain (chain_place key.id p (i % n)) 0 (steps i) (private_value key.id key.seed p (i % n))) leaf
    ∙ ap (λ k. chain (chain_place key.id q k) 0 (steps i) (private_value key.id key.seed q k)) here))
