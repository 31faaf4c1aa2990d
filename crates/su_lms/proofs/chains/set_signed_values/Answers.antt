use Rattle.std.proofs.Common.{◌≡◌, ◌-◌, ℕ, List, ap, ◌∙◌, arith}
use Rattle.std.proofs.lemmas.List.{length-set}
use Rattle.sha_lanes.specs.Run.{end_of}
use Rattle.su_lms.specs.OneTime.{chain, chain_place, end_from}
use Rattle.su_lms.specs.Signature.{chain_value_of, leaf_of}
use Rattle.su_lms.proofs.Chaining.{chain_same}
use Rattle.su_lms.proofs.ChainRuns.{set_next}
use Rattle.su_lms.proofs.Widths.{digits_suffice}
use Rattle.su_lms.proofs.chains.set_signed_values.Goals as goal

pub coef-step-requires-clause-inside : goal.coef-step-requires-clause-inside
coef-step-requires-clause-inside c =
    rw c.told-digits
    (digits_suffice c.args.ots c.requires.listed.0 c.requires.listed.1 c.loop-i.i (omega arith))

pub loop-i-preserved : goal.loop-i-preserved
loop-i-preserved c =
    let id : List ℕ = c.args.id.now in
    let signature : List ℕ = c.args.signature.now in
    let i : ℕ = c.loop-i.i in
    record {
      size = length-set c.loop-i.runs i _ ∙ c.loop-i.invariant.size;
      each = set_next (λ j run. end_of run ≡ end_from c.args.ots id (leaf_of signature) c.args.digits.now j (chain_value_of signature j)) c.loop-i.runs i _ (omega (arith, c.loop-i.invariant.size)) c.loop-i.invariant.each
          (ap (λ n. chain (chain_place id c.number_at-leaf.result i) n c.from-in-loop-i.result c.part_at.result) c.from.ensures
          ∙ ap (λ n. chain (chain_place id c.number_at-leaf.result i) c.coef-step.result n c.part_at.result) c.from-in-loop-i.ensures
          ∙ ap (λ q. chain (chain_place id q i) c.coef-step.result (c.step_count-last.result - c.coef-step.result) c.part_at.result) c.number_at-leaf.ensures
          ∙ chain_same (chain_place id (leaf_of signature) i) _ _ _ _ _ _ c.coef-step.ensures.value c.step_count-last.ensures c.part_at.ensures);
    }
