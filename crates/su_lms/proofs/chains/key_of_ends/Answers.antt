use Rattle.std.proofs.Common.{◌++◌, ap, ◌∙◌, arith}
use Rattle.std.proofs.lemmas.List.{get_or_default}
use Rattle.sha2.specs.Sha256.{sha256}
use Rattle.sha_lanes.specs.declared.runs.ChainRun.{ChainRun}
use Rattle.sha_lanes.specs.Run.{idle, run_at}
use Rattle.su_lms.specs.Strings.{u16str, u32str, joined}
use Rattle.su_lms.specs.OneTime.{hash_of_ends}
use Rattle.su_lms.proofs.Hashing.{holds_joined_none, holds_joined_more}
use Rattle.su_lms.proofs.chains.key_of_ends.Goals as goal

pub loop-end-init : goal.loop-end-init
loop-end-init c = holds_joined_none c.hasher_of-hasher.result _ _ c.hasher_of-hasher.ensures

pub loop-end-preserved : goal.loop-end-preserved
loop-end-preserved c =
    holds_joined_more c.update.new.self _ _ c.loop-end.end-index _ (ap (λ (run : ChainRun). run.value) (c.end-item.is ∙ get_or_default c.args.ends.now c.loop-end.end-index c.end-item.result idle (omega arith)))
    (c.update.ensures _ c.loop-end.invariant)

pub returns : goal.returns
unfolding hash_of_ends
returns c = c.finalize.ensures _ c.loop-end.invariant
    ∙ ap (λ n. sha256 (c.args.id.now ++ u32str c.args.q ++ u16str 0x8080 ++ joined n (λ i. (run_at c.args.ends.now i).value))) (omega arith)
