use Rattle.std.proofs.Common.{◌≡◌, ◌+◌, refl, ap, sym, ◌∙◌, arith}
use Rattle.std.proofs.lemmas.List.{get_or_default, length-set}
use Rattle.sha_lanes.specs.Run.{idle, run_at}
use Rattle.sha_lanes.specs.declared.runs.ChainRun.{ChainRun}
use Rattle.sha_lanes.proofs.Ends.{ended_more}
use Rattle.sha_lanes.proofs.groups.ended.Goals as goal

pub loop-l-preserved : goal.loop-l-preserved
loop-l-preserved c =
    let same : c.index-group-l.result ≡ run_at c.args.group.now c.loop-l.l = c.index-group-l.is ∙ get_or_default c.args.group.now c.loop-l.l c.index-group-l.result idle (omega arith) in
    let same' = sym c.index-group-l.is ∙ same in
    record {
      size = length-set c.loop-l.ended c.loop-l.l _ ∙ c.loop-l.invariant.size;
      each = ended_more c.args.group.now c.loop-l.ended c.loop-l.l _ (omega arith) c.loop-l.invariant.each record {
        id = ap (λ (run : ChainRun). run.id) same';
        leaf = ap (λ (run : ChainRun). run.leaf) same';
        chain = ap (λ (run : ChainRun). run.chain) same';
        step = ap (λ (run : ChainRun). run.step + run.left) same';
        left = refl;
        value = c.value_at.ensures ∙ sym (c.requires c.loop-l.l (omega arith));
      };
    }
