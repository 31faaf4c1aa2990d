use Rattle.std.proofs.Common.{◌≡◌, ℕ, List, ◌++◌, length, ap, sym, ◌∙◌, arith}
use Rattle.std.proofs.lemmas.List.{append_assoc, append-nil, get_or_default}
use Rattle.sha_lanes.specs.declared.runs.ChainRun.{ChainRun}
use Rattle.sha_lanes.specs.Run.{idle, run_at}
use Rattle.su_lms.specs.Strings.{joined}
use Rattle.su_lms.proofs.Joining.{joined_none, joined_more}
use Rattle.su_lms.proofs.signers.append_ends.Goals as goal

pub loop-end-init : goal.loop-end-init
loop-end-init c = record {
  items = sym (ap (λ s. c.args.out.now.items ++ s) (joined_none _) ∙ append-nil c.args.out.now.items);
  len = omega arith;
  room = omega arith;
}

pub loop-end-preserved : goal.loop-end-preserved
loop-end-preserved c =
    let front : List ℕ = c.args.out.now.items in
    let i : ℕ = c.loop-end.end-index in
    let value : ℕ → List ℕ = λ k. (run_at c.args.ends.now k).value in
    let end : List ℕ = c.end-item.result.value in
    let here : end ≡ value i = ap (λ (run : ChainRun). run.value) (c.end-item.is ∙ get_or_default c.args.ends.now i c.end-item.result idle (omega arith)) in
    let size : length end ≡ 32 = c.end-item.result.value_bytes.0 in
    record {
      items = c.append.ensures.items ∙ ap (λ s. s ++ end) c.loop-end.invariant.items
          ∙ append_assoc front (joined i value) end
          ∙ ap (λ s. front ++ s) (ap (λ s. joined i value ++ s) here ∙ sym (joined_more i value));
      len = omega (arith, size, c.append.ensures.len, c.loop-end.invariant.len);
      room = omega (arith, c.append.ensures.room, c.loop-end.invariant.room);
    }
