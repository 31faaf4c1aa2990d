use Rattle.std.proofs.Common.{◌≡◌, ◌*◌, ◌-◌, ◌%◌, ◌^◌, ℕ, min, length, slice_index, ap, ◌∙◌, subst, arith, inl, inr}
use Rattle.std.proofs.lemmas.Bool.{cases_lt}
use Rattle.sha_lanes.specs.Run.{place_in, run_at}
use Rattle.sha_lanes.proofs.Ends.{has_run, runs_on_more}
use Rattle.sha_lanes.proofs.orders.run_chains.Goals as goal

pub loop-group-preserved : goal.loop-group-preserved
loop-group-preserved c = record {
  size = omega (arith, c.loop-group.invariant.size);
  order_size = omega (arith, c.loop-group.invariant.order_size);
  order = c.loop-group.invariant.order;
  on = λ k. runs_on_more (run_at c.args.runs.now k) (run_at c.loop-group.runs k) (run_at c.run_group.new.runs k) (c.loop-group.invariant.on k) (c.run_group.ensures.on k);
  ended = λ p low. elim (cases_lt p (8 * c.loop-group.group)) [
    | inl before ↦ c.run_group.ensures.kept (place_in c.set_order.new.order p) (c.loop-group.invariant.ended p before)
    | inr at ↦ c.run_group.ensures.ended p (omega arith) (omega arith)
  ];
}

pub returns : goal.returns
returns c = λ k low.
    let there = c.loop-group.invariant.order.all k (omega (arith, c.loop-group.invariant.size, c.loop-group.invariant.order_size)) in
    let at : min there.0 (length c.set_order.new.order - 1) ≡ there.0 = omega (arith, there.1) in
    let place : place_in c.set_order.new.order there.0 ≡ k = ap (λ n. slice_index c.set_order.new.order n % 2 ^ 16) at ∙ there.2 in
    has_run (run_at c.args.runs.now k) (run_at c.loop-group.runs k) (c.loop-group.invariant.on k)
    (subst (λ (n : ℕ). (run_at c.loop-group.runs n).left ≡ 0) place (c.loop-group.invariant.ended there.0 (omega (arith, there.1, c.loop-group.invariant.size, c.loop-group.invariant.order_size))))
