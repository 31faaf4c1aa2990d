use Rattle.std.proofs.Common.{rules, arith, ◌∙◌, length, sym, ap}
use Rattle.std.proofs.lemmas.List.{nil_from_length}
use Rattle.std.specs.Vec.Iter.{into_iter_items}
use Rattle.su_bad.specs.Script.{after_all}
use Rattle.su_bad.proofs.servers.BadServer.run_script.Goals as goal

pub loop-step-init : goal.loop-step-init
loop-step-init c = record {
  left = ap (λ steps. after_all steps c.args.self.now) c.into_iter-step-iterator.ensures.into_iter_gives.0;
  count = search rules;
}

pub loop-step-preserved : goal.loop-step-preserved
loop-step-preserved c =
    let at = c.loop-step in
    let steps = c.in-Some.ensures.steps.0 in
    record {
      left = ap (after_all (into_iter_items c.next.new.self)) c.in_ok-take_step.ensures
          ∙ sym (ap (λ script. after_all script at.self) steps) ∙ at.invariant.left;
      count =
          let was = at.invariant.count in
          let gone = c.in-Some.ensures.steps.1 in
          let short = ap length steps in
          omega arith;
    }

pub returns : goal.returns
returns c =
    let at = c.loop-step in
    let none = nil_from_length (into_iter_items at.step-iterator) (sym at.invariant.count ∙ c.in-None.ensures.steps.0) in
    sym (ap (λ script. after_all script at.self) none) ∙ at.invariant.left
