use Rattle.std.proofs.Common.{◌≡◌, ◌∷◌, [], ◌++◌, true, length, refl, sym, ap, ◌∙◌, append_assoc, arith, rules}
use Rattle.std.specs.Vec.Iter.{into_iter_items}
use Rattle.su_client_work.proofs.Public.{works_same, works_then}
use Rattle.su_client_script.proofs.Carrying.{on_err}
use Rattle.su_client_script.proofs.Adding.{appends_none}
use Rattle.su_client_script.proofs.Committing.{was_refused, was_done, not_behind, goes_on, ends, fails}
use Rattle.su_client_script.proofs.steps.commit_all.Goals as goal

pub loop-part-init : goal.loop-part-init
loop-part-init g c = record {
  works = works_same c.args.member.now c.args.member.now refl;
  whole = c.into_iter-part-iterator.ensures.into_iter_gives.0;
  count = search rules;
  place = refl;
  commits = ([], (refl, refl), appends_none (g.O.Write.contents c.args.output.now) (g.O.Write.contents c.args.output.now) refl);
}

pub returns-in_err-outcome-clause-works : goal.returns-in_err-outcome-clause-works
returns-in_err-outcome-clause-works g c =
    works_then c.args.member.now c.loop-part.member c.commit_one.new.member c.loop-part.invariant.works c.commit_one.ensures.works

pub returns-then-is_refused-clause-works : goal.returns-then-is_refused-clause-works
returns-then-is_refused-clause-works g c =
    works_then c.args.member.now c.loop-part.member c.commit_one.new.member c.loop-part.invariant.works c.commit_one.ensures.works

pub returns-in_err-outcome-clause-some : goal.returns-in_err-outcome-clause-some
returns-in_err-outcome-clause-some g c =
    let at = c.loop-part in
    let (r, one, printed) = c.commit_one.ensures.commits in
    let whole : at.yielded ++ c.in-Some.part ∷ into_iter_items c.next.new.self ≡ c.args.parts.items = ap (λ l. at.yielded ++ l) (sym c.in-Some.ensures.steps.0) ∙ at.invariant.whole in
    on_err c.from_residual.result _
    (fails g.P.Surroundings.may_connect (g.O.Write.contents c.args.output.now) (g.O.Write.contents at.output) c.args.parts.items at.yielded (into_iter_items c.next.new.self) c.in-Some.part
    c.args.member.now at.member c.commit_one.new.member _ whole at.invariant.place at.invariant.commits r one)

pub returns-then-is_refused-clause-commits : goal.returns-then-is_refused-clause-commits
returns-then-is_refused-clause-commits g c =
    let at = c.loop-part in
    let (r, one, printed) = c.in_ok-outcome.ensures.commits in
    let whole : at.yielded ++ c.in-Some.part ∷ into_iter_items c.next.new.self ≡ c.args.parts.items = ap (λ l. at.yielded ++ l) (sym c.in-Some.ensures.steps.0) ∙ at.invariant.whole in
    let (e, is) = was_refused _ r c.in_ok-outcome.outcome printed.0 (sym c.is_refused.ensures ∙ c.if-is_refused.true) in
    ends g.P.Surroundings.may_connect (g.O.Write.contents c.args.output.now) (g.O.Write.contents at.output) c.args.parts.items at.yielded (into_iter_items c.next.new.self) c.in-Some.part
    c.args.member.now at.member c.commit_one.new.member _ whole at.invariant.place at.invariant.commits (g.O.Write.contents c.commit_one.new.output) r e is one printed.1

pub loop-part-preserved : goal.loop-part-preserved
loop-part-preserved g c =
    let at = c.loop-part in
    let (r, one, printed) = c.in_ok-outcome.ensures.commits in
    let steps = c.in-Some.ensures.steps.0 in
    let whole : at.yielded ++ c.in-Some.part ∷ into_iter_items c.next.new.self ≡ c.args.parts.items = ap (λ l. at.yielded ++ l) (sym steps) ∙ at.invariant.whole in
    let (n, is) = was_done _ r c.in_ok-outcome.outcome printed.0 (sym c.is_refused.ensures ∙ c.if-is_refused.false) in
    record {
      works = works_then c.args.member.now at.member c.commit_one.new.member at.invariant.works c.commit_one.ensures.works;
      whole = append_assoc at.yielded (c.in-Some.part ∷ []) (into_iter_items c.next.new.self) ∙ whole;
      count =
          let was = at.invariant.count in
          let gone = c.in-Some.ensures.steps.1 in
          let short = ap length steps in
          omega arith;
      place = c.after-next.ensures ∙ sym (not_behind true at.yielded c.in-Some.part);
      commits = goes_on g.P.Surroundings.may_connect (g.O.Write.contents c.args.output.now) (g.O.Write.contents at.output) c.args.parts.items at.yielded (into_iter_items c.next.new.self) c.in-Some.part
          c.args.member.now at.member c.commit_one.new.member _ whole at.invariant.place at.invariant.commits (g.O.Write.contents c.commit_one.new.output) r n is one printed.1;
    }
