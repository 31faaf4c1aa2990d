use Rattle.std.proofs.Common.{◌≡◌, ◌∙◌, ℕ, [], ◌∷◌, ◌++◌, None, Result, IfErr, rules, sym, ap, subst, append_assoc}
use Rattle.std.specs.Vec.Iter.{into_iter_items}
use Rattle.su_bytes.specs.Membership.{Membership}
use Rattle.su_bytes.specs.declared.refusals.Refusal.{Refusal}
use Rattle.su_desk.specs.Answer.{GoodAfter, refusal_of}
use Rattle.su_desk.specs.Desk.{DeskState, with_entry}
use Rattle.su_part_tree.specs.Loading.{IsLoadRefusal}
use Rattle.su_reasons.proofs.Public.{answers_accepted}
use Rattle.su_why.proofs.Quiets.{quiet_clear, stays_quiet}
use Rattle.su_why.proofs.searching.desk_after.Goals as goal

pub returns-in-Err-clause-refused : goal.returns-in-Err-clause-refused
returns-in-Err-clause-refused c = λ history_good.
    let d = c.loop-entry.desk.state.settled in
    let i = c.loop-entry.invariant in
    let e = c.in-Some.entry in
    let good = subst (λ es. GoodAfter c.args.roster d.history es) c.in-Some.ensures.steps.0 (i.good history_good) in
    let accepted = subst (λ (ro : Membership). refusal_of ro d.history e ≡ None) (sym i.roster) good.0 in
    let quiet = stays_quiet c.loop-entry.desk c.apply_as.new.self c.apply_as.ensures.asks i.quiet in
    let told = answers_accepted d e c.apply_as.result c.apply_as.new.self.state.settled (c.apply_as.ensures.answered (quiet_clear c.apply_as.new.self quiet)) accepted in
    c.without_loads.ensures.load (subst (λ (r : Result ℕ Refusal). IfErr r IsLoadRefusal) c.in-Err.is told.1)

pub loop-entry-preserved : goal.loop-entry-preserved
loop-entry-preserved c =
    let d = c.loop-entry.desk.state.settled in
    let i = c.loop-entry.invariant in
    let e = c.in-Some.entry in
    let rest = into_iter_items c.next.new.self in
    let step = c.in-Some.ensures.steps.0 in
    let quiet = stays_quiet c.loop-entry.desk c.apply_as.new.self c.apply_as.ensures.asks i.quiet in
    let done : c.apply_as.new.self.state.settled ≡ with_entry d e = (c.in_default.ensures.answered (quiet_clear c.apply_as.new.self quiet)).1 in
    record {
      none_ready = c.in_default.ensures.none_ready;
      roster = ap (λ (x : DeskState). x.roster) done ∙ i.roster;
      all = ap (λ (x : DeskState). x.history ++ rest) done
          ∙ append_assoc d.history (e ∷ []) rest
          ∙ ap (λ es. d.history ++ es) (sym step)
          ∙ i.all;
      good = λ history_good.
          subst (λ (x : DeskState). GoodAfter c.args.roster x.history rest) (sym done) (subst (λ es. GoodAfter c.args.roster d.history es) step (i.good history_good)).1;
      quiet = quiet;
      count = search rules;
    }
