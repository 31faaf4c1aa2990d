use Rattle.std.proofs.Common.{[], sym, ap, subst}
use Rattle.su_desk.specs.Answer.{Good}
use Rattle.su_desk.specs.Desk.{DeskState}
use Rattle.su_desk.proofs.GoodHistories.{good_headline}
use Rattle.su_stored_desk.specs.Asked.{IsClear}
use Rattle.su_stored_desk.proofs.Clearness.{known}
use Rattle.su_stored_desk.proofs.JoinedLemmas.{front_good}
use Rattle.su_stored_desk.proofs.trials.TrialDesk.history.Goals as goal

-- the history of what is settled is the beginning of a good one
pub returns-clause-good : goal.returns-clause-good
returns-clause-good g c clear =
    let s = c.self.inside in
    let v = c.args.self.now.state in
    let m = g.S.BlockSource.may_give in
    let k = known m s.desk s.tried.items s.asked.items v (ap (λ t. t.state) c.self.view_is) c.self.invariant in
    let right = k.right (subst (IsClear m) (sym c.self.view_is) clear) in
    front_good v.settled.roster [] v.settled.history v.ready (subst (λ (x : DeskState). Good x.roster x.history) k.seen.whole right.keeps.good)

pub returns-clause-headline : goal.returns-clause-headline
returns-clause-headline g c clear =
    let d = c.args.self.now.state.settled in good_headline d.roster d.history (returns-clause-good g c clear)
