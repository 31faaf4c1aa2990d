use Rattle.std.proofs.Common.{◌≡◌, ◌∙◌, ⊎_elim, inl, inr, refl, ap, subst}
use Rattle.std.specs.Prelude.{List, Contains}
use Rattle.std.specs.Global.{Vec}
use Rattle.su_desk.specs.declared.entries.Entry.{Entry}
use Rattle.su_desk.specs.Trial.{TrialState}
use Rattle.su_part_forest.specs.Loading.{HashedFor}
use Rattle.su_stored_desk.specs.Asked.{IsClear as IsDeskClear, NoneMixed}
use Rattle.su_view.specs.Viewed.{ViewOn}
use Rattle.su_view.proofs.AskLemmas.{asks_seen, tree_so}
use Rattle.su_view.proofs.KeepingLemmas.{keeping_desk}
use Rattle.su_view.proofs.views.View.shed.Given.{Over}
use Rattle.su_view.proofs.views.View.shed.Goals as goal

pub invariant_of-self : goal.invariant_of-self
invariant_of-self g c = keeping_desk g.S.BlockSource.may_give c.self.inside.keeping (record c.self.inside.keeping { desk = c.take_back.new.self }) c.self.invariant refl (c.in_err-take_back.ensures.err) (c.take_back.ensures.asks.clear)

-- what is settled, and when it was asked, is the same once it is shed
settled : (g : Over) (c : goal.After-shed g) → c.shed.new.self.state.settled ≡ c.self.inside.keeping.desk.state.settled
settled g c = ap (λ (t : TrialState). t.settled) (c.shed.ensures.state ∙ c.in_ok-take_back.ensures.ok)

before : (g : Over) (c : goal.After-shed g) → IsDeskClear g.S.BlockSource.may_give c.shed.new.self → IsDeskClear g.S.BlockSource.may_give c.take_back.new.self
before g c clear =
    subst (NoneMixed g.S.BlockSource.may_give c.take_back.new.self.state.settled.roster) c.shed.ensures.asked
    (subst (λ (t : TrialState). NoneMixed g.S.BlockSource.may_give t.settled.roster c.shed.new.self.asked) c.shed.ensures.state clear)

pub invariant_of-self-2 : goal.invariant_of-self-2
invariant_of-self-2 g c = keeping_desk g.S.BlockSource.may_give c.self.inside.keeping (record c.self.inside.keeping { desk = c.shed.new.self }) c.self.invariant refl (settled g c) (λ clear. c.take_back.ensures.asks.clear (before g c clear))

pub returns-in_err-take_back-clause-only : goal.returns-in_err-take_back-clause-only
returns-in_err-take_back-clause-only g c = (asks_seen c.self.inside.keeping c.args.self.now c.take_back.new.self c.self.view_is c.take_back.ensures.asks).only

pub returns-clause-only : goal.returns-clause-only
returns-clause-only g c a was =
    (asks_seen c.self.inside.keeping c.args.self.now c.take_back.new.self c.self.view_is c.take_back.ensures.asks).only a
    (subst (λ (l : List (g.row.S.Denot × Vec Entry)). Contains l a) c.shed.ensures.asked was)

pub returns-clause-more : goal.returns-clause-more
returns-clause-more g c clear i gives =
    ⊎_elim (λ was. inl (subst (λ (x : ViewOn g.row.S.Denot). g.S.BlockSource.may_give x.source i) c.self.view_is (c.take_back.ensures.asks.source.no_more i was)))
    (λ hashed. inr (subst (λ T. HashedFor T i) (tree_so c.self.inside.keeping c.self.invariant c.args.self.now c.self.view_is c.take_back.new.self.state c.in_ok-take_back.ensures.ok) hashed))
    (c.shed.ensures.more (before g c clear) i gives)
