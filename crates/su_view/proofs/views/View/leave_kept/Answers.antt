use Rattle.std.proofs.Common.{◌≡◌, ◌∙◌, ⊎_elim, inl, inr, refl, sym, ap, subst}
use Rattle.std.specs.Prelude.{List, Contains}
use Rattle.std.specs.Global.{Vec}
use Rattle.su_desk.specs.declared.entries.Entry.{Entry}
use Rattle.su_desk.specs.Trial.{TrialState, nothing_ready}
use Rattle.su_stored_desk.specs.Asked.{IsClear as IsDeskClear, NoneMixed}
use Rattle.su_stored_desk.specs.Hashed.{WasHashed}
use Rattle.su_view.specs.Viewed.{desk_of, ViewOn}
use Rattle.su_view.proofs.AskLemmas.{asks_seen}
use Rattle.su_view.proofs.KeepingLemmas.{keeping_desk}
use Rattle.su_view.proofs.views.View.leave_kept.Given.{Over}
use Rattle.su_view.proofs.views.View.leave_kept.Goals as goal

pub invariant_of-self : goal.invariant_of-self
invariant_of-self g c = keeping_desk g.S.BlockSource.may_give c.self.inside.keeping (record c.self.inside.keeping { desk = c.take_back.new.self }) c.self.invariant refl (c.in_err-take_back.ensures.err) (c.take_back.ensures.asks.clear)

-- what is settled, and when it was asked, is the same once it is shed
settled : (g : Over) (c : goal.After-leave_kept g) → c.leave_kept.new.self.state.settled ≡ c.self.inside.keeping.desk.state.settled
settled g c = ap (λ (t : TrialState). t.settled) (c.leave_kept.ensures.state ∙ c.in_ok-take_back.ensures.ok)

before : (g : Over) (c : goal.After-leave_kept g) → IsDeskClear g.S.BlockSource.may_give c.leave_kept.new.self → IsDeskClear g.S.BlockSource.may_give c.take_back.new.self
before g c clear =
    subst (NoneMixed g.S.BlockSource.may_give c.take_back.new.self.state.settled.roster) c.leave_kept.ensures.asked
    (subst (λ (t : TrialState). NoneMixed g.S.BlockSource.may_give t.settled.roster c.leave_kept.new.self.asked) c.leave_kept.ensures.state clear)

pub invariant_of-self-2 : goal.invariant_of-self-2
invariant_of-self-2 g c = keeping_desk g.S.BlockSource.may_give c.self.inside.keeping (record c.self.inside.keeping { desk = c.leave_kept.new.self }) c.self.invariant refl (settled g c) (λ clear. c.take_back.ensures.asks.clear (before g c clear))

pub returns-in_err-take_back-clause-only : goal.returns-in_err-take_back-clause-only
returns-in_err-take_back-clause-only g c = (asks_seen c.self.inside.keeping c.args.self.now c.take_back.new.self c.self.view_is c.take_back.ensures.asks).only

pub returns-clause-only : goal.returns-clause-only
returns-clause-only g c a was =
    (asks_seen c.self.inside.keeping c.args.self.now c.take_back.new.self c.self.view_is c.take_back.ensures.asks).only a
    (subst (λ (l : List (g.row.S.Denot × Vec Entry)). Contains l a) c.leave_kept.ensures.asked was)

-- the desk of the view, once nothing stands ready
same : (g : Over) (c : goal.After-leave_kept g) → c.take_back.new.self.state ≡ (desk_of c.args.self.now).state
same g c =
    c.in_ok-take_back.ensures.ok
    ∙ ap (λ (es : List Entry). nothing_ready (record { roster = c.self.inside.keeping.desk.state.settled.roster; history = es })) (sym c.self.invariant.entries)
    ∙ ap (λ (x : ViewOn g.row.S.Denot). (desk_of x).state) c.self.view_is

pub returns-clause-more : goal.returns-clause-more
returns-clause-more g c clear i gives =
    ⊎_elim (λ was. inl (subst (λ (x : ViewOn g.row.S.Denot). g.S.BlockSource.may_give x.source i) c.self.view_is (c.take_back.ensures.asks.source.no_more i was)))
    (λ hashed. inr (subst (λ (t : TrialState). WasHashed t i) (same g c) hashed))
    (c.leave_kept.ensures.more (before g c clear) i gives)
