use Rattle.std.proofs.Common.{◌≡◌, inr, subst, sym, Result, Ok, Err, IfErr}
use Rattle.su_client.specs.Following.{follows_on}
use Rattle.su_view.specs.Holding.{HoldingState}
use Rattle.su_client_work.specs.Turn.{PassesShown, TakesTurn}
use Rattle.su_client_work.proofs.Turns.{comes_on, gives_up, gives_up_after}
use Rattle.su_client_work.proofs.members.Member.look_some.Goals as goal

if_err_all : {A : Type 0} {E : Type 0} (P : E → Type 0) (r : Result A E) → ((e : E) → P e) → IfErr r P
if_err_all P (Ok x) all = tt
if_err_all P (Err e) all = all e

-- ---- the list lacks many

pub returns-clause-link : goal.returns-clause-link
returns-clause-link g c =
    comes_on _ c.args.self.now.link c.take_turn.new.self.link c.give_up.new.self.link c.take_turn.ensures.link
    (follows_on c.take_turn.new.self.link c.catch_up_some-caught_up.new.self.link c.give_up.new.self.link c.catch_up_some-caught_up.ensures.follows c.give_up.ensures.follows)

pub returns-clause-refused : goal.returns-clause-refused
returns-clause-refused g c = if_err_all _ c.match-caught_up.caught_up (λ e. inr (record {
  count = _;
  last = _;
  turn = c.take_turn.new.self.link;
  granted = c.in-Ok.ensures.granted;
  gives_up = gives_up_after c.take_turn.new.self.link c.catch_up_some-caught_up.new.self.link c.give_up.new.self.link
      c.catch_up_some-caught_up.ensures.follows c.give_up.ensures.gives_up;
}))

-- ---- it has caught up

pub returns-in_err-give-clause-link : goal.returns-in_err-give-clause-link
returns-in_err-give-clause-link g c =
    comes_on _ c.args.self.now.link c.take_turn.new.self.link c.give.new.self.link c.take_turn.ensures.link
    (follows_on c.take_turn.new.self.link c.catch_up_some-caught_up.new.self.link c.give.new.self.link c.catch_up_some-caught_up.ensures.follows c.give.ensures.follows)

pub returns-in-Ok-false-clause-link : goal.returns-in-Ok-false-clause-link
returns-in-Ok-false-clause-link g c =
    comes_on _ c.args.self.now.link c.take_turn.new.self.link c.give.new.self.link c.take_turn.ensures.link
    (follows_on c.take_turn.new.self.link c.catch_up_some-caught_up.new.self.link c.give.new.self.link c.catch_up_some-caught_up.ensures.follows c.give.ensures.follows)

pub returns-in_err-give-clause-refused : goal.returns-in_err-give-clause-refused
returns-in_err-give-clause-refused g c = if_err_all _ c.from_residual.result (λ e. inr (record {
  count = _;
  last = _;
  turn = c.take_turn.new.self.link;
  granted = c.in-Ok.ensures.granted;
  gives_up = gives_up_after c.take_turn.new.self.link c.catch_up_some-caught_up.new.self.link c.give.new.self.link c.catch_up_some-caught_up.ensures.follows
      (gives_up c.give.result c.catch_up_some-caught_up.new.self.link c.give.new.self.link c.give.ensures.given c.give.ensures.refused);
}))

pub returns-in-Ok-false-clause-looks : goal.returns-in-Ok-false-clause-looks
returns-in-Ok-false-clause-looks g c =
    let value = c.as_slice.ensures.value in
    let same = c.last.view_is in
    let shown : c.as_slice.result.now ≡ c.in-Ok.granted.1 = cc in
    λ none. record {
      between = c.catch_up_some-caught_up.new.self.link;
      takes_turn = subst (λ (v : HoldingState). TakesTurn g.A.Surroundings.may_connect c.args.self.now.link v c.catch_up_some-caught_up.new.self.link)
          (sym c.give.ensures.stays.holding) (record {
            count = _;
            last = _;
            turn = c.take_turn.new.self.link;
            granted = c.in-Ok.ensures.granted;
            caught_up = c.in-Ok-false.ensures.caught_up c.in-Ok-false.field-0-test;
            passes = subst (λ l. PassesShown c.catch_up_some-caught_up.new.self.holding l c.take_turn.new.self.link c.catch_up_some-caught_up.new.self.link) shown
                (c.in-Ok-false.ensures.passes c.in-Ok-false.field-0-test);
          });
      gives = c.in_ok-give.ensures.given;
    }
