use Rattle.std.proofs.Common.{◌∙◌, ap, arith, inl, length, sym}
use Rattle.su_client.specs.Following.{follows_itself, follows_on}
use Rattle.su_client_work.specs.Member.{MemberState}
use Rattle.su_client_work.proofs.Taking.{only_stays, only_then}
use Rattle.su_client_work.proofs.Turns.{caught_one, lacks_many, stays_itself}
use Rattle.su_client_work.proofs.members.Member.take_many.Goals as goal

pub loop-before-init : goal.loop-before-init
loop-before-init g c =
    let told = ap (λ p. p.0) c.head-held.ensures.value in
    let held = ap (λ (x : MemberState). length x.holding.held) c.self.view_is in
    record {
      takes = only_stays c.args.self.now c.args.self.now (stays_itself c.args.self.now);
      follows = follows_itself c.args.self.now.link;
      caught_up = inl (omega (arith, told, held));
    }

pub returns-in_err-take_next-clause-takes : goal.returns-in_err-take_next-clause-takes
returns-in_err-take_next-clause-takes g c = only_then c.args.self.now c.loop-before.self c.take_next.new.self c.loop-before.invariant.takes c.take_next.ensures.takes

pub returns-in_err-take_next-clause-follows : goal.returns-in_err-take_next-clause-follows
returns-in_err-take_next-clause-follows g c =
    follows_on c.args.self.now.link c.loop-before.self.link c.take_next.new.self.link c.loop-before.invariant.follows c.take_next.ensures.follows

pub loop-before-preserved : goal.loop-before-preserved
loop-before-preserved g c = record {
  takes = only_then c.args.self.now c.loop-before.self c.take_next.new.self c.loop-before.invariant.takes c.take_next.ensures.takes;
  follows = follows_on c.args.self.now.link c.loop-before.self.link c.take_next.new.self.link c.loop-before.invariant.follows c.take_next.ensures.follows;
  caught_up = caught_one c.loop-before.before c.loop-before.self.holding c.take_next.new.self.holding c.args.self.now.link c.loop-before.self.link c.take_next.new.self.link
      c.loop-before.invariant.follows c.take_next.ensures.follows c.loop-before.invariant.caught_up c.in_ok-take_next.ensures.more;
}

pub returns-then-lacks_many-clause-caught_up : goal.returns-then-lacks_many-clause-caught_up
returns-then-lacks_many-clause-caught_up g c =
    lacks_many c.args.count c.loop-before.before c.loop-before.self.holding c.args.self.now.link c.loop-before.self.link (sym c.lacks_many.ensures ∙ c.if-lacks_many.true)
    c.loop-before.invariant.caught_up
