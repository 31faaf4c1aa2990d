use Rattle.std.proofs.Common.{◌≡◌, ◌∙◌, ap, sym, refl, false, true}
use Rattle.su_client.specs.Link.{LinkState}
use Rattle.su_client.specs.Following.{follows_itself}
use Rattle.su_client.proofs.Sending.{given_first, given_none, passed_first, passed_none, reads_heard}
use Rattle.su_client.proofs.links.Link.pass_one.Goals as goal

pub returns-then-has_failed-clause-follows : goal.returns-then-has_failed-clause-follows
returns-then-has_failed-clause-follows g c = follows_itself c.args.self.now

pub returns-in_default-clause-follows : goal.returns-in_default-clause-follows
returns-in_default-clause-follows g c = passed_none c.args.self.now c.self.inside.wire c.self.inside.ahead.items c.self.view_is c.pop_front.new.self.items c.in_default.ensures.items

pub returns-in_default-clause-no_more : goal.returns-in_default-clause-no_more
returns-in_default-clause-no_more g c = λ s. given_none c.args.self.now c.self.inside.wire c.self.inside.ahead.items c.self.view_is s c.pop_front.new.self.items c.in_default.ensures.items

pub returns-in_default-reply-clause-follows : goal.returns-in_default-reply-clause-follows
returns-in_default-reply-clause-follows g c =
    let works : c.self.inside.wire.failed ≡ false = ap (λ (l : LinkState). l.failed) c.self.view_is ∙ sym c.has_failed.ensures ∙ c.if-has_failed.false in
    passed_first c.args.self.now c.self.inside.wire c.self.inside.ahead.items c.self.view_is c.in-Some.first c.pop_front.new.self.items c.reply.new.self c.fail.new.self c.in-Some.ensures.items works
    c.in_default-reply.ensures true c.fail.ensures

pub returns-in_default-reply-clause-no_more : goal.returns-in_default-reply-clause-no_more
returns-in_default-reply-clause-no_more g c =
    λ s may. absurd (let bad : false ≡ true = sym may.0 ∙ ap (λ (l : LinkState). l.failed) c.fail.ensures in cc)

pub returns-clause-follows : goal.returns-clause-follows
returns-clause-follows g c =
    let works : c.self.inside.wire.failed ≡ false = ap (λ (l : LinkState). l.failed) c.self.view_is ∙ sym c.has_failed.ensures ∙ c.if-has_failed.false in
    passed_first c.args.self.now c.self.inside.wire c.self.inside.ahead.items c.self.view_is c.in-Some.first c.pop_front.new.self.items c.reply.new.self c.reply.new.self c.in-Some.ensures.items works
    (reads_heard c.self.inside.wire c.in-Some-reply.field-0 c.reply.new.self c.in-Some-reply.ensures) c.reply.new.self.failed refl

pub returns-clause-no_more : goal.returns-clause-no_more
returns-clause-no_more g c =
    let works : c.self.inside.wire.failed ≡ false = ap (λ (l : LinkState). l.failed) c.self.view_is ∙ sym c.has_failed.ensures ∙ c.if-has_failed.false in
    λ s. given_first c.args.self.now c.self.inside.wire c.self.inside.ahead.items c.self.view_is s c.in-Some-reply.field-0 c.reply.new.self c.pop_front.new.self.items works c.in-Some-reply.ensures
