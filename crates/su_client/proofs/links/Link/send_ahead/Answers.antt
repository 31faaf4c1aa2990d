use Rattle.std.proofs.Common.{◌≡◌, ◌∙◌, ap, sym, false}
use Rattle.su_client.specs.Link.{LinkState}
use Rattle.su_client.proofs.Sending.{fails, goes}
use Rattle.su_client.proofs.links.Link.send_ahead.Goals as goal

pub returns-then-not-send : goal.returns-then-not-send
returns-then-not-send g c =
    let works : c.self.inside.wire.failed ≡ false = ap (λ (l : LinkState). l.failed) c.self.view_is ∙ sym c.has_failed.ensures ∙ c.if-has_failed.false in
    fails c.args.self.now c.self.inside.wire c.self.inside.ahead.items c.self.view_is c.clear.new.self.items c.send.new.self c.fail.new.self works c.if-not-send.ensures c.fail.ensures c.clear.ensures.items

pub returns : goal.returns
returns g c =
    let works : c.self.inside.wire.failed ≡ false = ap (λ (l : LinkState). l.failed) c.self.view_is ∙ sym c.has_failed.ensures ∙ c.if-has_failed.false in
    goes c.args.self.now c.self.inside.wire c.self.inside.ahead.items c.self.view_is c.as_slice.result.now c.in-Ok.message c.reserve.new.self.items c.push_back_reserved.new.self.items
    c.send.new.self c.reserve.ensures.items c.push_back_reserved.ensures.items c.as_slice.ensures.value works c.if-not-send.ensures
