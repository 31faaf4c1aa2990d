use Rattle.std.proofs.Common.{◌≡◌, ◌∙◌, sym, arith, length}
use Rattle.su_client.proofs.Sending.{other_first, same_bytes, sent_alone, sent_first}
use Rattle.su_client.proofs.links.Link.is_sent.Goals as goal

pub returns-in_default : goal.returns-in_default
returns-in_default g c =
    sent_alone c.args.self.now c.self.inside.wire c.self.inside.ahead.items c.self.view_is c.args.message.now c.send.new.self c.pop_front.new.self.items c.send.result
    c.in_default.ensures.items (omega (arith, c.in_default.ensures.cases, c.self.inside.ahead.ok)) c.send.ensures

pub returns-then-ne : goal.returns-then-ne
returns-then-ne g c =
    other_first c.args.self.now c.self.inside.wire c.self.inside.ahead.items c.self.view_is c.in-Some.first c.pop_front.new.self.items c.in-Some.ensures.items

pub returns : goal.returns
returns g c =
    sent_first c.args.self.now c.self.inside.wire c.self.inside.ahead.items c.self.view_is c.args.message.now c.in-Some.first c.pop_front.new.self.items c.in-Some.ensures.items
    (sym c.as_slice.ensures.value ∙ same_bytes c.as_slice.result.now c.args.message.now c.if-ne.ensures)
