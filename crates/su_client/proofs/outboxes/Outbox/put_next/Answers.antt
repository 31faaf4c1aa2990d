use Rattle.std.proofs.Common.{◌≡◌, ◌∙◌, ap, sym, subst, ℕ, List}
use Rattle.std.specs.Global.{Vec}
use Rattle.su_client.specs.Outbox.{PutsFirst}
use Rattle.su_client.specs.Following.{follows_on}
use Rattle.su_client.proofs.Ahead.{ahead_follows, puts_front}
use Rattle.su_client.proofs.outboxes.Outbox.put_next.Goals as goal

pub returns-in_default-clause-follows : goal.returns-in_default-clause-follows
returns-in_default-clause-follows g c = ahead_follows c.args.self.now.client.link c.send_ahead.new.self.client.link c.send_ahead.ensures.ahead

pub returns-in-Err-clause-follows : goal.returns-in-Err-clause-follows
returns-in-Err-clause-follows g c = follows_on c.args.self.now.client.link c.send_ahead.new.self.client.link c.put.new.self.link
    (ahead_follows c.args.self.now.client.link c.send_ahead.new.self.client.link c.send_ahead.ensures.ahead) c.put.ensures.follows

pub returns-clause-put : goal.returns-clause-put
returns-clause-put g c =
    subst (λ (ms : List (Vec ℕ)). PutsFirst ms c.args.self.now.client.link c.pop_front-put.new.self.items c.put.new.self.link)
    (ap (λ w. w.items) c.send_ahead.ensures.waiting)
    (puts_front c.send_ahead.new.self.waiting.items c.pop_front-put.new.self.items c.in-Some.item.now c.as_slice.result.now c.args.self.now.client.link c.send_ahead.new.self.client.link
    c.put.new.self.link c.in-Some.ensures.item.1 c.pop_front-put.ensures.rest c.as_slice.ensures.value c.send_ahead.ensures.ahead c.in_default-put.ensures.puts)

pub returns-clause-follows : goal.returns-clause-follows
returns-clause-follows g c = follows_on c.args.self.now.client.link c.send_ahead.new.self.client.link c.put.new.self.link
    (ahead_follows c.args.self.now.client.link c.send_ahead.new.self.client.link c.send_ahead.ensures.ahead) c.put.ensures.follows
