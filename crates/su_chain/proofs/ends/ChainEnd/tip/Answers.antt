use Rattle.std.proofs.Common.{◌≡◌, ◌<◌, length, ap, ◌∙◌, arith}
use Rattle.su_chain.specs.ChainEnd.{user_at}
use Rattle.su_chain.proofs.EndLemmas.{user_read}
use Rattle.su_chain.proofs.ends.ChainEnd.tip.Goals as goal

pub returns-clause-tip : goal.returns-clause-tip
returns-clause-tip c used =
    let user : c.from.result ≡ c.args.user = c.from.ensures ∙ c.number.ensures.value in
    let inside : c.from.result < length c.args.self.now.users.items = omega (arith, c.requires) in
    let read = user_read c.args.self.now.users.items c.from.result c.index-user.result.now c.index-user.ensures inside ∙ ap (user_at c.args.self.now.users.items) user in
    c.new.ensures.tip used ∙ (λ i. record { number = c.args.self.now.number; head = c.args.self.now.head; format = c.args.self.now.format; vector = c.args.self.now.vector; key = (read i).key; leaf = (read i).leaf; used = used })
