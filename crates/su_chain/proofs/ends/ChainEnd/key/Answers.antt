use Rattle.std.proofs.Common.{◌≡◌, ◌<◌, length, true, ap, ◌∙◌, arith}
use Rattle.su_bytes.specs.Principal.{is_user}
use Rattle.su_chain.specs.ChainEnd.{user_at}
use Rattle.su_chain.specs.declared.ends.UserKey.{UserKey}
use Rattle.su_chain.proofs.EndLemmas.{user_read}
use Rattle.su_chain.proofs.ends.ChainEnd.key.Goals as goal

pub index-requires : goal.index-requires
index-requires c = omega (arith, c.requires)

pub returns : goal.returns
returns c ro cs end =
    let user : c.from.result ≡ c.args.user = c.from.ensures ∙ c.number.ensures.value in
    let inside : c.from.result < length c.args.self.now.users.items = omega (arith, c.requires) in
    let read = user_read c.args.self.now.users.items c.from.result c.index.result.now c.index.ensures inside ∙ ap (user_at c.args.self.now.users.items) user in
    let is : is_user c.args.user ≡ true = grind (arith, c.number.ensures.range, c.number.ensures.value) in
    ap (λ (x : UserKey). x.key) read ∙ end.keys c.args.user is
