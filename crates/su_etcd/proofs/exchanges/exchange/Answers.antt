use Rattle.std.proofs.Common.{◌≡◌, drop, subst, rules}
use Rattle.std.proofs.lemmas.List.{take_rest}
use Rattle.su_gateway.specs.Replies.{IsResponse}
use Rattle.su_etcd.proofs.exchanges.exchange.Goals as goal

pub returns-in-Ok-from_slice-clause-replied : goal.returns-in-Ok-from_slice-clause-replied
returns-in-Ok-from_slice-clause-replied g c =
    let bytes = c.read_to_end.new.buf.items in
    let same : drop c.in-Some.start bytes ≡ c.in-Ok-from_slice.reply.items = search (rules, take_rest) in
    let is : IsResponse bytes (drop c.in-Some.start bytes) = search rules in
    (bytes, search rules, subst (λ b. IsResponse bytes b) same is)
