use Rattle.std.proofs.Common.{◌≡◌, rules}
use Rattle.su_etcd.proofs.ToldLemmas.{popped}
use Rattle.su_etcd.proofs.etcds.value_of.Goals as goal

pub returns-clause-found : goal.returns-clause-found
returns-clause-found c =
    let same : c.in-Some.pair.key.items ≡ c.args.key.now = search rules in
    popped c.args.pairs.items c.pop.new.self.items c.in-Some.pair c.args.key.now c.in-Some.ensures.items same
