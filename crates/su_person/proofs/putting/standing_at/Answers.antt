use Rattle.su_client_work.proofs.Public.{asks_then}
use Rattle.su_person.proofs.PutLemmas.{no_name, stands_file}
use Rattle.su_person.proofs.putting.standing_at.Goals as goal

pub returns-in-Ok-clause-asks : goal.returns-in-Ok-clause-asks
returns-in-Ok-clause-asks g c = asks_then c.args.member.now c.find_held.new.self c.file_at.new.member c.find_held.ensures.asks c.file_at.ensures.asks

pub returns-in-Ok-clause-standing : goal.returns-in-Ok-clause-standing
returns-in-Ok-clause-standing g c = λ clear.
    stands_file c.file_at.result c.args.member.now.holding c.find_held.new.self.holding c.args.path.now c.in-Ok.file c.find_held.ensures.asks.holding
    (c.in-Ok.ensures.found (c.file_at.ensures.asks.clear clear)) (c.file_at.ensures.standing clear)
