use Rattle.su_etcd.proofs.etcds.EtcdEngine.put_once.Goals as goal

pub returns-clause-held : goal.returns-clause-held
returns-clause-held g c = λ k v h. c.compare.ensures.has k v (c.create.ensures.has k v h)
