use Rattle.su_table.proofs.Stores.{genesis-made}
use Rattle.su_table.proofs.forests.Forest.genesis.Goals as goal

pub returns-clause-value : goal.returns-clause-value
returns-clause-value c = genesis-made c.in_ok-forest.forest c.put_inode.new.self c.put_pointer.new.self c.new-root.result c.in_ok-forest.ensures c.in_ok-put_inode.ensures.ok c.in_ok-put_pointer.ensures.ok c.new-root.ensures
