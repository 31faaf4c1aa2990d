use Rattle.sundr.proofs.clients.work.Goals as goal
use Rattle.sundr.proofs.Statuses.{by_status}

-- src/clients.rt:66:1
pub returns : goal.returns
returns g c before was =
    by_status (g.W.Write.contents c.args.writer.now) (g.W.Write.contents c.run_client-ending.new.output)
    before c.run_client-ending.result c.status.result was c.run_client-ending.ensures.adds c.status.ensures
