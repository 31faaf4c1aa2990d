use Rattle.std.proofs.Common.{◌∙◌, ap, List}
use Rattle.std.specs.Global.{Vec}
use Rattle.su_client.specs.Ahead.{without}
use Rattle.su_client.proofs.Sending.{without_none}
use Rattle.su_client.proofs.links.Link.new.Goals as goal

pub returns : goal.returns
returns g c = ap (λ (ms : List (Vec _)). without c.new.result ms) c.new-2.ensures.items ∙ without_none c.new.result ∙ c.new.ensures
