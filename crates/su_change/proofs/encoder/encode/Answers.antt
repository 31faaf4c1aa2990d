use Rattle.std.proofs.Common.{◌∙◌}
use Rattle.su_change.proofs.Items.{item_size}
use Rattle.su_change.proofs.encoder.encode.Goals as goal

pub returns-in-Ok-clause-size : goal.returns-in-Ok-clause-size
returns-in-Ok-clause-size c =
    item_size c.args.change.now c.finish.result.items (c.finish.ensures ∙ c.in-Ok.ensures.1) c.in-Ok.ensures.0 c.in_ok-size.ensures.item
