use Rattle.std.proofs.Common.{ap, Ok}
use Rattle.su_reading.proofs.Public.{ends}
use Rattle.su_read_draft.proofs.Steps.{name_led}
use Rattle.su_read_draft.proofs.walks.led_to.Goals as goal

pub returns : goal.returns
returns g c = record { works_out = ends c.led_to.ensures.finds (λ T b is. ap Ok (name_led T c.args.place c.args.name.now b is)) (λ T e none. absurd none) }
