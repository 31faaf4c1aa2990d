use Rattle.su_desk.proofs.Operations.{live_ascend}
use Rattle.su_desk.proofs.laws.live_numbers_ascend.Goals as goal

pub returns : goal.returns
returns c = live_ascend
