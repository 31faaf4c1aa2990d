use Rattle.su_desk.proofs.GoodHistories.{good_headline}
use Rattle.su_desk.proofs.laws.good_histories_can_be_undone.Goals as goal

pub returns : goal.returns
returns c ro h good = good_headline ro h good
