use Rattle.su_format.proofs.Public.{goes_on, first_refused, handed_on}
use Rattle.su_change.specs.Item.{marked_format}
use Rattle.su_change.proofs.decoder.read_marked.Goals as goal

pub returns-in_err-take_mark : goal.returns-in_err-take_mark
unfolding marked_format
returns-in_err-take_mark c =
    handed_on _ _ c.from_residual.ensures.1 (first_refused _ _ c.in_err-take_mark.ensures.refused.0)

pub returns : goal.returns
unfolding marked_format
returns c = goes_on _ _ _ _ _ _ _ c.in_ok-take_mark.ensures.found c.read_tagged.ensures
