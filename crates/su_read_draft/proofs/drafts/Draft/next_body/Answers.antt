use Rattle.su_reading.proofs.Public.{ends}
use Rattle.su_draft.specs.Draft.{next_body}
use Rattle.su_read_draft.proofs.drafts.Draft.next_body.Goals as goal

pub returns : goal.returns
unfolding next_body
returns g c = record { works_out = ends c.free_body.ensures.works_out (λ T b is. is) (λ T e is. is) }
