use Rattle.su_part.proofs.FreshLemmas.{bare_user, bare_inode}
use Rattle.su_part.proofs.users.UserPart.empty.Goals as goal

pub returns-clause-stands : goal.returns-clause-stands
returns-clause-stands c u T none = bare_user u T _ none c.empty.ensures.stands c.new.ensures.empty

pub returns-clause-all : goal.returns-clause-all
returns-clause-all c n = bare_inode _ c.empty.ensures.all c.empty.ensures.stands c.empty.ensures.reached n
