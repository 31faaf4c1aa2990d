use Rattle.su_part.proofs.TableLemmas.{left_user}
use Rattle.su_part.proofs.users.UserPart.stub.Goals as goal

pub returns : goal.returns
returns c u T meant is = left_user u T meant _ c.args.i_handle is c.stub.ensures c.new.ensures.empty
