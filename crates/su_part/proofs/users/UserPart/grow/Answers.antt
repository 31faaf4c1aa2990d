use Rattle.std.proofs.Common.{subst, OnOk}
use Rattle.su_table.specs.Query.{size_at}
use Rattle.su_part.specs.Known.{StaysKnown}
use Rattle.su_part.specs.Part.{StandsUser}
use Rattle.su_part.proofs.UserLemmas.{grown_edit}
use Rattle.su_part.proofs.users.UserPart.grow.Goals as goal

pub returns-clause-ok : goal.returns-clause-ok
returns-clause-ok c u T h there le =
    subst (λ S. OnOk c.write_at.result (StandsUser u c.write_at.new.self S)) (grown_edit T (u, c.args.number) (size_at T (u, c.args.number)) c.args.size le) (c.write_at.ensures.ok u T h there)

pub returns-clause-known : goal.returns-clause-known
returns-clause-known c u T h there le =
    subst (λ S. OnOk c.write_at.result (StaysKnown u T S c.args.self.now c.write_at.new.self)) (grown_edit T (u, c.args.number) (size_at T (u, c.args.number)) c.args.size le) (c.write_at.ensures.known u T h there)
