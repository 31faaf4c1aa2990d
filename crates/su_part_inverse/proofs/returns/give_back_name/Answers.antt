use Rattle.std.proofs.Common.{ap, subst, sym}
use Rattle.std.specs.Option.{is_some}
use Rattle.su_node.specs.InodeChange.{InodeChange.Named}
use Rattle.su_table.specs.Edit.{Edit.Inodes, edit}
use Rattle.su_part_forest.specs.Forest.{Stands}
use Rattle.su_part_forest.specs.Known.{StaysKnown}
use Rattle.su_part_inverse.proofs.Answering.{ok_of}
use Rattle.su_part_inverse.proofs.returns.give_back_name.Goals as goal

pub returns-in-Some-clause-stands : goal.returns-in-Some-clause-stands
returns-in-Some-clause-stands c F h known room =
    subst (λ o. Stands c.add_name-done.new.self (edit F (Inodes c.args.place (Named c.args.name o)))) (sym c.in-Some.is)
    (ok_of c.add_name-done.result (c.add_name-done.ensures.succeeds F h known (room (ap is_some c.in-Some.is))) (c.add_name-done.ensures.ok F h))

pub returns-in-Some-clause-known : goal.returns-in-Some-clause-known
returns-in-Some-clause-known c F h known room =
    subst (λ o. StaysKnown F (edit F (Inodes c.args.place (Named c.args.name o))) c.args.forest.now c.add_name-done.new.self) (sym c.in-Some.is)
    (ok_of c.add_name-done.result (c.add_name-done.ensures.succeeds F h known (room (ap is_some c.in-Some.is))) (c.add_name-done.ensures.known F h))
