use Rattle.std.proofs.Common.{ap, subst, sym}
use Rattle.std.specs.Option.{is_some}
use Rattle.su_table.specs.Edit.{Edit.Pointers, edit}
use Rattle.su_part_forest.specs.Forest.{Stands}
use Rattle.su_part_forest.specs.Known.{StaysKnown}
use Rattle.su_part_inverse.proofs.Answering.{ok_of}
use Rattle.su_part_inverse.proofs.returns.give_back_pointer.Goals as goal

pub returns-in-Some-clause-stands : goal.returns-in-Some-clause-stands
returns-in-Some-clause-stands c F h known room =
    subst (λ o. Stands c.put_pointer-done.new.self (edit F (Pointers c.args.file o))) (sym c.in-Some.is)
    (ok_of c.put_pointer-done.result (c.put_pointer-done.ensures.succeeds F h known (room (ap is_some c.in-Some.is))) (c.put_pointer-done.ensures.ok F h))

pub returns-in-Some-clause-known : goal.returns-in-Some-clause-known
returns-in-Some-clause-known c F h known room =
    subst (λ o. StaysKnown F (edit F (Pointers c.args.file o)) c.args.forest.now c.put_pointer-done.new.self) (sym c.in-Some.is)
    (ok_of c.put_pointer-done.result (c.put_pointer-done.ensures.succeeds F h known (room (ap is_some c.in-Some.is))) (c.put_pointer-done.ensures.known F h))
