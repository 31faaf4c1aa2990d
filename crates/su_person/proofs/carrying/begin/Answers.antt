use Rattle.std.proofs.Common.{◌≡◌, Bool, true, IfOk, sym, subst}
use Rattle.su_person.specs.declared.carrying.Others.{Others}
use Rattle.su_person.specs.Carrying.{Before}
use Rattle.su_person.proofs.carrying.begin.Goals as goal

pub returns-in-Unwelcome-clause-before : goal.returns-in-Unwelcome-clause-before
returns-in-Unwelcome-clause-before g c =
    subst (λ (o : Others). IfOk c.begin_alone.result (λ (goes_on : Bool). goes_on ≡ true → Before o c.args.member.now c.begin_alone.new.member))
    (sym c.in-Unwelcome.is) c.begin_alone.ensures.before
