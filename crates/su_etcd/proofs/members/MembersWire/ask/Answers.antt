use Rattle.std.proofs.Common.{ℕ, List, sym, subst}
use Rattle.std.specs.Global.{Vec}
use Rattle.su_etcd.specs.declared.wires.Request.{Request}
use Rattle.su_etcd.specs.Told.{Logged}
use Rattle.su_etcd.proofs.ToldLemmas.{noted, log_stays}
use Rattle.su_etcd.proofs.members.MembersWire.ask.Goals as goal

pub returns-in-Ok-clause-told : goal.returns-in-Ok-clause-told
returns-in-Ok-clause-told g c = noted _ _ _ _ c.and-self.ensures

pub returns-in-Ok-clause-held : goal.returns-in-Ok-clause-held
returns-in-Ok-clause-held g c = log_stays _ _ _ _ c.and-self.ensures

pub returns-in-Err-clause-held : goal.returns-in-Err-clause-held
returns-in-Err-clause-held g c = λ t q r was. subst (λ (l : List (Request × Vec ℕ)). Logged l t q r) (sym c.turn.ensures) was
