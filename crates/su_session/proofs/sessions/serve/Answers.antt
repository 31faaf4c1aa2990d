use Rattle.std.proofs.Common.{refl}
use Rattle.su_session.specs.Step.{at}
use Rattle.su_session.proofs.sessions.serve.Goals as goal

pub returns : goal.returns
returns g c =
    record {
      last = at c.converse-end.new.service c.converse-end.new.self (g.R.Read.remaining c.converse-end.new.reader) (g.W.Write.contents c.converse-end.new.writer);
      session = rw c.new.ensures at c.converse-end.ensures;
      answered = refl;
      gives = c.give_back.ensures;
      known_is = refl;
      held_is = refl;
    }
