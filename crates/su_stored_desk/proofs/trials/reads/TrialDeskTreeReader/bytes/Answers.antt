use Rattle.su_stored_desk.proofs.ReadingReady.{finds_ready, trusted_still}
use Rattle.su_stored_desk.proofs.trials.reads.TrialDeskTreeReader.bytes.Goals as goal

pub invariant_of-self : goal.invariant_of-self
invariant_of-self g c = trusted_still g.S.BlockSource.may_give g.S.BlockSource.failed g.S.BlockSource.follows c.self.inside.desk c.bytes.new.self c.self.inside.tried.items c.self.inside.asked.items c.note_asked.new.self c.args.self.now.state c.self.view_is c.self.invariant c.note_asked.ensures.shows c.bytes.ensures.finds

pub returns : goal.returns
returns g c = record { finds = finds_ready g.S.BlockSource.may_give g.S.BlockSource.failed g.S.BlockSource.follows g.met.S.BlockSource.follows_on c.self.inside.desk c.bytes.new.self c.self.inside.tried.items c.self.inside.asked.items c.args.self.now c.note_asked.new.self c.self.view_is c.self.invariant c.note_asked.ensures.still c.note_asked.ensures.asks c.note_asked.ensures.same c.bytes.ensures.finds }
