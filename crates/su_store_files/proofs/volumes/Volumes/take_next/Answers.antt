use Rattle.std.proofs.lemmas.List.Elements.{All-pop}
use Rattle.su_store_files.specs.Volumes.{WasSound}
use Rattle.su_store_files.proofs.volumes.Volumes.take_next.Goals as goal

pub returns-clause-held : goal.returns-clause-held
returns-clause-held g c records held =
    let later = All-pop (WasSound g.V.Volume) c.args.self.now.later.items c.pop.new.self.items c.pop.result c.pop.ensures.items held.later in
    record {
      lists = held.lists;
      own = held.own;
      more = held.more;
      split = held.split;
      running = held.running;
      past = held.past;
      begun = held.begun;
      counted = held.counted;
      later = later.0;
    }

pub returns-clause-sound : goal.returns-clause-sound
returns-clause-sound g c records held =
    (All-pop (WasSound g.V.Volume) c.args.self.now.later.items c.pop.new.self.items c.pop.result c.pop.ensures.items held.later).1
