use Rattle.std.proofs.Common.{[], refl}
use Rattle.su_store_files.proofs.VolumeLemmas.{all_sound}
use Rattle.su_store_files.proofs.volumes.Volumes.new.Goals as goal

pub returns : goal.returns
returns g c = record {
  held = λ sound.
      let were = sound.1 in
      record {
        lists = [];
        own = [];
        more = [];
        split = refl;
        running = λ _. refl;
        past = c.new.ensures;
        begun = g.met.V.Volume.begins_with_counted c.args.files.first 0 [] were.begun;
        counted = λ _. were.begun;
        later = all_sound g.V.Volume c.args.files.later.items were.lists were.later;
      };
  found = λ commits were. record { own = were.own; lists = were.lists; split = were.all; shown = were.shown; later = were.later };
}
