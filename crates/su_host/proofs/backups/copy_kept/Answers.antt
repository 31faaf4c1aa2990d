use Rattle.std.proofs.Common.{◌++◌, refl}
use Rattle.su_places.specs.Laws.{rests_shown, shown_counts}
use Rattle.su_store_files.specs.Volumes.{in_turn}
use Rattle.su_host.proofs.backups.copy_kept.Goals as goal

pub copy_named-requires : goal.copy_named-requires
copy_named-requires g c =
    let first = c.in-Ok-open.files.first.place in
    let rests = c.in-Ok-open.ensures.first in (
      λ found.
          let shown = (rests_shown _ first found.0 rests).0 found.2 in
          (found.0 ++ in_turn found.1, record { own = found.0; lists = found.1; all = refl; begun = shown_counts _ first found.0 shown; shown = shown; later = found.3 }),
      λ were. (were.1.own, were.1.lists, (rests_shown _ first were.1.own rests).1 were.1.shown, were.1.later),
    )
