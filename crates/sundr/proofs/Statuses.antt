-- What a client's run adds, by the status that it ends with.
use Rattle.std.proofs.Common.{◌≡◌, ℕ, List, Option, Some, sym, subst}
use Rattle.su_desk_script.specs.declared.desk.Status.{Status}
use Rattle.su_client_script.specs.declared.endings.Ending.{Ending}
use Rattle.su_client_script.specs.declared.endings.Ending.TheVariants.{Finished, BadLine, Refused, Failed}
use Rattle.su_client_script.specs.Run.{status_of}
use Rattle.su_client_script.specs.Run as run
use Rattle.sundr.specs.Run.{AddsUnlessFault}

by_ending : (old new : Option (List ℕ)) (before : List ℕ) (ending : Ending) → old ≡ Some before
    → run.AddsUnlessFault old new ending → AddsUnlessFault before new (status_of ending)
by_ending old new before Finished was adds = adds before was
by_ending old new before (BadLine number mistake) was adds = adds before was
by_ending old new before (Refused number) was adds = tt
by_ending old new before (Failed fault) was adds = tt

pub by_status : (old new : Option (List ℕ)) (before : List ℕ) (ending : Ending) (status : Status)
    → old ≡ Some before → run.AddsUnlessFault old new ending → status ≡ status_of ending
    → AddsUnlessFault before new status
by_status old new before ending status was adds is =
    subst (λ s. AddsUnlessFault before new s) (sym is) (by_ending old new before ending was adds)
