-- What a run leaves of its output, and the status that a program ends with.
use Rattle.std.specs.Prelude.{◌≡◌, ℕ, Bool, true, List, ◌++◌, Option, Some}
use Rattle.su_desk_script.specs.declared.desk.Status.{Status}
use Rattle.su_desk_script.specs.declared.desk.Status.TheVariants as status
use Rattle.su_client_script.specs.declared.endings.Ending.{Ending}
use Rattle.su_client_script.specs.declared.endings.Ending.TheVariants.{Finished, BadLine, Refused, Failed}

-- what was written stays, and some text comes behind it
abbrev pub Adds : Option (List ℕ) → Option (List ℕ) → Type 0
Adds old new = (before : List ℕ) → old ≡ Some before → (text : List ℕ) × (new ≡ Some (before ++ text))

-- so it is, unless the run ended in a fault
abbrev pub AddsUnlessFault : Option (List ℕ) → Option (List ℕ) → Ending → Type 0
AddsUnlessFault old new (Failed fault) = Unit {0}
AddsUnlessFault old new _ = Adds old new

abbrev pub status_of : Ending → Status
status_of Finished = status.Finished
status_of (BadLine number mistake) = status.BadLine
status_of (Refused number) = status.Fault
status_of (Failed fault) = status.Fault

-- a refusal ends a run only where it is to do so
abbrev pub StopsIfAsked : Bool → Ending → Type 0
StopsIfAsked stops (Refused number) = stops ≡ true
StopsIfAsked stops _ = Unit {0}
