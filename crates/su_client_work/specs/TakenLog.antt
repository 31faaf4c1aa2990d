-- What is taken of a log, and where that ends. (This project's own.)
use Rattle.std.specs.Prelude.{◌≡◌, ◌+◌, ◌⊎◌, ℕ, List, [], ◌++◌, length, Result, Ok, Err}
use Rattle.su_bytes.specs.declared.refusals.Refusal.TheVariants.{Malformed}
use Rattle.su_legal.specs.Legal.{Committed}
use Rattle.su_view.specs.Viewed.{Grows, ViewOn}
use Rattle.su_view.specs.declared.refusals.ViewRefusal.{ViewRefusal}
use Rattle.su_view.specs.declared.refusals.ViewRefusal.TheVariants.{Plain}
use Rattle.su_log.specs.Log.{LogRecord}
use Rattle.su_log.specs.Record.{BeginsWithRecord, StopsSo}
use Rattle.su_log.specs.declared.records.Stop.TheVariants.{Cut}
use Rattle.su_client_work.specs.SavedLog.{saved_log}
use Rattle.su_client_work.specs.declared.logs.LogFault.{LogFault}
use Rattle.su_client_work.specs.declared.logs.LogFault.TheVariants.{Refused, Unread}

-- A log begins with what is saved of so many commits, and these were taken, each with the item that the
-- log has of it; the rest is left.
pub record TakesFront {S : Type 0} (may_give : S → List ℕ → Type 0) (w : ViewOn S) (log : List ℕ)
    (x : ViewOn S) (n : ℕ) (rest : List ℕ) : Type 0 where
  pub commits : List Committed
  pub front : log ≡ saved_log commits ++ rest
  pub number : n ≡ length commits
  pub grows : Grows may_give w commits x

-- what stands at a place of a log isn't taken: no whole record begins there, and the place of what
-- is cut is named; or a record does, and is refused
abbrev pub IsNotTaken : ℕ → List ℕ → ViewRefusal → Type 0
IsNotTaken place rest e =
    ((at : ℕ) × (e ≡ Plain (Malformed at)) × StopsSo (Cut at) place rest)
    ⊎ ((r : LogRecord) × (others : List ℕ) × BeginsWithRecord rest r others)

-- What comes of a log, of whose front so many commits were taken: all of it; or all before what is
-- refused; or some of it, where it can't be read to its end.
abbrev pub EndsSo : (ℕ → List ℕ → Type 0) → List ℕ → Result ℕ LogFault → Type 0
EndsSo Front log (Ok n) = Front n []
EndsSo Front log (Err (Refused number e)) =
    (n place : ℕ) × (rest : List ℕ) × (number ≡ n + 1) × (place + length rest ≡ length log)
    × Front n rest × IsNotTaken place rest e
EndsSo Front log (Err (Unread error)) = (n : ℕ) × (rest : List ℕ) × Front n rest
