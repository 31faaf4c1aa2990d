-- What an audit prints of a log.
use Rattle.std.specs.Prelude.{◌≡◌, ◌+◌, ℕ, List, [], ◌∷◌, ◌++◌, length, map, ⊤, Option, Some, Contains, codes}
use Rattle.std.specs.Fmt.{decimal}
use Rattle.su_bytes.specs.Membership.{Membership}
use Rattle.su_change.specs.Item.{item_bytes}
use Rattle.su_version.specs.Commit.{commit_bytes}
use Rattle.su_legal.specs.Legal.{Committed, Legal}
use Rattle.su_view.specs.Holding.{HoldingState}
use Rattle.su_view.specs.declared.refusals.ViewRefusal.{ViewRefusal}
use Rattle.su_view.specs.Refusal.{view_refusal_text}
use Rattle.su_log.specs.Log.{LogRecord, log_bytes}
use Rattle.su_audit.specs.Step.{IsRefusedNext}
use Rattle.su_audit.specs.declared.audits.Ending.{Ending}
use Rattle.su_audit.specs.declared.audits.Ending.TheVariants.{Taken, Refused, Failed}
use Rattle.su_audit.specs.declared.audits.Fault.{Fault}
use Rattle.su_audit.specs.declared.audits.Fault.TheVariants.{Reading, Writing, NoView, NoMemory}

-- ---- texts

-- `ok 3`
abbrev pub taken_text : ℕ → List ℕ
taken_text n = codes "ok " ++ (decimal n ++ 10 ∷ [])

-- `at 3`, and `no 35 WrongVector`
abbrev pub refused_text : ℕ → ViewRefusal → List ℕ
refused_text n e =
    codes "at " ++ (decimal n ++ (codes "\nno " ++ (view_refusal_text e ++ 10 ∷ [])))

-- ---- logs

-- each record has the bytes of the commit at its place
abbrev pub AreBytesOf : List LogRecord → List Committed → Type 0
AreBytesOf [] [] = ⊤
AreBytesOf (r ∷ rs) (c ∷ cs) = (r.commit ≡ commit_bytes c.commit) × AreBytesOf rs cs
AreBytesOf _ _ = ⊥

-- The item of each commit's change is that of its record, or of one before it: one of these, or of
-- the records.
abbrev pub AreItemsOf : List (List ℕ) → List LogRecord → List Committed → Type 0
AreItemsOf before [] [] = ⊤
AreItemsOf before (r ∷ rs) (c ∷ cs) =
    Contains (before ++ r.item ∷ []) (item_bytes c.change)
    × AreItemsOf (before ++ r.item ∷ []) rs cs
AreItemsOf before _ _ = ⊥

-- A log begins with records of so many commits, which make a legal list; the rest is left.
pub record BeginsLegally (ro : Membership) (log : List ℕ) (cs : List Committed) (place : ℕ)
    (rest : List ℕ) : Type 0 where
  pub records : List LogRecord
  pub front : log ≡ log_bytes records ++ rest
  pub place_is : place ≡ length (log_bytes records)
  pub bytes_are : AreBytesOf records cs
  pub items_are : AreItemsOf [] records cs
  pub legal : Legal ro cs

-- the log is that of so many commits, which make a legal list
pub record IsLegalLog (ro : Membership) (log : List ℕ) (n : ℕ) : Type 0 where
  pub commits : List Committed
  pub number : n ≡ length commits
  pub begins : BeginsLegally ro log commits (length log) []

abbrev pub items_of : List LogRecord → List (List ℕ)
items_of records = map (λ (r : LogRecord). r.item) records

-- user 0 holds these commits
abbrev pub held_by_first : Membership → List Committed → HoldingState
held_by_first ro cs = record { roster = ro; user = 0; held = cs; itemless = 0 }

-- the commits of a log before the nth make a legal list, and that is refused
pub record IsRefusedAt (ro : Membership) (log : List ℕ) (n : ℕ) (e : ViewRefusal) : Type 0 where
  pub commits : List Committed
  pub place : ℕ
  pub rest : List ℕ
  pub number : n ≡ length commits + 1
  pub begins : BeginsLegally ro log commits place rest
  pub why : IsRefusedNext (held_by_first ro commits) (items_of begins.records) place rest e

-- What is written where something fails: nothing, unless it is the writing that failed.
abbrev pub WritesNothing : Fault → List ℕ → Option (List ℕ) → Type 0
WritesNothing (Writing error) before after = ⊤
WritesNothing (Reading error) before after = after ≡ Some before
WritesNothing (NoView refusal) before after = after ≡ Some before
WritesNothing NoMemory before after = after ≡ Some before

-- A text is written after what was there, and the run ends so, unless something fails.
abbrev pub Tells : Ending → List ℕ → List ℕ → Option (List ℕ) → Ending → Type 0
Tells ending text before after (Failed fault) = WritesNothing fault before after
Tells ending text before after result = (result ≡ ending) × (after ≡ Some (before ++ text))

-- What an audit prints after what was there: `ok`, with the number of commits, only where the log
-- is that of so many, which make a legal list; a refusal only where those before are legal and the
-- next is refused so; and nothing where something else than the writing failed.
abbrev pub Prints : Membership → List ℕ → List ℕ → Option (List ℕ) → Ending → Type 0
Prints ro log before after Taken =
    (n : ℕ) × IsLegalLog ro log n × (after ≡ Some (before ++ taken_text n))
Prints ro log before after Refused =
    (n : ℕ) × (e : ViewRefusal) × IsRefusedAt ro log n e × (after ≡ Some (before ++ refused_text n e))
Prints ro log before after (Failed fault) = WritesNothing fault before after

-- What it prints of any log: of how many commits, or of which and why.
abbrev pub PrintsSome : List ℕ → Option (List ℕ) → Ending → Type 0
PrintsSome before after Taken = (n : ℕ) × (after ≡ Some (before ++ taken_text n))
PrintsSome before after Refused =
    (n : ℕ) × (e : ViewRefusal) × (after ≡ Some (before ++ refused_text n e))
PrintsSome before after (Failed fault) = WritesNothing fault before after
