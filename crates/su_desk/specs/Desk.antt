-- A desk: its roster and its history.
use Rattle.std.specs.Prelude.{◌≡◌, ℕ, ◌⊎◌, List, [], ◌∷◌, ◌++◌, Result, Ok, Err}
use Rattle.su_bytes.specs.Membership.{Membership}
use Rattle.su_bytes.specs.declared.formats.TheConstants.{NEWEST_FORMAT}
use Rattle.su_bytes.specs.declared.refusals.Refusal.{Refusal}
use Rattle.su_bytes.specs.declared.refusals.Refusal.TheVariants.{NoMemory}
use Rattle.su_op.specs.declared.operations.Change.{Change}
use Rattle.su_desk.specs.declared.entries.Entry.{Entry}
use Rattle.su_desk.specs.declared.entries.DeskReply.{DeskReply}
use Rattle.su_desk.specs.declared.entries.DeskReply.TheVariants.{Done, Refused}
use Rattle.su_desk.specs.History.{entry_by}
use Rattle.su_desk.specs.Answer.{answer}

-- what is seen of a desk
pub record DeskState : Type 0 where
  pub roster : Membership
  pub history : List Entry

-- the desk with one entry more
abbrev pub with_entry : DeskState → Entry → DeskState
with_entry d e = record { roster = d.roster; history = d.history ++ e ∷ [] }

-- What may be answered to an entry, and what the desk then is: the answer of its history, with the
-- entry where that is Done; or want of memory, with no change.
abbrev pub Answers : DeskState → Entry → Result ℕ Refusal → DeskState → Type 0
Answers d e (Ok n) d' = (answer d.roster d.history e ≡ Ok n) × (d' ≡ with_entry d e)
Answers d e (Err r) d' = ((r ≡ NoMemory) ⊎ (answer d.roster d.history e ≡ Err r)) × (d' ≡ d)

-- a reply as the result of one change
abbrev pub result_of : DeskReply → Result ℕ Refusal
result_of (Done n) = Ok n
result_of (Refused r) = Err r

-- the replies to changes by users, each made after those before it, in the newest format
abbrev pub Runs : DeskState → List (ℕ × Change) → List DeskReply → DeskState → Type 0
Runs d [] [] d' = d' ≡ d
Runs d (c ∷ cs) (r ∷ rs) d' =
    (mid : DeskState) × Answers d (entry_by c.0 NEWEST_FORMAT c.1) (result_of r) mid
    × Runs mid cs rs d'
Runs d [] (r ∷ rs) d' = ⊥
Runs d (c ∷ cs) [] d' = ⊥
