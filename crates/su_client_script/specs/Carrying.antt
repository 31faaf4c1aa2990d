-- What a client does for a command of a script, and what is printed of it. (This project's own.)
use Rattle.std.specs.Prelude.{◌≡◌, ◌⊎◌, ℕ, Bool, true, false, List, [], ◌∷◌, ◌++◌, Result, Ok, Err, IfOk}
use Rattle.su_bytes.specs.declared.file_ids.FileId.{FileId}
use Rattle.su_node.specs.Name.{Name}
use Rattle.su_op.specs.declared.operations.Op.{Op}
use Rattle.su_op.specs.declared.operations.Change.{Change}
use Rattle.su_op.specs.declared.operations.Change.TheVariants as change
use Rattle.su_draft.specs.declared.commands.Command.{Command}
use Rattle.su_plan.specs.Plan.{plan}
use Rattle.su_view.specs.Holding.{HoldingState, tree_of_list}
use Rattle.su_view.specs.declared.refusals.ViewRefusal.{ViewRefusal}
use Rattle.su_client.specs.Link.{LinkState}
use Rattle.su_client_work.specs.Member.{MemberState, IsClear, Lists, OnlyTakes, Shows}
use Rattle.su_client_work.specs.Publishing.{always, last_undo, CommitsAtMost, IsPublished, Publishes, SignsAtMost}
use Rattle.su_client_work.specs.SavedLog.{saved_log}
use Rattle.su_client_work.specs.Turn.{HasLooked, Looks, TakesTurn}
use Rattle.su_client_lines.specs.declared.commands.ClientCommand.{ClientCommand}
use Rattle.su_client_lines.specs.declared.commands.ClientCommand.TheVariants as command
use Rattle.su_desk_script.specs.Answer.{answer_text, bytes_text}
use Rattle.su_client_script.specs.Calls.{FileCalls}
use Rattle.su_client_script.specs.Parts.{IsCut}
use Rattle.su_client_script.specs.KeyMoves.{MovesOnThen, RekeysTo}
use Rattle.su_client_script.specs.Text.{IsRefusal, listing_shown, number_shown, refusal_shown}

-- ---- commits

-- In a turn of its own the client commits a change, or that is refused. It signs no more than one
-- commit, and that is of this change.
pub record Commits (MayConnect : LinkState → Type 0) (change_of : HoldingState → Change)
    (s t : MemberState) (r : Result ℕ ViewRefusal) : Type 0 where
  pub signs : CommitsAtMost change_of s r t
  pub published : IfOk r (Publishes MayConnect change_of s t)

-- In a turn of its own it commits an undo, or that is refused: where nothing was mixed up, that of the
-- last operation that stands.
pub record CommitsLastUndo (MayConnect : LinkState → Type 0) (s t : MemberState)
    (r : Result ℕ ViewRefusal) : Type 0 where
  pub last : IsClear t → Commits MayConnect last_undo s t r
  pub signs : (number : ℕ) × CommitsAtMost (always (change.Undo number)) s r t
  pub published : IfOk r (λ n. (number : ℕ)
      × Publishes MayConnect (always (change.Undo number)) s t n)

-- so it does in the turn that it has
pub record CommitsNow (it : Change) (s t : MemberState) (r : Result ℕ ViewRefusal) : Type 0 where
  pub signs : SignsAtMost s.holding it s t
  pub published : IfOk r (IsPublished it s t)

-- a part of the operations is committed as one change, in the turn that is held or one of its own,
-- before which the client may go on to another key
abbrev pub CommitsIn : (LinkState → Type 0) → Bool → List Op → MemberState → MemberState
    → Result ℕ ViewRefusal → Type 0
CommitsIn MayConnect true part s t r = CommitsNow (change.Do part) s t r
CommitsIn MayConnect false part s t r =
    MovesOnThen MayConnect (λ ready. Commits MayConnect (always (change.Do part)) ready t r) s

-- Parts are committed, one after the other, and of each its number is printed; for the first the
-- turn may be held.
abbrev pub CommitsAll : (LinkState → Type 0) → Bool → List (List Op) → MemberState → MemberState
    → List ℕ → Type 0
CommitsAll MayConnect held [] s t text = (t ≡ s) × (text ≡ [])
CommitsAll MayConnect held (part ∷ parts) s t text =
    (n : ℕ) × (between : MemberState) × (rest : List ℕ)
    × CommitsIn MayConnect held part s between (Ok n)
    × CommitsAll MayConnect false parts between t rest × (text ≡ answer_text (Ok n) ++ rest)

-- whether a turn that is held for the first part is held for what comes behind these
abbrev pub held_behind : Bool → List (List Op) → Bool
held_behind held [] = held
held_behind held (part ∷ parts) = false

-- The first of some parts are committed, and the next one is refused, which is printed.
pub record StopsAt (MayConnect : LinkState → Type 0) (held : Bool) (parts : List (List Op))
    (s t : MemberState) (text : List ℕ) : Type 0 where
  pub done : List (List Op)
  pub next : List Op
  pub others : List (List Op)
  pub all : parts ≡ done ++ next ∷ others
  pub between : MemberState
  pub first : List ℕ
  pub commits : CommitsAll MayConnect held done s between first
  pub refusal : ViewRefusal
  pub refused : CommitsIn MayConnect (held_behind held done) next between t (Err refusal)
  pub text_is : text ≡ first ++ refusal_shown refusal

-- parts are committed until one is refused; the turn is held for the first
abbrev pub CommitsUntil : (LinkState → Type 0) → List (List Op) → MemberState → MemberState
    → List ℕ → Type 0
CommitsUntil MayConnect parts s t text =
    CommitsAll MayConnect true parts s t text ⊎ StopsAt MayConnect true parts s t text

-- so it is with the first of some parts, where something else may have failed then
abbrev pub CommitsSome : (LinkState → Type 0) → List (List Op) → MemberState → MemberState → Type 0
CommitsSome MayConnect parts s t =
    (front others : List (List Op)) × (parts ≡ front ++ others)
    × (text : List ℕ) × CommitsUntil MayConnect front s t text

-- ---- commands on paths

-- The client takes a turn, plans a command, where nothing was mixed up on the tree that it has then,
-- and cuts its operations into these parts.
pub record PlansParts (MayConnect : LinkState → Type 0) (batches : Bool) (it : Command)
    (s turn : MemberState) (parts : List (List Op)) : Type 0 where
  pub takes : OnlyTakes s turn
  pub takes_turn : TakesTurn MayConnect s.link turn.holding turn.link
  pub operations : List Op
  pub planned : let v = turn.holding in IsClear turn
      → plan v.roster (tree_of_list v) v.user it ≡ Ok operations
  pub cut : IsCut batches operations parts

-- so it does, and commits the parts
pub record CarriesPlan (MayConnect : LinkState → Type 0) (batches : Bool) (it : Command)
    (Committed : List (List Op) → MemberState → MemberState → Type 0) (s t : MemberState) : Type 0
  where
    pub turn : MemberState
    pub parts : List (List Op)
    pub plans : PlansParts MayConnect batches it s turn parts
    pub clear : IsClear t → IsClear turn
    pub committed : Committed parts turn t

-- it does so until a part is refused, or it is refused before the first; a refusal is printed
abbrev pub CarriesChange : (LinkState → Type 0) → Bool → Command → MemberState → MemberState
    → List ℕ → Type 0
CarriesChange MayConnect batches it s t text =
    (OnlyTakes s t × IsRefusal text)
    ⊎ CarriesPlan MayConnect batches it (λ parts s t. CommitsUntil MayConnect parts s t text) s t

-- so it does at most, where something else fails
abbrev pub CarriesSomeChange : (LinkState → Type 0) → Bool → Command → MemberState → MemberState
    → Type 0
CarriesSomeChange MayConnect batches it s t =
    OnlyTakes s t ⊎ CarriesPlan MayConnect batches it (CommitsSome MayConnect) s t

-- ---- commands

-- Its answer is printed, once the client has looked at the list as it is now; or a refusal is. It
-- signs nothing.
pub record Tells (Looked : LinkState → HoldingState → LinkState → Type 0) (Answers : Type 0)
    (s t : MemberState) (text : List ℕ) : Type 0 where
  pub takes : OnlyTakes s t
  pub answers : IsRefusal text ⊎ (Looked s.link t.holding t.link × Answers)

-- The client commits an undo, before which it may go on to another key, and prints the number.
abbrev pub CarriesUndo : (LinkState → Type 0)
    → (MemberState → MemberState → Result ℕ ViewRefusal → Type 0) → MemberState → MemberState
    → List ℕ → Type 0
CarriesUndo MayConnect Undoes s t text =
    (r : Result ℕ ViewRefusal) × MovesOnThen MayConnect (λ ready. Undoes ready t r) s
    × (text ≡ number_shown r)

-- It goes on to the key in that file, or that is refused.
abbrev pub CarriesRekey : (LinkState → Type 0) → FileCalls → List ℕ → MemberState → MemberState
    → List ℕ → Type 0
CarriesRekey MayConnect Files file s t text =
    ((t ≡ s) × IsRefusal text)
    ⊎ ((key : List ℕ) × (leaf : ℕ) × (r : Result ℕ ViewRefusal) × Files.opens file key
    × RekeysTo MayConnect key leaf s t r × (text ≡ number_shown r))

-- so it does at most, where something else fails
abbrev pub CarriesSomeRekey : (LinkState → Type 0) → MemberState → MemberState → Type 0
CarriesSomeRekey MayConnect s t =
    (t ≡ s) ⊎ ((key : List ℕ) × (leaf : ℕ) × (r : Result ℕ ViewRefusal)
    × RekeysTo MayConnect key leaf s t r)

-- The log is saved as that file.
abbrev pub CarriesSave : (LinkState → Type 0) → FileCalls → List ℕ → MemberState → MemberState
    → List ℕ → Type 0
CarriesSave MayConnect Files file s t text =
    Tells (Looks MayConnect) (Files.saves file (saved_log t.holding.held) × (text ≡ [])) s t text

-- What a client does for a command, and what is printed. (What is printed of the tree is the tree's
-- where nothing was mixed up.)
abbrev pub Carries : (LinkState → Type 0) → FileCalls → Bool → ClientCommand
    → MemberState → MemberState → List ℕ → Type 0
Carries MayConnect Files batches (command.Change it) s t text =
    MovesOnThen MayConnect (λ ready. CarriesChange MayConnect batches it ready t text) s
Carries MayConnect Files batches (command.Undo number) s t text =
    CarriesUndo MayConnect (Commits MayConnect (always (change.Undo number))) s t text
Carries MayConnect Files batches command.UndoLast s t text =
    CarriesUndo MayConnect (CommitsLastUndo MayConnect) s t text
Carries MayConnect Files batches (command.Rekey file) s t text =
    CarriesRekey MayConnect Files file.items s t text
Carries MayConnect Files batches (command.List path) s t text =
    Tells (HasLooked MayConnect) ((names : List (Name × FileId))
    × (IsClear t → Lists t.holding path.items names) × (text ≡ listing_shown names)) s t text
Carries MayConnect Files batches (command.Read path off len) s t text =
    Tells (HasLooked MayConnect) ((bytes : List ℕ)
    × (IsClear t → Shows t.holding path.items off len bytes)
    × (text ≡ bytes_text (Ok bytes))) s t text
Carries MayConnect Files batches (command.Save file) s t text =
    CarriesSave MayConnect Files file.items s t text

-- What it does at most, where something else fails.
abbrev pub CarriesSome : (LinkState → Type 0) → Bool → ClientCommand → MemberState → MemberState
    → Type 0
CarriesSome MayConnect batches (command.Change it) s t =
    MovesOnThen MayConnect (λ ready. CarriesSomeChange MayConnect batches it ready t) s
CarriesSome MayConnect batches (command.Undo number) s t =
    (r : Result ℕ ViewRefusal) × MovesOnThen MayConnect
    (λ ready. Commits MayConnect (always (change.Undo number)) ready t r) s
CarriesSome MayConnect batches command.UndoLast s t =
    (r : Result ℕ ViewRefusal) × MovesOnThen MayConnect
    (λ ready. CommitsLastUndo MayConnect ready t r) s
CarriesSome MayConnect batches (command.Rekey file) s t = CarriesSomeRekey MayConnect s t
CarriesSome MayConnect batches _ s t = OnlyTakes s t
