-- What a client commits.
use Rattle.std.specs.Prelude.{◌≡◌, ◌⊎◌, ◌++◌, ℕ, List, [], ◌∷◌, length, Result, Ok, Err, OnErr}
use Rattle.sha2.specs.Sha256.{sha256}
use Rattle.su_message.specs.declared.requests.Request.TheVariants as request
use Rattle.su_message.specs.declared.replies.Reply.TheVariants.{PutDone, Stored}
use Rattle.su_client.specs.Link.{LinkState, Exchanged, Follows}
use Rattle.su_op.specs.declared.operations.Change.{Change}
use Rattle.su_op.specs.declared.operations.Change.TheVariants.{Undo, Rekey}
use Rattle.su_change.specs.Item.{item_bytes}
use Rattle.su_version.specs.Commit.{Commit, commit_bytes}
use Rattle.su_desk.specs.History.{last_live}
use Rattle.su_legal.specs.Legal.{Committed, history}
use Rattle.su_view.specs.Acting.{TakesSome}
use Rattle.su_view.specs.Holding.{HoldingState, Took, with_more}
use Rattle.su_view.specs.Making.{IsMade}
use Rattle.su_view.specs.Drafting.{IsOfChange}
use Rattle.su_view.specs.declared.refusals.ViewRefusal.{ViewRefusal}
use Rattle.su_client_work.specs.Member.{MemberState, Grew, IsClear, OnlyTakes, ReplacesKey, leaf_behind}
use Rattle.su_client_work.specs.Turn.{GivesUp, IsRefusedTurn, TakesTurn}

-- ---- what is signed

-- nothing was signed
pub record SignsNone (s t : MemberState) : Type 0 where
  pub signed : t.signed ≡ s.signed
  pub next : t.next ≡ s.next

-- One commit was signed, by one leaf: this one, which a client that held v made of the change; where
-- nothing was mixed up, the change is accepted, and the commit has what the tree tells.
pub record SignsOne (v : HoldingState) (change : Change) (c : Commit) (s t : MemberState) : Type 0
  where
    pub of_change : IsOfChange v change s.next.leaf c
    pub made : IsClear t → IsMade v change s.next.leaf c
    pub clear : IsClear t → IsClear s
    pub signed : t.signed ≡ s.signed ++ c ∷ []
    pub next : t.next ≡ leaf_behind s.next

-- no more than one commit of this change was signed
abbrev pub SignsAtMost : HoldingState → Change → MemberState → MemberState → Type 0
SignsAtMost v change s t = SignsNone s t ⊎ ((c : Commit) × SignsOne v change c s t)

-- what is committed, by what the client holds when it has the turn
abbrev pub always : Change → HoldingState → Change
always change v = change

-- the undo of the last operation that stands
abbrev pub last_undo : HoldingState → Change
last_undo v = Undo (last_live (history v.held))

-- Some commits were taken, where nothing was mixed up as they may be, and then no more than one commit
-- of the change was signed. Where it is refused, it isn't taken.
pub record CommitsAtMost (change_of : HoldingState → Change) (s : MemberState)
    (answer : Result ℕ ViewRefusal) (t : MemberState) : Type 0 where
  pub held : HoldingState
  pub grew : Grew s.holding held
  pub takes : IsClear t → TakesSome s.holding held
  pub clear : IsClear t → IsClear s
  pub signs : SignsAtMost held (change_of held) s t
  pub refused : OnErr answer (t.holding ≡ held)

-- ---- what the server stores

-- The item of a change was put, and then the commit was handed in, and stored. (More may be asked
-- first: what is needed of the tree.)
pub record IsStored (change : Change) (c : Commit) (a b : LinkState) : Type 0 where
  pub asked : LinkState
  pub follows : Follows a asked
  pub between : LinkState
  pub put : Exchanged (request.Put (item_bytes change)) asked between
      (PutDone (sha256 (item_bytes change)))
  pub number : ℕ
  pub stored : Exchanged (request.Commit (commit_bytes c)) between b (Stored number)

-- A commit of a change is made, signed, and stored by the server.
pub record HandsIn (change : Change) (s : MemberState) (c : Commit) (t : MemberState) : Type 0 where
  pub signs : SignsOne s.holding change c s t
  pub stored : IsStored change c s.link t.link

-- The client took this commit as the next of its list, where nothing was mixed up as it may: that is
-- its number.
pub record TakesOwn (s : MemberState) (c : Commit) (t : MemberState) (n : ℕ) : Type 0 where
  pub committed : Committed
  pub is : committed.commit ≡ c
  pub becomes : t.holding ≡ with_more s.holding (committed ∷ [])
  pub took : IsClear t → Took s.holding (committed ∷ []) t.holding
  pub number : n ≡ length t.holding.held

-- A commit of a change is made, signed, stored by the server, and then taken.
pub record IsPublished (change : Change) (s t : MemberState) (n : ℕ) : Type 0 where
  pub commit : Commit
  pub signs : SignsOne s.holding change commit s t
  pub handed_in : LinkState
  pub stored : IsStored change commit s.link handed_in
  pub follows : Follows handed_in t.link
  pub takes : TakesOwn s commit t n

-- A commit of the change was signed, and the server stored it, which ends the turn.
pub record WasStored (change : Change) (s t : MemberState) : Type 0 where
  pub commit : Commit
  pub signs : SignsOne s.holding change commit s t
  pub handed_in : LinkState
  pub stored : IsStored change commit s.link handed_in
  pub follows : Follows handed_in t.link

-- the turn is over: it was given up, or a commit of the change was stored
abbrev pub EndsTurn : Change → MemberState → MemberState → Type 0
EndsTurn change s t = GivesUp s.link t.link ⊎ WasStored change s t

-- Nothing is left of a turn in which a change was to be committed: it wasn't granted, or it was given
-- up; or a commit of the change was stored.
abbrev pub IsOver : (LinkState → Type 0) → Change → MemberState → MemberState → ViewRefusal → Type 0
IsOver MayConnect change s t e =
    IsRefusedTurn MayConnect s.link t.link e
    ⊎ ((turn : MemberState) × TakesTurn MayConnect s.link turn.holding turn.link
    × WasStored change turn t)

-- The client takes its turn and what commits it lacks, and then publishes the change.
pub record Publishes (MayConnect : LinkState → Type 0) (change_of : HoldingState → Change)
    (s t : MemberState) (n : ℕ) : Type 0 where
  pub turn : MemberState
  pub takes_turn : TakesTurn MayConnect s.link turn.holding turn.link
  pub takes : OnlyTakes s turn
  pub published : IsPublished (change_of turn.holding) turn t n

-- ---- another key

-- Once this was answered, the key whose next leaf this is was put in the place of the client's own
-- if the answer is a number, and nothing was done if it is a refusal.
abbrev pub ReplacesOnOk : MemberState → Result ℕ ViewRefusal → ℕ → MemberState → Type 0
ReplacesOnOk s (Ok n) leaf t = ReplacesKey s leaf t
ReplacesOnOk s (Err e) leaf t = t ≡ s

-- No more than one commit was signed, of the rekey that names this key; where it is stored and
-- taken, the client signs with this key from then on, whose next leaf this is.
pub record RekeysAtMost (key : List ℕ) (leaf : ℕ) (s : MemberState) (answer : Result ℕ ViewRefusal)
    (t : MemberState) : Type 0 where
  pub between : MemberState
  pub commits : CommitsAtMost (always (Rekey key)) s answer between
  pub replaces : ReplacesOnOk between answer leaf t

-- The rekey that names this key is published, and then the client signs with the key.
pub record Rekeys (MayConnect : LinkState → Type 0) (key : List ℕ) (leaf : ℕ) (s t : MemberState)
    (n : ℕ) : Type 0 where
  pub between : MemberState
  pub publishes : Publishes MayConnect (always (Rekey key)) s between n
  pub replaces : ReplacesKey between leaf t
