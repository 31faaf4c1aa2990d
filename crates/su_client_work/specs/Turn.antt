-- How a client takes its turn at a server, and what it is shown of the users' last commits. (The
-- protocol is this project's own; what is checked is SUNDR's, section 3.3.)
use Rattle.std.specs.Prelude.{◌≡◌, ◌≤◌, ◌⊎◌, ◌+◌, ◌++◌, ℕ, true, List, length, [], ◌∷◌, Option, option_map, option_to_list}
use Rattle.su_bytes.specs.Order.{Passes}
use Rattle.su_message.specs.declared.requests.Request.TheVariants.{Grant, Give, Fetch}
use Rattle.su_message.specs.declared.replies.Reply.{Reply}
use Rattle.su_message.specs.declared.replies.Reply.TheVariants.{Granted, Given, Nothing}
use Rattle.su_bytes.specs.declared.refusals.Refusal.{Refusal}
use Rattle.su_client.specs.Link.{LinkState, IsFresh, Exchanged, Follows, IsRefusal, kept_or_nothing}
use Rattle.su_version.specs.Commit.{Commit, commit_bytes}
use Rattle.su_view.specs.Holding.{HoldingState}
use Rattle.su_view.specs.declared.refusals.ViewRefusal.{ViewRefusal}
use Rattle.su_view.specs.declared.refusals.ViewRefusal.TheVariants.{Plain}
use Rattle.su_view.specs.LastCommits.{shown_order}

-- A link failed, and a new one, which may be made, was put in its place.
pub record IsMadeAnew (MayConnect : LinkState → Type 0) (a b : LinkState) : Type 0 where
  pub broken : LinkState
  pub follows : Follows a broken
  pub failed : broken.failed ≡ true
  pub start : LinkState
  pub fresh : IsFresh start
  pub may : MayConnect start
  pub then_follows : Follows start b

-- What has become of a client's link: it was asked over it; or it failed, and from then on it was
-- asked over a new one.
abbrev pub Comes : (LinkState → Type 0) → LinkState → LinkState → Type 0
Comes MayConnect a b = Follows a b ⊎ IsMadeAnew MayConnect a b

-- Over the link the server granted the turn: it has so many records, and these are the numbers of
-- the users' last ones.
pub record IsGrantedOver (a b : LinkState) (count : ℕ) (last : List (ℕ × ℕ)) : Type 0 where
  pub before : LinkState
  pub follows : Follows a before
  pub granted : Exchanged Grant before b (Granted count last)

-- over the link, or over a new one
pub record IsGranted (MayConnect : LinkState → Type 0) (a b : LinkState) (count : ℕ)
    (last : List (ℕ × ℕ)) : Type 0 where
  pub before : LinkState
  pub comes : Comes MayConnect a before
  pub granted : Exchanged Grant before b (Granted count last)

-- the reply to a request for a commit
abbrev pub commit_or_nothing : Option Commit → Reply
commit_or_nothing c = kept_or_nothing (option_map commit_bytes c)

-- The server is asked for the commit of this number; what it shows comes behind those that it has
-- shown before. (More may be asked first: what a client asked for ahead of its time, and doesn't need
-- then.)
pub record IsShown (number : ℕ) (before : List Commit) (a : LinkState) (shown : List Commit)
    (b : LinkState) : Type 0 where
  pub asked : LinkState
  pub follows : Follows a asked
  pub answer : Option Commit
  pub exchanged : Exchanged (Fetch number) asked b (commit_or_nothing answer)
  pub joins : shown ≡ before ++ option_to_list answer

-- so it is for the last commit of each of these users, one after the other
abbrev pub AreShown : List (ℕ × ℕ) → List Commit → LinkState → List Commit → LinkState → Type 0
AreShown [] before a shown b = (shown ≡ before) × (b ≡ a)
AreShown (user ∷ users) before a shown b =
    (more : List Commit) × (between : LinkState) × IsShown user.1 before a more between
    × AreShown users more between shown b

-- A client is shown these users' last commits, and then asks for more; by what it holds then, v, they
-- pass.
pub record PassesShown (v : HoldingState) (last : List (ℕ × ℕ)) (a b : LinkState) : Type 0 where
  pub shown : List Commit
  pub checked : LinkState
  pub are_shown : AreShown last [] a shown checked
  pub passes : Passes (shown_order v shown)
  pub follows : Follows checked b

-- Between these calls over the link the server was asked for a commit, and said that it has nothing
-- of that number.
pub record SaysNothing (a b : LinkState) : Type 0 where
  pub number : ℕ
  pub before : LinkState
  pub follows : Follows a before
  pub behind : LinkState
  pub asked : Exchanged (Fetch number) before behind Nothing
  pub then_follows : Follows behind b

-- so many commits are held at least, or the server said of one that it has nothing
abbrev pub IsCaughtUp : ℕ → HoldingState → LinkState → LinkState → Type 0
IsCaughtUp count v a b = (count ≤ length v.held) ⊎ SaysNothing a b

-- one commit more is held, or the server said that it has nothing
abbrev pub HasMore : HoldingState → LinkState → HoldingState → LinkState → Type 0
HasMore v a w b = IsCaughtUp (length v.held + 1) w a b

-- A client takes its turn: it is granted; the client then holds v, which has all commits of which
-- the server told; and by that what the server shows as the users' last commits passes.
pub record TakesTurn (MayConnect : LinkState → Type 0) (a : LinkState) (v : HoldingState)
    (b : LinkState) : Type 0 where
  pub count : ℕ
  pub last : List (ℕ × ℕ)
  pub turn : LinkState
  pub granted : IsGranted MayConnect a turn count last
  pub caught_up : IsCaughtUp count v turn b
  pub passes : PassesShown v last turn b

-- and then it gives the turn back
pub record Looks (MayConnect : LinkState → Type 0) (a : LinkState) (v : HoldingState)
    (b : LinkState) : Type 0 where
  pub between : LinkState
  pub takes_turn : TakesTurn MayConnect a v between
  pub gives : Exchanged Give between b Given

-- so it did, and then it was asked more over the link
abbrev pub HasLooked : (LinkState → Type 0) → LinkState → HoldingState → LinkState → Type 0
HasLooked MayConnect a v b =
    (looked : LinkState) × Looks MayConnect a v looked × Follows looked b

-- ---- what is refused

-- Over the link the turn isn't granted: that is refused so.
pub record IsUngrantedOver (a b : LinkState) (why : Refusal) : Type 0 where
  pub before : LinkState
  pub follows : Follows a before
  pub refused : IsRefusal Grant before b why

-- over the link, or over a new one
pub record IsUngranted (MayConnect : LinkState → Type 0) (a b : LinkState) (why : Refusal) : Type 0
  where
    pub before : LinkState
    pub comes : Comes MayConnect a before
    pub refused : IsRefusal Grant before b why

-- At last the turn was given back, or giving it back was refused.
pub record GivesUp (a b : LinkState) : Type 0 where
  pub before : LinkState
  pub follows : Follows a before
  pub gives : Exchanged Give before b Given ⊎ ((why : Refusal) × IsRefusal Give before b why)

-- The turn was granted, and then given up.
pub record GivesTurnUp (MayConnect : LinkState → Type 0) (a b : LinkState) : Type 0 where
  pub count : ℕ
  pub last : List (ℕ × ℕ)
  pub turn : LinkState
  pub granted : IsGranted MayConnect a turn count last
  pub gives_up : GivesUp turn b

-- Why nothing is done in a turn: it isn't granted, or else it is given up.
abbrev pub IsRefusedTurn : (LinkState → Type 0) → LinkState → LinkState → ViewRefusal → Type 0
IsRefusedTurn MayConnect a b e =
    ((why : Refusal) × (e ≡ Plain why) × IsUngranted MayConnect a b why)
    ⊎ GivesTurnUp MayConnect a b
