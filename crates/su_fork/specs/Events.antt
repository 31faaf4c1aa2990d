-- What the clients of honest users do, while a server and all other users may show each of them
-- whatever they like. (SUNDR, sections 3.1 and 3.2; events and runs are this project's own.)
use Rattle.std.specs.Prelude.{◌≡◌, ℕ, Bool, true, cond, List, [], ◌∷◌, ◌++◌, nat_eq}
use Rattle.std.specs.List.{flat_map}
use Rattle.su_bytes.specs.Membership.{Membership}
use Rattle.su_version.specs.Version.{Version}
use Rattle.su_legal.specs.Legal.{Committed}
use Rattle.su_legal.specs.Act.{Act, Act.Takes, Act.Signs, May}

-- One roster; the user for whom each client works; and which users are honest. A client is the
-- program from a start with nothing taken on, through all later starts that go on from what it took.
-- A user who begins anew without that has another client.
pub record World : Type 0 where
  pub roster : Membership
  pub user : ℕ → ℕ
  pub honest : ℕ → Bool

-- a client of this number does something
pub record Event : Type 0 where
  pub client : ℕ
  pub act : Act

-- client k takes these commits
abbrev pub taking : ℕ → List Committed → Event
taking k more = record { client = k; act = Takes more }

-- client k signs v
abbrev pub signing : ℕ → Version → Event
signing k v = record { client = k; act = Signs v }

-- ---- what is taken and signed

abbrev pub taken : Act → List Committed
taken (Takes more) = more
taken (Signs v) = []

abbrev pub signed : Act → List Version
signed (Takes more) = []
signed (Signs v) = v ∷ []

abbrev pub taken_by : ℕ → Event → List Committed
taken_by k e = cond (nat_eq e.client k) (taken e.act) []

-- the list that client k holds after these events: all commits that it took
unfoldable pub list_of : ℕ → List Event → List Committed
list_of k es = flat_map (taken_by k) es

-- the commits that clients took in these events
abbrev pub all_taken : List Event → List Committed
all_taken es = flat_map (λ e. taken e.act) es

abbrev pub signed_by : World → ℕ → Event → List Version
signed_by w u e = cond (nat_eq (w.user e.client) u) (signed e.act) []

-- the version structures that clients of user u signed in these events
unfoldable pub versions_of : World → ℕ → List Event → List Version
versions_of w u es = flat_map (signed_by w u) es

-- ---- runs

-- each of the further events is one of an honest user's client, which may act so with the list that
-- it holds after the events before
abbrev pub RunAfter : World → List Event → List Event → Type 0
RunAfter w before [] = Unit {0}
RunAfter w before (e ∷ es) =
    (w.honest (w.user e.client) ≡ true)
    × May w.roster (w.user e.client) (list_of e.client before) e.act
    × RunAfter w (before ++ e ∷ []) es

-- A run: the events of honest users' clients, from none on. What a server and all other users do is
-- in what these take, and nothing else is asked of it; what is shown and refused is no event.
abbrev pub Run : World → List Event → Type 0
Run w es = RunAfter w [] es

-- client k held this list at some moment of the events
pub record Held (es : List Event) (k : ℕ) (list : List Committed) : Type 0 where
  pub before : List Event
  pub after : List Event
  pub moment : es ≡ before ++ after
  pub holding : list_of k before ≡ list
