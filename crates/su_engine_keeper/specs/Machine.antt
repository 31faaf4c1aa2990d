-- What an engine does, whoever asks it. (etcd's documentation, "API guarantees" and "Transaction":
-- each transaction is done at one moment or not at all, and a revision is given once.)
use Rattle.std.specs.Prelude.{◌≡◌, ◌⊎◌, ℕ, ◌==◌, Bool, false, ◌&&◌, not, List, [], ◌∷◌, ◌++◌, Option, Some, None, is_some, if◌then◌else◌, bytes_eq, Contains}

-- What happens at an engine, one after another. Somebody takes the lead, under a token that was
-- never used. A lead ends. Somebody asks under a token that a key hold a value, and other keys theirs
-- beside it, answered or not. A caller is told that a key holds a value. A caller is told that it
-- holds none.
pub data Event : Type 0 where
  leads : ℕ → Event
  ends : Event
  asks : ℕ → (List ℕ × List ℕ) → List (List ℕ × List ℕ) → Event
  tells : List ℕ → List ℕ → Event
  lacks : List ℕ → Event

-- under which token somebody leads, if anybody does, and what was put, one behind another
pub record Store : Type 0 where
  pub leader : Option ℕ
  pub pairs : List (List ℕ × List ℕ)

abbrev pub begun : Store
begun = record { leader = None; pairs = [] }

-- what a key holds, after these puts: what was put first
abbrev pub held : List (List ℕ × List ℕ) → List ℕ → Option (List ℕ)
held [] key = None
held (first ∷ later) key = if bytes_eq first.0 key then Some first.1 else held later key

abbrev pub is_led_by : Option ℕ → ℕ → Bool
is_led_by None token = false
is_led_by (Some leader) token = leader == token

-- what is asked is done where its token leads and the first key holds nothing
abbrev pub is_done : Store → ℕ → List ℕ → Bool
is_done store token key = is_led_by store.leader token && not (is_some (held store.pairs key))

abbrev pub step : Store → Event → Store
step store (leads token) = record store { leader = Some token }
step store ends = record store { leader = None }
step store (asks token first beside) =
    if is_done store token first.0 then record store { pairs = store.pairs ++ (first ∷ beside) }
    else store
step store (tells key value) = store
step store (lacks key) = store

abbrev pub run_from : Store → List Event → Store
run_from store [] = store
run_from store (event ∷ events) = run_from (step store event) events

-- what is told is so at that moment
abbrev pub IsSo : Store → Event → Type 0
IsSo store (tells key value) = held store.pairs key ≡ Some value
IsSo store (lacks key) = held store.pairs key ≡ None
IsSo store event = Unit {0}

abbrev pub IsRunFrom : Store → List Event → Type 0
IsRunFrom store [] = Unit {0}
IsRunFrom store (event ∷ events) = IsSo store event × IsRunFrom (step store event) events

-- a run from the beginning, when nobody leads and no key holds anything
abbrev pub IsRun : List Event → Type 0
IsRun events = IsRunFrom begun events

-- what a key holds after these events
abbrev pub held_after : List Event → List ℕ → Option (List ℕ)
held_after events key = held (run_from begun events).pairs key

-- who leads after these events
abbrev pub leader_after : List Event → Option ℕ
leader_after events = (run_from begun events).leader

-- somebody was told that a key holds a value
abbrev pub IsTold : List Event → List ℕ → List ℕ → Type 0
IsTold [] key value = ⊥
IsTold (event ∷ events) key value = (event ≡ tells key value) ⊎ IsTold events key value

-- nobody else takes the lead
abbrev pub IsNoLead : Event → Type 0
IsNoLead (leads token) = ⊥
IsNoLead event = Unit {0}

abbrev pub KeepsLead : List Event → Type 0
KeepsLead [] = Unit {0}
KeepsLead (event ∷ events) = IsNoLead event × KeepsLead events

-- under this token it is asked that a key hold a value
abbrev pub Asks : ℕ → List ℕ → List ℕ → Event → Type 0
Asks token key value (asks by first beside) =
    (by ≡ token) × Contains (first ∷ beside) (key, value)
Asks token key value event = ⊥

abbrev pub IsAsked : ℕ → List ℕ → List ℕ → List Event → Type 0
IsAsked token key value [] = ⊥
IsAsked token key value (event ∷ events) =
    Asks token key value event ⊎ IsAsked token key value events
