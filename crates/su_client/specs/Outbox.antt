-- Items that wait to be put.
use Rattle.std.specs.Prelude.{◌≡◌, ◌⊎◌, ℕ, List, [], ◌∷◌, ◌++◌, map, Option, Some, None}
use Rattle.std.specs.Global.{Vec}
use Rattle.sha2.specs.Sha256.{sha256}
use Rattle.su_message.specs.declared.requests.Request.TheVariants as request
use Rattle.su_message.specs.declared.replies.Reply.TheVariants.{PutDone, Stored}
use Rattle.su_bytes.specs.declared.refusals.Refusal.{Refusal}
use Rattle.su_bytes.specs.declared.refusals.Refusal.TheVariants.{SourceFailed, NoMemory}
use Rattle.su_client.specs.Link.{LinkState, Exchanged, Follows, IsRefusal}

-- the bytes of each
abbrev pub contents : List (Vec ℕ) → List (List ℕ)
contents items = map (λ item. item.items) items

-- Over the link these items were put, one after the other; nothing else was asked.
abbrev pub PutsAll : List (List ℕ) → LinkState → LinkState → Type 0
PutsAll [] a b = b ≡ a
PutsAll (item ∷ items) a b =
    (between : LinkState) × Exchanged (request.Put item) a between (PutDone (sha256 item))
    × PutsAll items between b

-- The first of the items that wait, if one does, was put; the others wait still.
abbrev pub PutsFirst : List (Vec ℕ) → LinkState → List (Vec ℕ) → LinkState → Type 0
PutsFirst [] a left b = left ≡ []
PutsFirst (item ∷ items) a left b =
    (left ≡ items) × Exchanged (request.Put item.items) a b (PutDone (sha256 item.items))

-- Where these items wait, the item waits behind them; or they were put, and it waits alone.
abbrev pub WaitsToo : List (List ℕ) → List ℕ → LinkState → List (List ℕ) → LinkState → Type 0
WaitsToo waiting item a waiting' b =
    ((waiting' ≡ waiting ++ item ∷ []) × (b ≡ a))
    ⊎ ((waiting' ≡ item ∷ []) × PutsAll waiting a b)

-- Where putting fails, none of the items is lost: the first of them were put, whatever the link was
-- used for then, and the others wait still.
pub record PutsSome (waiting : List (List ℕ)) (a : LinkState) (waiting' : List (List ℕ))
    (b : LinkState) : Type 0 where
  pub put : List (List ℕ)
  pub parts : waiting ≡ put ++ waiting'
  pub between : LinkState
  pub puts : PutsAll put a between
  pub follows : Follows between b

-- the item that was put last is at hand, with its digest
abbrev pub IsAtHand : Option (List ℕ × Vec ℕ) → List ℕ → Type 0
IsAtHand None item = ⊥
IsAtHand (Some entry) item = item ≡ entry.1.items

-- These items were put, and then the commit of these bytes was handed in, and stored under that
-- number.
pub record IsHandedIn (items : List (List ℕ)) (commit : List ℕ) (a b : LinkState) (number : ℕ)
    : Type 0 where
  pub between : LinkState
  pub put : PutsAll items a between
  pub stored : Exchanged (request.Commit commit) between b (Stored number)

-- Why no commit of these bytes is stored: an item of these couldn't be put; or all of them were, and
-- then the commit is refused.
abbrev pub IsRefusedHandIn : List (List ℕ) → List ℕ → LinkState → LinkState → Refusal → Type 0
IsRefusedHandIn items commit a b e =
    (e ≡ SourceFailed) ⊎ (e ≡ NoMemory)
    ⊎ ((between : LinkState) × PutsAll items a between
    × IsRefusal (request.Commit commit) between b e)
