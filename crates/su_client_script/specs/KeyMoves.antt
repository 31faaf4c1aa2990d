-- How a client goes on to another key. (This project's own.)
use Rattle.std.specs.Prelude.{◌≡◌, ◌⊎◌, ℕ, List, Result, IfOk}
use Rattle.su_view.specs.declared.refusals.ViewRefusal.{ViewRefusal}
use Rattle.su_client.specs.Link.{LinkState}
use Rattle.su_client_work.specs.Member.{MemberState}
use Rattle.su_client_work.specs.Publishing.{RekeysAtMost, Rekeys}

-- In a turn of its own the client commits the rekey to this key, whose next leaf this is, and signs
-- with the key from then on; or that is refused.
pub record RekeysTo (MayConnect : LinkState → Type 0) (key : List ℕ) (leaf : ℕ) (s t : MemberState)
    (r : Result ℕ ViewRefusal) : Type 0 where
  pub signs : RekeysAtMost key leaf s r t
  pub rekeyed : IfOk r (Rekeys MayConnect key leaf s t)

-- Before a change the client may do so of its own accord, with a key that the program brings.
abbrev pub MovesOn : (LinkState → Type 0) → MemberState → MemberState → Type 0
MovesOn MayConnect s t =
    (t ≡ s)
    ⊎ ((key : List ℕ) × (leaf : ℕ) × (r : Result ℕ ViewRefusal)
    × RekeysTo MayConnect key leaf s t r)

-- and then it does this
abbrev pub MovesOnThen : (LinkState → Type 0) → (MemberState → Type 0) → MemberState → Type 0
MovesOnThen MayConnect Does s = (ready : MemberState) × MovesOn MayConnect s ready × Does ready
