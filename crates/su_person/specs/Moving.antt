-- How a client goes on to another key.
use Rattle.std.specs.Prelude.{◌≡◌, ◌⊎◌, ℕ, List, Result}
use Rattle.su_view.specs.declared.refusals.ViewRefusal.{ViewRefusal}
use Rattle.su_client_work.specs.Member.{MemberState}
use Rattle.su_client_work.specs.Publishing.{RekeysAtMost}

-- Nothing is done; or the client takes commits, and makes no more than one, of the rekey that names
-- the key that it goes on to.
abbrev pub MovesOn : MemberState → MemberState → Type 0
MovesOn s t = (t ≡ s)
    ⊎ ((key : List ℕ) × (leaf : ℕ) × (answer : Result ℕ ViewRefusal)
    × RekeysAtMost key leaf s answer t)
