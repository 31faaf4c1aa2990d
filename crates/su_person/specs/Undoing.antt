-- How an operation is taken back.
use Rattle.std.specs.Prelude.{ℕ}
use Rattle.su_client.specs.Link.{LinkState}
use Rattle.su_op.specs.declared.operations.Change.TheVariants.{Undo}
use Rattle.su_client_work.specs.Member.{MemberState}
use Rattle.su_client_work.specs.Publishing.{always, Publishes}
use Rattle.su_person.specs.Moving.{MovesOn}

-- The client goes on to another key or does nothing, and then publishes the undo of the operation of
-- that number, by commit n.
pub record TakesBack (MayConnect : LinkState → Type 0) (number : ℕ) (s t : MemberState) (n : ℕ)
    : Type 0 where
  pub ready : MemberState
  pub moves : MovesOn s ready
  pub published : Publishes MayConnect (always (Undo number)) ready t n
