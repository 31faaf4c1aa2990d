-- Whose operations have to be undone before another one can be.
use Rattle.std.specs.Prelude.{◌≡◌, ◌≢◌, ℕ, List, [], ◌∷◌, ◌++◌, All, Contains, Option, Some, None}
use Rattle.std.specs.Option.{option_map}
use Rattle.su_bytes.specs.Membership.{Membership}
use Rattle.su_bytes.specs.declared.refusals.Refusal.{Refusal}
use Rattle.su_bytes.specs.declared.refusals.Refusal.TheVariants.{NoOperation}
use Rattle.su_desk.specs.declared.entries.Entry.{Entry}
use Rattle.su_desk.specs.History.{entry_at}
use Rattle.su_reasons.specs.Reasons.{AreReasons}
use Rattle.su_why.specs.declared.own.OwnReasons.{OwnReasons}
use Rattle.su_why.specs.declared.own.OwnReasons.TheVariants.{Own, Another}

-- who made the entry of a number, if there is one
abbrev pub author_at : List Entry → ℕ → Option ℕ
author_at h n = option_map (λ (e : Entry). e.author) (entry_at h n)

-- each of these numbers is that of an entry which this user made
abbrev pub AreMadeBy : List Entry → ℕ → List ℕ → Type 0
AreMadeBy h user ns = All (λ n. author_at h n ≡ Some user) ns

-- all that is undone so that operation n is: what has to be undone before, in an order in which it
-- can be, and n behind that
pub record AreWithReasons (ro : Membership) (h : List Entry) (n : ℕ) (all : List ℕ) : Type 0 where
  pub reasons : List ℕ
  pub are : AreReasons ro h n reasons
  pub all_is : all ≡ reasons ++ n ∷ []

-- one of them, m, is an operation of another user
pub record IsAnothers (ro : Membership) (h : List Entry) (user n m author : ℕ) : Type 0 where
  pub all : List ℕ
  pub are : AreWithReasons ro h n all
  pub among : Contains all m
  pub made : author_at h m ≡ Some author
  pub other : author ≢ user

-- What is told of operation n to this user: all that is undone for it, where all is the user's own;
-- else one of these that isn't, with who made it.
abbrev pub IsToldTo : Membership → List Entry → ℕ → ℕ → OwnReasons → Type 0
IsToldTo ro h user n (Own all) = AreWithReasons ro h n all.items × AreMadeBy h user all.items
IsToldTo ro h user n (Another m author) = IsAnothers ro h user n m author

-- no entry has the number that is refused
pub record IsOfNone (h : List Entry) (refusal : Refusal) : Type 0 where
  pub number : ℕ
  pub refused : refusal ≡ NoOperation number
  pub none : entry_at h number ≡ None
