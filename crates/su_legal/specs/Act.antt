-- What a client does, and what it may do. (SUNDR, section 3.3.)
use Rattle.std.specs.Prelude.{◌≡◌, ℕ, List}
use Rattle.su_bytes.specs.Membership.{Membership}
use Rattle.su_version.specs.Version.{Version}
use Rattle.su_legal.specs.Legal.{Committed, head_of, LegalAfter}

-- what changes the list that a client holds, or what its user has signed
pub data Act : Type 0 where
  -- it takes these commits, which it was shown or made itself
  Takes : List Committed → Act
  -- it signs a version structure
  Signs : Version → Act

-- What a client of user a may do that holds this list: take what keeps the list legal; sign what
-- names the user and the list's head.
abbrev pub May : Membership → ℕ → List Committed → Act → Type 0
May ro a held (Takes more) = LegalAfter ro held more
May ro a held (Signs v) = (v.author ≡ a) × (v.prev ≡ head_of ro held)
