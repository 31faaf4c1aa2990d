-- Why a commit that is shown doesn't join the list that a client holds, in this order.
use Rattle.std.specs.Prelude.{◌≡◌, ◌≢◌, ◌<◌, ◌≤◌, ◌+◌, ◌⊎◌, ℕ, true, cond, List, [], ◌∷◌, Option, Some, None, nat_eq}
use Rattle.sha2.specs.Sha256.{sha256}
use Rattle.su_bytes.specs.Order.{Line, demand, RefusedBy}
use Rattle.su_bytes.specs.declared.refusals.Refusal.{Refusal}
use Rattle.su_bytes.specs.declared.principals.Principal.{Principal}
use Rattle.su_bytes.specs.declared.principals.Principal.TheVariants.{User, Group}
use Rattle.su_block.specs.Failure.{is_failure, one_more}
use Rattle.su_block.specs.declared.failures.Failures.{Failures}
use Rattle.su_format.specs.Format.{whole}
use Rattle.su_format.specs.Reading.{IsRefusedAt, start}
use Rattle.su_bytes.specs.declared.refusals.Refusal.TheVariants.{Malformed, WrongKey}
use Rattle.su_op.specs.declared.operations.Change.{Change}
use Rattle.su_op.specs.Action.{named_key}
use Rattle.su_change.specs.Item.{IsChange, HasItem, item_bytes, item_format}
use Rattle.su_desk.specs.declared.entries.Entry.{Entry}
use Rattle.su_desk.specs.Answer.{refusal_of}
use Rattle.su_version.specs.Version.{Version}
use Rattle.su_version.specs.Commit.{Commit, commit_format}
use Rattle.su_version.specs.Chain.{MayBeNext, next_order, tip}
use Rattle.su_legal.specs.Legal.{commits_of, entry_made, history, author_handle, group_handles}
use Rattle.su_view.specs.Holding.{HoldingState}
use Rattle.su_view.specs.declared.refusals.ViewRefusal.{ViewRefusal}
use Rattle.su_view.specs.declared.refusals.ViewRefusal.TheVariants.{Plain, WrongHandle, Change as ChangeRefused}

-- ---- i-handles that differ

-- the i-handle of group g, if the group is one of these
abbrev pub handle_in : List (ℕ × List ℕ) → ℕ → Option (List ℕ)
handle_in [] g = None
handle_in (x ∷ xs) g = cond (nat_eq x.0 g) (Some x.1) (handle_in xs g)

-- each group is above the one before
abbrev pub AscendFrom : ℕ → List (ℕ × List ℕ) → Type 0
AscendFrom least [] = Unit {0}
AscendFrom least (x ∷ xs) = (least ≤ x.0) × AscendFrom (x.0 + 1) xs

-- g is the first group that one list has and the other hasn't, or has with another i-handle
pub record IsFirstOther (xs ys : List (ℕ × List ℕ)) (g : ℕ) : Type 0 where
  pub other : handle_in xs g ≢ handle_in ys g
  pub first : (f : ℕ) → f < g → handle_in xs f ≡ handle_in ys f

-- Of the i-handles that a version structure holds, that of this principal is the first that isn't
-- one of these: the author's, or then the first of the groups.
abbrev pub IsOtherHandle : Version → List ℕ → List (ℕ × List ℕ) → Principal → Type 0
IsOtherHandle v handle groups (User u) = (u ≡ v.author) × (v.handle ≢ handle)
IsOtherHandle v handle groups (Group g) = (v.handle ≡ handle) × IsFirstOther v.groups groups g

-- of the i-handles that a commit holds, that of this principal is the first that isn't the tree's
-- with the change
abbrev pub IsWrongHandle : HoldingState → Commit → Change → Principal → Type 0
IsWrongHandle v c change p =
    IsOtherHandle c.version
    (author_handle v.roster (history v.held) (entry_made c change))
    (group_handles v.roster (history v.held) (entry_made c change)) p

-- ---- refusals

-- the bytes spell no commit
pub record IsNoCommit (bytes : List ℕ) (e : ViewRefusal) : Type 0 where
  pub place : ℕ
  pub refusal : e ≡ Plain (Malformed place)
  pub fails : IsRefusedAt (whole commit_format) (start bytes) place

-- the commit may not be the next of those that are held
pub record IsNotNext (v : HoldingState) (c : Commit) (e : ViewRefusal) : Type 0 where
  pub why : Refusal
  pub refusal : e ≡ Plain why
  pub not_next : RefusedBy
      (next_order v.roster (tip v.roster (commits_of v.held) c.version.author) c) why

-- the item is that of no change
pub record IsNoChange (bytes : List ℕ) (e : ViewRefusal) : Type 0 where
  pub place : ℕ
  pub refusal : e ≡ ChangeRefused (Malformed place)
  pub fails : IsRefusedAt (whole item_format) (start bytes) place

-- the line of an entry: it is accepted after the list's history
abbrev pub accepting : HoldingState → Entry → Line ViewRefusal
accepting v e = record {
  holds = refusal_of v.roster (history v.held) e ≡ None;
  refusal = λ r. (why : Refusal) × (r ≡ ChangeRefused why)
      × (refusal_of v.roster (history v.held) e ≡ Some why);
}

-- the i-handles that a commit holds are the tree's with the change
abbrev pub HoldsHandles : HoldingState → Commit → Change → Type 0
HoldsHandles v c change =
    (c.version.handle ≡ author_handle v.roster (history v.held) (entry_made c change))
    × (c.version.groups ≡ group_handles v.roster (history v.held) (entry_made c change))

-- What a change has to meet to fit a commit that may be next, in this order: it is accepted; the
-- commit has the key that it names as the author's next one, if it names one; the commit holds its
-- i-handles.
abbrev pub fitting_order : HoldingState → Commit → Change → List (Line ViewRefusal)
fitting_order v c change =
    accepting v (entry_made c change)
    ∷ demand (c.version.next_key ≡ named_key change) (Plain WrongKey)
    ∷ record {
      holds = HoldsHandles v c change;
      refusal = λ e. (p : Principal) × (e ≡ WrongHandle p) × IsWrongHandle v c change p;
    }
    ∷ []

-- the item spells a change that doesn't fit the commit
pub record IsUnfitChange (v : HoldingState) (c : Commit) (bytes : List ℕ) (e : ViewRefusal)
    : Type 0 where
  pub change : Change
  pub is_change : IsChange change
  pub has_item : HasItem change
  pub spelled : bytes ≡ item_bytes change
  pub unfit : RefusedBy (fitting_order v c change) e

-- With this item of its change, the commit, which may be next, doesn't join the list.
abbrev pub IsRefusedWith : HoldingState → Commit → List ℕ → ViewRefusal → Type 0
IsRefusedWith v c bytes e = IsNoChange bytes e ⊎ IsUnfitChange v c bytes e

-- The commit doesn't join the list: it may not be next, or with what the source gave as the item of
-- its change, which has the digest that it names, it doesn't join.
abbrev pub IsRefusedCommit : (List ℕ → Type 0) → HoldingState → Commit → ViewRefusal → Type 0
IsRefusedCommit MayGive v c e =
    IsNotNext v c e
    ⊎ ((bytes : List ℕ) × MayGive bytes × (sha256 bytes ≡ c.version.change)
    × MayBeNext v.roster (commits_of v.held) c × IsRefusedWith v c bytes e)

-- The source was asked for the item of this digest, and failed: that is what is refused, and is
-- counted.
pub record HasFailed (before after : Failures) (digest : List ℕ) (e : ViewRefusal) : Type 0 where
  pub why : Refusal
  pub refusal : e ≡ Plain why
  pub failure : is_failure why ≡ true
  pub counted : after ≡ one_more before digest
