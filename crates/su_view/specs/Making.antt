-- What a client's user signs for a change of the user's own. (SUNDR, section 3.3.)
use Rattle.std.specs.Prelude.{◌≡◌, ◌⊎◌, ℕ, List, ◌∷◌, [], map, Option, Some, None}
use Rattle.su_bytes.specs.Order.{Line, demand, Passes, RefusedBy}
use Rattle.su_bytes.specs.declared.formats.Format.{Format as CommitFormat}
use Rattle.su_bytes.specs.declared.refusals.Refusal.TheVariants.{BadNumber, BadSignature, KeySpent, KeyFileFault, TooBig}
use Rattle.su_block.specs.declared.failures.Failures.{Failures}
use Rattle.su_op.specs.declared.operations.Change.{Change}
use Rattle.su_op.specs.Action.{named_key}
use Rattle.su_desk.specs.declared.entries.Entry.{Entry}
use Rattle.su_desk.specs.Answer.{made_format, refusal_of}
use Rattle.su_desk.specs.History.{entry_by}
use Rattle.su_lms.specs.Signature.{leaf_of}
use Rattle.su_vector.specs.Vector.{bump}
use Rattle.su_version.specs.Version.{Version}
use Rattle.su_version.specs.Commit.{Commit}
use Rattle.su_version.specs.Chain.{IsSignedBy, chain_key}
use Rattle.su_change.specs.Item.{HasSpelling, IsTooLong, change_digest}
use Rattle.su_legal.specs.Legal.{commits_of, history, head_of, vector_of, author_handle, group_handles}
use Rattle.su_view.specs.Holding.{HoldingState}
use Rattle.su_view.specs.Joining.{HasFailed, accepting}
use Rattle.su_view.specs.declared.refusals.ViewRefusal.{ViewRefusal}
use Rattle.su_view.specs.declared.refusals.ViewRefusal.TheVariants.{Plain, Change as ChangeRefused}

-- the format in which the client's user makes a change
abbrev pub own_format : HoldingState → Change → CommitFormat
own_format v change = made_format (history v.held) change

-- the entry that the client's user makes of a change
abbrev pub own_entry : HoldingState → Change → Entry
own_entry v change = entry_by v.user (own_format v change) change

-- the version structure of a change that comes next: it names the list's head and the change, has
-- the i-handles and the numbers of the tree with it, and the next key that the change names
abbrev pub next_version : HoldingState → Change → Version
next_version v change = record {
  format = own_format v change;
  author = v.user;
  prev = head_of v.roster v.held;
  change = change_digest change;
  handle = author_handle v.roster (history v.held) (own_entry v change);
  groups = group_handles v.roster (history v.held) (own_entry v change);
  vector = bump v.roster (vector_of v.roster v.held) v.user
      (map (λ g. g.0) (group_handles v.roster (history v.held) (own_entry v change)));
  next_key = named_key change;
}

-- the key that the client's user has after the list: the next commit is signed under it
abbrev pub own_key : HoldingState → Option (List ℕ)
own_key v = chain_key v.roster v.user (commits_of v.held)

-- This is a commit of that change, made by the client's user with this leaf.
pub record IsMade (v : HoldingState) (change : Change) (leaf : ℕ) (c : Commit) : Type 0 where
  pub accepted : refusal_of v.roster (history v.held) (own_entry v change) ≡ None
  pub version : c.version ≡ next_version v change
  pub signed : IsSignedBy (own_key v) c
  pub leaf_is : leaf_of c.signature ≡ leaf

-- What has to hold for a change to be drafted, in this order: it is accepted; it can be spelled; its
-- item isn't too long. (One operation that is accepted always has an item; a batch may not.)
abbrev pub drafting_order : HoldingState → Change → List (Line ViewRefusal)
drafting_order v change =
    accepting v (own_entry v change)
    ∷ demand (HasSpelling change) (ChangeRefused BadNumber)
    ∷ demand (¬ IsTooLong change) (ChangeRefused TooBig)
    ∷ []

-- What has to hold for a commit to be made of a change, in this order: the key is the one that the
-- user has then; the change can be drafted.
abbrev pub making_order : List ℕ → HoldingState → Change → List (Line ViewRefusal)
making_order key v change =
    demand (own_key v ≡ Some key) (Plain BadSignature) ∷ drafting_order v change

-- Why no commit is made of a change: that doesn't hold; or then the source failed when it was given
-- the item; or each leaf has signed; or not each has, and the store of the next one's number failed.
abbrev pub IsRefusedMaking : Failures → Failures → List ℕ → Type 0 → HoldingState → Change → ViewRefusal → Type 0
IsRefusedMaking before after key Spent v change e =
    RefusedBy (making_order key v change) e
    ⊎ (Passes (making_order key v change)
    × (HasFailed before after (change_digest change) e
    ⊎ ((e ≡ Plain KeySpent) × Spent)
    ⊎ ((e ≡ Plain KeyFileFault) × ¬ Spent)))
