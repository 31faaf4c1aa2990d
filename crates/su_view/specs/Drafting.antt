-- A change of the user's own, before it is signed, on a tree that may lie on a store.
use Rattle.std.specs.Prelude.{◌≡◌, ◌≤◌, ℕ, length, List, ◌∷◌, [], ◌++◌, None}
use Rattle.su_block.specs.declared.failures.Failures.{Failures}
use Rattle.su_op.specs.declared.operations.Change.{Change}
use Rattle.su_op.specs.Action.{named_key}
use Rattle.su_desk.specs.Answer.{refusal_of}
use Rattle.su_desk.specs.Version.{versions}
use Rattle.su_change.specs.Item.{IsChange, HasItem, item_bytes, change_digest}
use Rattle.su_legal.specs.Legal.{history, head_of, author_handle, group_handles}
use Rattle.su_lms.specs.Signature.{leaf_of}
use Rattle.su_stored_desk.specs.Right.{HasShape}
use Rattle.su_version.specs.Chain.{IsSignedBy}
use Rattle.su_version.specs.Commit.{Commit}
use Rattle.su_version.specs.Version.{Version}
use Rattle.su_view.specs.Holding.{HoldingState}
use Rattle.su_view.specs.Making.{own_format, own_entry, own_key, IsRefusedMaking}
use Rattle.su_view.specs.declared.refusals.ViewRefusal.{ViewRefusal}
use Rattle.su_view.specs.declared.views.drafts.Draft.{Draft}

-- What is at hand of a change before it is signed, whatever its source gave: its format, its item,
-- the next key that it names, and as many numbers and i-handles as there have to be.
pub record IsDraft (v : HoldingState) (change : Change) (d : Draft) : Type 0 where
  pub format : d.format ≡ own_format v change
  pub is_change : IsChange change
  pub has_item : HasItem change
  pub spelled : d.item.items ≡ item_bytes change
  pub some_bytes : 1 ≤ length d.item.items
  pub few_bytes : length d.item.items ≤ 70000
  pub next_key : d.next_key ≡ named_key change
  pub shape : HasShape v.roster d.prepared

-- The change is accepted, and what is told of it are the i-handles and numbers of the tree with it.
pub record FitsTree (v : HoldingState) (change : Change) (d : Draft) : Type 0 where
  pub accepted : refusal_of v.roster (history v.held) (own_entry v change) ≡ None
  pub handle : d.prepared.author_handle
      ≡ author_handle v.roster (history v.held) (own_entry v change)
  pub groups : d.prepared.groups.items
      ≡ group_handles v.roster (history v.held) (own_entry v change)
  pub numbers : d.prepared.versions.items
      ≡ versions v.roster (history v.held ++ own_entry v change ∷ [])

-- What a commit of that change, made by the client's user with this leaf, is whatever its source gave.
pub record IsOfChange (v : HoldingState) (change : Change) (leaf : ℕ) (c : Commit) : Type 0 where
  pub format : c.version.format ≡ own_format v change
  pub author : c.version.author ≡ v.user
  pub prev : c.version.prev ≡ head_of v.roster v.held
  pub names : c.version.change ≡ change_digest change
  pub next_key : c.version.next_key ≡ named_key change
  pub signed : IsSignedBy (own_key v) c
  pub leaf_is : leaf_of c.signature ≡ leaf

-- so is its version structure
pub record IsVersionOf (v : HoldingState) (change : Change) (s : Version) : Type 0 where
  pub format : s.format ≡ own_format v change
  pub author : s.author ≡ v.user
  pub prev : s.prev ≡ head_of v.roster v.held
  pub names : s.change ≡ change_digest change
  pub next_key : s.next_key ≡ named_key change

-- The source was put this item, once it had been asked what was asked.
abbrev pub PutsThen : {S : Type 0} → (S → S → Type 0) → (S → List ℕ → S → Type 0)
    → S → List ℕ → S → Type 0
PutsThen {S} comes puts s item t = (here : S) × comes s here × puts here item t

-- No commit is made of a change, as the whole tree would have it: where the source failed when it was
-- given the item, it was what it is here, between s and t.
abbrev pub IsUnmade : {S : Type 0} → (S → Failures) → (S → S → Type 0) → List ℕ → Type 0
    → HoldingState → Change → S → S → ViewRefusal → Type 0
IsUnmade {S} failed comes key Spent v change s t e =
    (here : S) × comes s here × comes here t
    × IsRefusedMaking (failed here) (failed t) key Spent v change e
