-- What a client at work has, and what it tells of its list.
use Rattle.std.specs.Prelude.{◌≡◌, ◌+◌, ◌⊎◌, ℕ, Bool, List, Ok, Option, Contains, true}
use Rattle.std.specs.Global.{Vec}
use Rattle.std.specs.List.{AllByRecursion}
use Rattle.su_bytes.specs.Membership.{Membership}
use Rattle.su_bytes.specs.declared.file_ids.FileId.{FileId}
use Rattle.su_node.specs.Name.{Name}
use Rattle.su_version.specs.Commit.{Commit}
use Rattle.su_table.specs.Query.{listing, contents_within}
use Rattle.su_desk.specs.Applied.{tree_after}
use Rattle.su_desk.specs.declared.entries.Entry.{Entry}
use Rattle.su_draft.specs.Walk.{found}
use Rattle.su_legal.specs.Legal.{Committed}
use Rattle.su_part.specs.Bytes.{NoneClash}
use Rattle.su_part_forest.specs.Loading.{HashedFor}
use Rattle.su_view.specs.Holding.{HoldingState, tree_of_list, with_more}
use Rattle.su_view.specs.Acting.{TakesSome}
use Rattle.su_client.specs.Link.{LinkState, MayGive}
use Rattle.su_client.specs.Outbox.{IsAtHand}

-- A time when its source was asked about the tree: the items that the cache kept; whether it had a file
-- of its own for what is left; what was at hand of what was put, with its digest, and the link then;
-- and the history then, with what stood ready.
pub record Question : Type 0 where
  pub kept : List (List ℕ)
  pub has_scratch : Bool
  pub at_hand : Option (List ℕ × Vec ℕ)
  pub link : LinkState
  pub history : List Entry

-- what the source might have given then: a file gives anything
abbrev pub might_give : Question → List ℕ → Type 0
might_give q item =
    ((q.has_scratch ≡ true) ⊎ (IsAtHand q.at_hand item ⊎ MayGive q.link item))
    ⊎ Contains q.kept item

-- no byte string that is hashed for the tree of then had the digest of another one that the source
-- might have given
abbrev pub MixesNone : Membership → Question → Type 0
MixesNone ro q = NoneClash (HashedFor (tree_after ro q.history)) (might_give q)

-- which leaf signs next: so many keys came before that one, and this is the number of the leaf
pub record NextLeaf : Type 0 where
  pub keys : ℕ
  pub leaf : ℕ

-- the leaf behind it, of the same key
abbrev pub leaf_behind : NextLeaf → NextLeaf
leaf_behind q = record { keys = q.keys; leaf = q.leaf + 1 }

-- what it holds; its link to the server; when its source was asked about the tree; the commits that
-- were signed with its keys, and which leaf signs next
pub record MemberState : Type 0 where
  pub holding : HoldingState
  pub link : LinkState
  pub asked : List Question
  pub signed : List Commit
  pub next : NextLeaf

-- Each time that its source was asked about the tree, nothing could be mixed up. (It is what has to be
-- believed of SHA-256 and of the items that were met, for a client to be right.)
abbrev pub IsClear : MemberState → Type 0
IsClear s = AllByRecursion (MixesNone s.holding.roster) s.asked

-- what it holds and what it has signed stay; over its link it may be asked
pub record Stays (s t : MemberState) : Type 0 where
  pub holding : t.holding ≡ s.holding
  pub asked : t.asked ≡ s.asked
  pub signed : t.signed ≡ s.signed
  pub next : t.next ≡ s.next

-- What it holds and what it has signed stay; over its link it may be asked, also about the tree: where
-- nothing was mixed up then, nothing was before.
pub record OnlyAsks (s t : MemberState) : Type 0 where
  pub holding : t.holding ≡ s.holding
  pub clear : IsClear t → IsClear s
  pub signed : t.signed ≡ s.signed
  pub next : t.next ≡ s.next

-- another key was put in the place of its own, of which this leaf signs next; what it holds, its
-- link and what it has signed stay
pub record ReplacesKey (s : MemberState) (leaf : ℕ) (t : MemberState) : Type 0 where
  pub holding : t.holding ≡ s.holding
  pub link : t.link ≡ s.link
  pub asked : t.asked ≡ s.asked
  pub signed : t.signed ≡ s.signed
  pub next : t.next ≡ record { keys = s.next.keys + 1; leaf = leaf }

-- its list only grows
abbrev pub Grew : HoldingState → HoldingState → Type 0
Grew v w = (more : List Committed) × (w ≡ with_more v more)

-- it takes some commits, where nothing was mixed up as it may, and signs nothing
pub record OnlyTakes (s t : MemberState) : Type 0 where
  pub grew : Grew s.holding t.holding
  pub takes : IsClear t → TakesSome s.holding t.holding
  pub clear : IsClear t → IsClear s
  pub signed : t.signed ≡ s.signed
  pub next : t.next ≡ s.next

-- the path leads to a directory of the list's tree, which has these names
abbrev pub Lists : HoldingState → List ℕ → List (Name × FileId) → Type 0
Lists v path names =
    (f : FileId) × (found (tree_of_list v) path ≡ Ok f)
    × (listing (tree_of_list v) f ≡ Ok names)

-- the path leads to a file of the list's tree, which has these bytes within a range
abbrev pub Shows : HoldingState → List ℕ → ℕ → ℕ → List ℕ → Type 0
Shows v path off len bytes =
    (f : FileId) × (found (tree_of_list v) path ≡ Ok f)
    × (contents_within (tree_of_list v) f off len ≡ Ok bytes)
