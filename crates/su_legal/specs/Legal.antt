-- Legal lists of commits: those that a client takes. (SUNDR, section 3.3: what a client checks
-- before it believes what a server shows.)
use Rattle.std.specs.Prelude.{◌≡◌, ℕ, List, [], ◌∷◌, ◌++◌, map, None}
use Rattle.su_bytes.specs.Membership.{Membership}
use Rattle.su_bytes.specs.declared.principals.Principal.TheVariants.{User}
use Rattle.su_table.specs.Tree.{Tree}
use Rattle.su_table.specs.Handle.{handle}
use Rattle.su_op.specs.declared.operations.Change.{Change}
use Rattle.su_op.specs.Action.{named_key}
use Rattle.su_desk.specs.declared.entries.Entry.{Entry}
use Rattle.su_desk.specs.History.{entry_by}
use Rattle.su_desk.specs.Applied.{tree_after}
use Rattle.su_desk.specs.Answer.{refusal_of}
use Rattle.su_desk.specs.Version.{cells_of}
use Rattle.su_desk.specs.Trial.{carried_handles}
use Rattle.su_change.specs.Item.{IsChange, HasItem, change_digest}
use Rattle.su_version.specs.Commit.{Commit}
use Rattle.su_version.specs.Chain.{chain_head, chain_vector, MayBeNext}

-- a commit, with the change whose digest it holds
pub record Committed : Type 0 where
  pub commit : Commit
  pub change : Change

abbrev pub author_of : Committed → ℕ
author_of c = c.commit.version.author

abbrev pub commits_of : List Committed → List Commit
commits_of cs = map (λ c. c.commit) cs

-- the entry that a commit makes of a change
abbrev pub entry_made : Commit → Change → Entry
entry_made c change = entry_by c.version.author c.version.format change

-- the entry of a commit with its change
abbrev pub entry_of : Committed → Entry
entry_of c = entry_made c.commit c.change

-- the history that a list of commits tells
abbrev pub history : List Committed → List Entry
history cs = map entry_of cs

-- what the next commit names as the one before it
abbrev pub head_of : Membership → List Committed → List ℕ
head_of ro cs = chain_head ro (commits_of cs)

-- the version vector of the last commit, at first zeros
abbrev pub vector_of : Membership → List Committed → List ℕ
vector_of ro cs = chain_vector ro (commits_of cs)

-- ---- a change, and the commit that names it

-- the tree after an entry that comes after a history
abbrev pub tree_with : Membership → List Entry → Entry → Tree
tree_with ro h e = tree_after ro (h ++ e ∷ [])

-- the i-handle of its author then
abbrev pub author_handle : Membership → List Entry → Entry → List ℕ
author_handle ro h e = handle (tree_with ro h e) (User e.author)

-- the groups of which it writes a pointer, each with its i-handle then
abbrev pub group_handles : Membership → List Entry → Entry → List (ℕ × List ℕ)
group_handles ro h e = carried_handles ro (cells_of ro h e) (tree_with ro h e)

-- The commit names the change, and holds what comes of it after a history.
pub record ChangeFits (ro : Membership) (h : List Entry) (c : Commit) (change : Change) : Type 0 where
  -- the change can be stored, and its digest is the one that the commit names
  pub is_change : IsChange change
  pub has_item : HasItem change
  pub named : c.version.change ≡ change_digest change
  -- it has the author's next key just where the change names one, and this is it
  pub next_key_is : c.version.next_key ≡ named_key change
  -- the i-handles of the tree with it: the author's, and those of just the groups that it carries
  pub author_handle_is : c.version.handle ≡ author_handle ro h (entry_made c change)
  pub group_handles_are : c.version.groups ≡ group_handles ro h (entry_made c change)

-- ---- legal lists

-- A commit with its change may join a list.
pub record MayJoin (ro : Membership) (cs : List Committed) (c : Committed) : Type 0 where
  -- it may be the next of the commits
  pub next : MayBeNext ro (commits_of cs) c.commit
  -- its change is accepted after the changes before it
  pub accepted : refusal_of ro (history cs) (entry_of c) ≡ None
  pub fits : ChangeFits ro (history cs) c.commit c.change

-- each of these may join the list after those before it
abbrev pub LegalAfter : Membership → List Committed → List Committed → Type 0
LegalAfter ro before [] = Unit {0}
LegalAfter ro before (c ∷ cs) = MayJoin ro before c × LegalAfter ro (before ++ c ∷ []) cs

-- A legal list: each of its commits may join those before it.
abbrev pub Legal : Membership → List Committed → Type 0
Legal ro cs = LegalAfter ro [] cs
