-- What a client does from one state to another: acts, where nothing was mixed up such as it may, one
-- after the other, and each commit that is signed with its keys is one of them. (SUNDR, section 3.3;
-- RFC 8554, section 9.2: a leaf signs once.)
use Rattle.std.specs.Prelude.{◌≡◌, ◌≤◌, ℕ, List, [], ◌∷◌, ◌+◌, ◌++◌, length, map}
use Rattle.su_legal.specs.Act.{Act, Act.Takes, Act.Signs}
use Rattle.su_version.specs.Version.{Version}
use Rattle.su_version.specs.Commit.{Commit}
use Rattle.su_view.specs.Acting.{Does, after}
use Rattle.su_view.specs.Holding.{HoldingState, MaySign}
use Rattle.su_client_work.specs.Member.{NextLeaf, MemberState, IsClear}

-- the version structures that these acts sign, in order
abbrev pub signed_in : List Act → List Version
signed_in [] = []
signed_in (Takes more ∷ acts) = signed_in acts
signed_in (Signs s ∷ acts) = s ∷ signed_in acts

-- What is so of an act whatever was mixed up: what is signed may be.
abbrev pub MayThen : HoldingState → Act → Type 0
MayThen v (Takes more) = Unit {0}
MayThen v (Signs s) = MaySign v s

-- Of a client that holds v the list only grows by these acts, one after the other, and what it signs
-- may be signed then; at last it holds w.
abbrev pub Goes : HoldingState → List Act → HoldingState → Type 0
Goes v [] w = w ≡ v
Goes v (act ∷ acts) w = MayThen v act × Goes (after v act) acts w

-- From one leaf to another so many have signed, if they are of one key; and no earlier key comes
-- back.
pub record LeavesUsed (before : NextLeaf) (count : ℕ) (after : NextLeaf) : Type 0 where
  pub keys : before.keys ≤ after.keys
  pub leaves : after.keys ≡ before.keys → after.leaf ≡ before.leaf + count

-- It does these acts, and where nothing was mixed up it may do each; and it signs these commits: their
-- version structures are those of the acts, and each uses one leaf.
pub record Works (s t : MemberState) : Type 0 where
  pub acts : List Act
  pub commits : List Commit
  pub goes : Goes s.holding acts t.holding
  pub does : IsClear t → Does s.holding acts t.holding
  pub clear : IsClear t → IsClear s
  pub signed : t.signed ≡ s.signed ++ commits
  pub signs : signed_in acts ≡ map (λ c. c.version) commits
  pub leaves : LeavesUsed s.next (length commits) t.next
