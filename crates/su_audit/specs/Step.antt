-- What comes of the next record of a log.
use Rattle.std.specs.Prelude.{◌≡◌, ◌≢◌, ◌+◌, ◌⊎◌, ℕ, List, [], ◌∷◌, ◌++◌, length, false, ⊤, Contains}
use Rattle.sha2.specs.Sha256.{sha256}
use Rattle.su_bytes.specs.declared.refusals.Refusal.TheVariants.{Malformed, TooBig, MissingBlock, NoMemory}
use Rattle.su_block.specs.Item.{is_item}
use Rattle.su_block.specs.Memory.{HasItemOf}
use Rattle.su_change.specs.Item.{item_bytes}
use Rattle.su_version.specs.Commit.{Commit, IsCommit, commit_bytes}
use Rattle.su_legal.specs.Legal.{Committed}
use Rattle.su_view.specs.Holding.{HoldingState, Took}
use Rattle.su_view.specs.Joining.{IsNoCommit, IsRefusedCommit}
use Rattle.su_view.specs.declared.refusals.ViewRefusal.{ViewRefusal}
use Rattle.su_view.specs.declared.refusals.ViewRefusal.TheVariants.{Plain}
use Rattle.su_audit.specs.declared.steps.NotTaken.{NotTaken}
use Rattle.su_audit.specs.declared.steps.NotTaken.TheVariants.{Refused, Unloaded}
use Rattle.su_audit.specs.declared.steps.Step.{Step}
use Rattle.su_audit.specs.declared.steps.Step.TheVariants as step
use Rattle.su_log.specs.Part.{BeginWith}
use Rattle.su_log.specs.Log.{LogRecord, record_bytes, HasNoPart}

-- Why a record is refused, for what is held and the items that came before: there is no memory; its
-- item is none; its commit's bytes spell none; or no item so far, with its own, has the digest that
-- the commit names; or the commit doesn't join, with the one of these that has.
abbrev pub IsRefusedRecord : HoldingState → List (List ℕ) → List ℕ → List ℕ → ViewRefusal → Type 0
IsRefusedRecord v had bytes item e =
    (e ≡ Plain NoMemory)
    ⊎ ((e ≡ Plain TooBig) × (is_item item ≡ false))
    ⊎ IsNoCommit bytes e
    ⊎ ((c : Commit) × IsCommit c × (bytes ≡ commit_bytes c)
    × (((e ≡ Plain MissingBlock) × ¬ HasItemOf (had ++ item ∷ []) c.version.change)
    ⊎ IsRefusedCommit (Contains (had ++ item ∷ [])) v c e))

-- where a commit isn't taken as it is refused, it is so
abbrev pub IfRefused : (ViewRefusal → Type 0) → NotTaken → Type 0
IfRefused P (Refused e) = P e
IfRefused P Unloaded = ⊤

-- Why what a log has next is refused, which begins at a place: no part begins there, and its place
-- is named; or behind the first part; or the record is refused.
abbrev pub IsRefusedNext : HoldingState → List (List ℕ) → ℕ → List ℕ → ViewRefusal → Type 0
IsRefusedNext v had place input e =
    ((e ≡ Plain (Malformed place)) × (input ≢ []) × HasNoPart input)
    ⊎ ((first rest : List ℕ) × BeginWith input first rest
    × (((e ≡ Plain (Malformed (place + (4 + length first)))) × HasNoPart rest)
    ⊎ ((item others : List ℕ) × BeginWith rest item others × IsRefusedRecord v had first item e)))

-- The commit of a record is taken: with an item of its change that is this one, or one of those
-- that are held; of each of them one with its digest is held from then on, and no other.
pub record TakesRecord (v : HoldingState) (had : List (List ℕ)) (r : LogRecord) (v' : HoldingState)
    (has : List (List ℕ)) : Type 0 where
  pub taken : Committed
  pub bytes_are : r.commit ≡ commit_bytes taken.commit
  pub took : Took v (taken ∷ []) v'
  pub given : Contains (had ++ r.item ∷ []) (item_bytes taken.change)
  pub no_more : (item : List ℕ) → Contains has item → Contains (had ++ r.item ∷ []) item
  pub kept : (item : List ℕ) → Contains (had ++ r.item ∷ []) item → HasItemOf has (sha256 item)

-- The log goes on with a record, whose commit is taken; and behind it, at a place, this is left.
pub record Takes (place : ℕ) (v : HoldingState) (had : List (List ℕ)) (input : List ℕ)
    (Left : ℕ → List ℕ → Type 0) (v' : HoldingState) (has : List (List ℕ)) : Type 0 where
  pub first : LogRecord
  pub rest : List ℕ
  pub begins : input ≡ record_bytes first ++ rest
  pub left : Left (place + length (record_bytes first)) rest
  pub takes : TakesRecord v had first v' has

abbrev pub Steps : ℕ → HoldingState → List (List ℕ) → List ℕ → (ℕ → List ℕ → Type 0) → HoldingState → List (List ℕ) → Step → Type 0
Steps place v had input Left v' has step.Took = Takes place v had input Left v' has
Steps place v had input Left v' has step.Ended = input ≡ []
Steps place v had input Left v' has (step.Refused e) = IsRefusedNext v had place input e
Steps place v had input Left v' has (step.Failed fault) = ⊤
