-- Lists of commits as bytes: of each, how many bytes it has, and these. (This project's own
-- format.)
use Rattle.std.specs.Prelude.{◌≡◌, ◌≢◌, ◌+◌, ℕ, ◌⊎◌, List, [], ◌++◌, length}
use Rattle.std.specs.List.{flat_map, AllByRecursion}
use Rattle.su_bytes.specs.declared.refusals.Refusal.TheVariants.{Malformed}
use Rattle.su_block.specs.declared.failures.Failures.{Failures}
use Rattle.su_change.specs.Item.{item_bytes}
use Rattle.su_version.specs.Commit.{Commit, IsCommit, commit_bytes}
use Rattle.su_log.specs.Part.{part_bytes, BeginWith}
use Rattle.su_legal.specs.Legal.{Committed}
use Rattle.su_view.specs.Holding.{HoldingState}
use Rattle.su_view.specs.Joining.{HasFailed, IsNoCommit, IsRefusedCommit}
use Rattle.su_view.specs.declared.refusals.ViewRefusal.{ViewRefusal}
use Rattle.su_view.specs.declared.refusals.ViewRefusal.TheVariants.{Plain}
use Rattle.su_view.specs.Viewed.{FailsToLoad, Grows, IsClear, ViewOn}

abbrev pub commits_bytes : List Committed → List ℕ
commits_bytes cs = flat_map (λ c. part_bytes (commit_bytes c.commit)) cs

-- A commit that is shown isn't taken: these are the bytes of none; or the source fails to give the
-- item of its change; or the commit doesn't join the list.
abbrev pub IsRefusedBytes : (List ℕ → Type 0) → Failures → Failures → HoldingState → List ℕ → ViewRefusal → Type 0
IsRefusedBytes MayGive before after v bytes e =
    IsNoCommit bytes e
    ⊎ ((c : Commit) × IsCommit c × (bytes ≡ commit_bytes c)
    × (HasFailed before after c.version.change e ⊎ IsRefusedCommit MayGive v c e))

-- What a list begins with isn't taken: no record stands there, and its place is named; or what
-- stands there is refused.
abbrev pub IsRefusedFirst : (List ℕ → Type 0) → Failures → Failures → HoldingState → ℕ → List ℕ → ViewRefusal → Type 0
IsRefusedFirst MayGive before after v place bytes e =
    ((e ≡ Plain (Malformed place)) × ((first rest : List ℕ) → BeginWith bytes first rest → ⊥))
    ⊎ ((first rest : List ℕ) × BeginWith bytes first rest
    × IsRefusedBytes MayGive before after v first e)

module _ {S : Type 0} (may_give : S → List ℕ → Type 0) where
  -- The commits that a list begins with were taken, so many of them, and the rest wasn't.
  pub record HasTaken (w : ViewOn S) (bytes : List ℕ) (n : ℕ) (x : ViewOn S) (rest : List ℕ)
      : Type 0 where
    pub more : List Committed
    pub grows : Grows may_give w more x
    -- each with an item of its change that the source might give
    pub given : AllByRecursion (λ c. may_give w.source (item_bytes c.change)) more
    pub number : n ≡ length more
    pub front : bytes ≡ commits_bytes more ++ rest

  -- Of the list it took so many, and refused the next: where nothing was mixed up, as something of
  -- the tree couldn't be loaded; or for what stands there, which it asked its source for when that
  -- was what it is here.
  pub record RefusesNext (failed : S → Failures) (comes : S → S → Type 0) (w : ViewOn S)
      (bytes : List ℕ) (n : ℕ) (e : ViewRefusal) (x : ViewOn S) : Type 0 where
    pub rest : List ℕ
    pub taken : HasTaken w bytes n x rest
    -- what is refused stands there
    pub goes_on : rest ≢ []
    pub why : IsClear may_give x → FailsToLoad e
        ⊎ ((place : ℕ) × (here : S) × (place + length rest ≡ length bytes) × comes w.source here
        × comes here x.source
        × IsRefusedFirst (may_give w.source) (failed here) (failed x.source) x.holding place rest e)
