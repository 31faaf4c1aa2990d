-- Where a book and a view meet: a record is shown to a view that holds those before it.
use Rattle.std.specs.Prelude.{◌≡◌, ◌⊎◌, true, List, ◌++◌, ◌∷◌}
use Rattle.su_bytes.specs.declared.refusals.Refusal.TheVariants.{WrongKey}
use Rattle.su_block.specs.Failure.{is_failure}
use Rattle.su_version.specs.Commit.{Commit}
use Rattle.su_book.specs.Machine.{BookState, records_of}
use Rattle.su_legal.specs.Legal.{commits_of}
use Rattle.su_view.specs.Holding.{HoldingState}
use Rattle.su_view.specs.declared.refusals.ViewRefusal.{ViewRefusal}
use Rattle.su_view.specs.declared.refusals.ViewRefusal.TheVariants.{Plain, WrongHandle, Change, OwnMissing}

-- The view is of the book's roster, and holds just the records before this one.
pub record IsBefore (b : BookState) (v : HoldingState) (c : Commit) (after : List Commit) : Type 0 where
  pub roster : v.roster ≡ b.roster
  pub records : records_of b.journal ≡ commits_of v.held ++ c ∷ after

-- a refusal for the change of a commit, for a next key that the change doesn't name, for an
-- i-handle, or because the source fails
abbrev pub IsOfTheChange : ViewRefusal → Type 0
IsOfTheChange (Change why) = Unit {0}
IsOfTheChange (WrongHandle p) = Unit {0}
IsOfTheChange (Plain why) = (is_failure why ≡ true) ⊎ (why ≡ WrongKey)
IsOfTheChange OwnMissing = ⊥
