-- What clients hold among the events, in the words of a view's contracts.
use Rattle.std.specs.Prelude.{◌≡◌, ℕ, List, [], ◌∷◌, ◌++◌, map}
use Rattle.std.specs.List.{Contains}
use Rattle.su_legal.specs.Act.{Act}
use Rattle.su_legal.specs.Legal.{Committed}
use Rattle.su_view.specs.Holding.{HoldingState}
use Rattle.su_fork.specs.Events.{World, Event, taking, signing, list_of, all_taken, versions_of, Run}
use Rattle.su_fork.specs.Premises.{NoForgery}

-- what client k holds after these events, of which it has left the items of the first n commits
abbrev pub holding_after : World → List Event → ℕ → ℕ → HoldingState
holding_after w es k n = record {
  roster = w.roster;
  user = w.user k;
  held = list_of k es;
  itemless = n;
}

-- client k does these acts, one after the other
abbrev pub acting : ℕ → List Act → List Event
acting k acts = map (λ act. record { client = k; act = act }) acts

-- a run after which these two clients hold these lists
pub record Shown (w : World) (j : ℕ) (xs : List Committed) (k : ℕ) (ys : List Committed)
    : Type 0 where
  pub events : List Event
  pub run : Run w events
  pub first : list_of j events ≡ xs
  pub second : list_of k events ≡ ys

-- client k signs the version structure of a commit, and then takes the commit
abbrev pub committing : ℕ → Committed → List Event
committing k c = signing k c.commit.version ∷ taking k (c ∷ []) ∷ []

-- After these events client k signs a commit and takes it: that is a run, in which it is signed and
-- nothing is forged.
pub record CommitsIn (w : World) (es : List Event) (k : ℕ) (c : Committed) : Type 0 where
  pub run : Run w (es ++ committing k c)
  pub no_forgery : NoForgery w (es ++ committing k c) (all_taken (es ++ committing k c))
  pub signed : Contains (versions_of w (w.user k) (es ++ committing k c)) c.commit.version
  pub held : list_of k (es ++ committing k c) ≡ list_of k es ++ c ∷ []
