-- When a desk on trial is what it seems.
use Rattle.std.specs.Prelude.{ℕ, ◌≤◌, List, length}
use Rattle.std.specs.Global.{Vec}
use Rattle.std.specs.List.{AllByRecursion}
use Rattle.su_block.specs.declared.sources.BlockSource.{Ghosts}
use Rattle.su_desk.specs.declared.entries.Entry.{Entry}
use Rattle.su_stored_desk.specs.Asked.{IsClear}
use Rattle.su_stored_desk.specs.Right.{state_of, HasNumbers, IsRight}
use Rattle.su_stored_desk.specs.Tried.{seen_of, TriedFits}
use Rattle.su_stored_desk.specs.declared.desks.Desk.{Desk}
use Rattle.su_stored_desk.specs.declared.prepared.Tried.{Tried}

-- No more entries stand ready than there are; there is a number of each user and group, and one of
-- each from before every entry that stands ready; and where nothing was mixed up each time that its
-- store was asked, it is right, and what is kept of those that stand ready takes them back.
pub record IsTrusted {S : Type 0} {g : Ghosts S} (may_give : S → List ℕ → Type 0) (d : Desk S g)
    (ts : List Tried) (asked : List (S × Vec Entry)) : Type 0 where
  pub many : length ts ≤ length d.entries.items
  pub numbers : HasNumbers d.roster d.counters.items
  pub numbered : AllByRecursion (λ t. HasNumbers d.roster t.versions.items) ts
  pub right : IsClear may_give (record {
    state = seen_of (state_of d) ts;
    source = d.stored.source;
    asked = asked;
  }) → IsRight d
  pub fits : IsClear may_give (record {
    state = seen_of (state_of d) ts;
    source = d.stored.source;
    asked = asked;
  }) → TriedFits (state_of d) ts
