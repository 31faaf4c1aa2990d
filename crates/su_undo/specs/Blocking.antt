-- What blocks the undo of a batch, by the actions in batches.
use Rattle.std.specs.Prelude.{◌≡◌, false, ◌||◌, List, [], ◌∷◌}
use Rattle.su_undo.specs.System.{System}
use Rattle.su_undo.specs.Replay.{NoneReads}
use Rattle.su_undo.specs.Union.{Union}
use Rattle.su_undo.specs.Batch.{batched, all_writes}
use Rattle.su_undo.specs.Flat.{flat}

-- areas together meet others just where one of them does
pub record MeetsByParts (s : System) (u : Union s) : Type 0 where
  pub none : (w : s.Areas) → s.meet u.none w ≡ false
  pub first : (a b w : s.Areas) → s.meet (u.join a b) w ≡ (s.meet a w || s.meet b w)
  pub no_other : (w : s.Areas) → s.meet w u.none ≡ false
  pub second : (w a b : s.Areas) → s.meet w (u.join a b) ≡ (s.meet w a || s.meet w b)

-- nothing that one of these actions wrote, one after another from S, is read by one of the later
-- actions, one after another from T
abbrev pub EachUnread : (s : System) → s.State → List s.Action → s.State → List s.Action → Type 0
EachUnread s S [] T later = Unit {0}
EachUnread s S (x ∷ xs) T later = NoneReads s (s.writes S x) T later × EachUnread s (s.act S x) xs T later

-- No later batch reads what a batch wrote just where no action in a later batch reads what an
-- action of the batch wrote. So a batch is blocked where one of its actions would be, by an action
-- outside of it, and else not.
pub record BlocksByActions (s : System) (u : Union s) : Type 0 where
  pub free : (S T : s.State) (xs : List s.Action) (later : List (List s.Action))
      → EachUnread s S xs T (flat later) → NoneReads (batched s u) (all_writes s u S xs) T later
  pub each : (S T : s.State) (xs : List s.Action) (later : List (List s.Action))
      → NoneReads (batched s u) (all_writes s u S xs) T later → EachUnread s S xs T (flat later)
