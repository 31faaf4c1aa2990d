-- Batches: actions one after another, as one action.
use Rattle.std.specs.Prelude.{Bool, true, ◌&&◌, List, [], ◌∷◌}
use Rattle.su_undo.specs.System.{System}
use Rattle.su_undo.specs.Union.{Union}

-- each is accepted where it comes
abbrev pub all_ok : (s : System) → s.State → List s.Action → Bool
all_ok s S [] = true
all_ok s S (x ∷ xs) = s.ok S x && all_ok s (s.act S x) xs

-- the state behind them
abbrev pub all_acted : (s : System) → s.State → List s.Action → s.State
all_acted s S [] = S
all_acted s S (x ∷ xs) = all_acted s (s.act S x) xs

-- the cells that one of them reads, where it comes
abbrev pub all_reads : (s : System) → Union s → s.State → List s.Action → s.Areas
all_reads s u S [] = u.none
all_reads s u S (x ∷ xs) = u.join (s.reads S x) (all_reads s u (s.act S x) xs)

-- the cells that one of them writes, where it comes
abbrev pub all_writes : (s : System) → Union s → s.State → List s.Action → s.Areas
all_writes s u S [] = u.none
all_writes s u S (x ∷ xs) = u.join (s.writes S x) (all_writes s u (s.act S x) xs)

-- the system whose actions are batches of actions of s
abbrev pub batched : (s : System) → Union s → System
batched s u = record {
  State = s.State;
  Cell = s.Cell;
  Value = s.Value;
  Action = List s.Action;
  Areas = s.Areas;
  start = s.start;
  val = s.val;
  has = s.has;
  meet = s.meet;
  Sound = s.Sound;
  ok = all_ok s;
  act = all_acted s;
  reads = all_reads s u;
  writes = all_writes s u;
}
