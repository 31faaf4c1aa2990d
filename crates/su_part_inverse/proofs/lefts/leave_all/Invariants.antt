use Rattle.std.proofs.Common.{◌≡◌, ◌⊎◌, ℕ, List, take}
use Rattle.su_part_inverse.specs.Lefts.{IsItemOfOne}
use Rattle.su_part_inverse.proofs.lefts.leave_all.Given as goal

-- those before this one are left
abbrev pub invariant-loop-run : goal.invariant-loop-run
invariant-loop-run g l = record {
  value : l.all.items ≡ take l.run-index l.kept;
  more : (i : List ℕ) → g.S.BlockSource.may_give l.source i → g.S.BlockSource.may_give l.fn.source i ⊎ IsItemOfOne l.kept i;
  follows : g.S.BlockSource.follows l.fn.source l.source;
}
