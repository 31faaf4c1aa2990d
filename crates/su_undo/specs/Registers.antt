-- The smallest system that shows what is meant: registers, of which one is copied into another.
use Rattle.std.specs.Prelude.{ℕ, Bool, not, cond, List, [], ◌∷◌, nat_eq}
use Rattle.std.specs.List.{list_any}
use Rattle.su_undo.specs.System.{System}

-- what one register holds is copied into another
pub record Copy : Type 0 where
  pub from : ℕ
  pub to : ℕ

-- one of these registers is r
abbrev pub has_register : List ℕ → ℕ → Bool
has_register rs r = list_any (nat_eq r) rs

-- Each register is a cell, and holds its own number at first. A copy is refused where the register
-- that is copied holds 0.
abbrev pub registers : System
registers = record {
  State = ℕ → ℕ;
  Cell = ℕ;
  Value = ℕ;
  Action = Copy;
  Areas = List ℕ;
  start = λ r. r;
  val = λ S r. S r;
  has = has_register;
  meet = λ rs others. list_any (has_register others) rs;
  Sound = λ S. Unit {0};
  ok = λ S c. not (nat_eq (S c.from) 0);
  act = λ S c r. cond (nat_eq r c.to) (S c.from) (S r);
  reads = λ S c. c.from ∷ c.to ∷ [];
  writes = λ S c. c.to ∷ [];
}
