-- Registers are a lawful system.
use Rattle.std.proofs.Common.{◌≡◌, ℕ, Bool, true, false, not, cond, ◌||◌, List, [], ◌∷◌, nat_eq, refl, sym, ap, ◌∙◌, arith}
use Rattle.std.specs.List.{list_any}
use Rattle.su_undo.specs.System.{LeavesOthers, IsLocal, Lawful}
use Rattle.su_undo.specs.Replay.{UndoIsSafe}
use Rattle.su_undo.specs.Registers.{has_register, registers}
use Rattle.su_undo.proofs.TakingOut.{undo_is_safe}

itself : (n : ℕ) → nat_eq n n ≡ true
itself n = grind arith

or_none : (a b : Bool) → (a || b) ≡ false → (a ≡ false) × (b ≡ false)
or_none true b e = absurd (let bad : true ≡ false = e in cc)
or_none false b e = (refl, e)

or_this : (a b : Bool) → a ≡ true → (a || b) ≡ true
or_this a b e = ap (λ x. x || b) e

or_that : (a b : Bool) → b ≡ true → (a || b) ≡ true
or_that true b e = refl
or_that false b e = e

alone : (a : Bool) → (a || false) ≡ a
alone true = refl
alone false = refl

leaves : LeavesOthers registers
leaves S x sound ok c out = ap (λ b. cond b (S x.from) (S c)) (or_none (nat_eq c x.to) false out).0

local : IsLocal registers
local S S' x sound sound' ok agree =
    let from : S' x.from ≡ S x.from = agree x.from (or_this (nat_eq x.from x.from) (has_register (x.to ∷ []) x.from) (itself x.from)) in
    record {
      ok = ap (λ n. not (nat_eq n 0)) from ∙ ok;
      reads = refl;
      writes = refl;
      values = λ c is.
          let here : nat_eq c x.to ≡ true = sym (alone (nat_eq c x.to)) ∙ is in
          ap (λ b. cond b (S' x.from) (S' c)) here ∙ from ∙ sym (ap (λ b. cond b (S x.from) (S c)) here);
    }

apart : (rs others : List ℕ) (c : ℕ) → list_any (has_register others) rs ≡ false → has_register rs c ≡ true → has_register others c ≡ false
apart [] others c none here = absurd (let bad : false ≡ true = here in cc)
apart (r ∷ rs) others c none here =
    let p = or_none (has_register others r) (list_any (has_register others) rs) none in
    go p.0 (nat_eq c r) refl here (apart rs others c p.1)
  where
    same : nat_eq c r ≡ true → c ≡ r
    same is = grind arith

    go : has_register others r ≡ false → (b : Bool) → nat_eq c r ≡ b → (b || has_register rs c) ≡ true → (has_register rs c ≡ true → has_register others c ≡ false) → has_register others c ≡ false
    go out true is here ih = ap (has_register others) (same is) ∙ out
    go out false is here ih = ih here

pub registers_lawful : Lawful registers
registers_lawful = record {
  leaves = leaves;
  alike = local;
  within = λ S x c sound ok wrote. or_that (nat_eq c x.from) (has_register (x.to ∷ []) c) wrote;
  stays_sound = λ S x sound ok. tt;
  start_sound = tt;
  apart = apart;
  same = λ S S' each i c. each c i;
}

pub copies_safe : UndoIsSafe registers
copies_safe = undo_is_safe registers registers_lawful
