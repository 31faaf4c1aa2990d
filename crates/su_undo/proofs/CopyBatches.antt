-- Batches of copies.
use Rattle.std.proofs.Common.{◌≡◌, ℕ, Bool, true, false, ◌||◌, List, [], ◌∷◌, ◌++◌, nat_eq, refl, ap, ◌∙◌}
use Rattle.su_undo.specs.System.{Lawful}
use Rattle.su_undo.specs.Replay.{UndoIsSafe}
use Rattle.su_undo.specs.Registers.{has_register, registers}
use Rattle.su_undo.proofs.Copies.{registers_lawful}
use Rattle.su_undo.specs.Union.{IsUnion}
use Rattle.su_undo.specs.Batch.{batched}
use Rattle.su_undo.specs.Flat.{ReplaysFlat, NothingReadInside}
use Rattle.su_undo.specs.RegisterBatches.{lists}
use Rattle.su_undo.specs.Blocking.{MeetsByParts, BlocksByActions}
use Rattle.su_undo.proofs.BlockingLemmas.{blocks_by_actions}
use Rattle.std.specs.List.{list_any}
use Rattle.su_undo.proofs.BatchLemmas.{batched_lawful, batches_safe, flat_alike, none_inside}

or_assoc : (a b c : Bool) → (a || (b || c)) ≡ ((a || b) || c)
or_assoc true b c = refl
or_assoc false b c = refl

either : (a b : List ℕ) (c : ℕ) → has_register (a ++ b) c ≡ (has_register a c || has_register b c)
either [] b c = refl
either (r ∷ a) b c = ap (λ x. nat_eq c r || x) (either a b c) ∙ or_assoc (nat_eq c r) (has_register a c) (has_register b c)

pub lists_union : IsUnion registers lists
lists_union = record { empty = λ c. refl; either = either }

pub copy_batches_lawful : Lawful (batched registers lists)
copy_batches_lawful = batched_lawful registers lists registers_lawful lists_union

pub copy_batches_safe : UndoIsSafe (batched registers lists)
copy_batches_safe = batches_safe registers lists registers_lawful lists_union

pub copy_batches_flat : ReplaysFlat registers lists
copy_batches_flat = flat_alike registers lists registers_lawful lists_union

pub copy_batches_inside : NothingReadInside registers lists
copy_batches_inside = none_inside registers lists registers_lawful lists_union

-- ---- what blocks them

any_none : (rs : List ℕ) → list_any (has_register []) rs ≡ false
any_none [] = refl
any_none (r ∷ rs) = any_none rs

any_first : (a b w : List ℕ) → list_any (has_register w) (a ++ b) ≡ (list_any (has_register w) a || list_any (has_register w) b)
any_first [] b w = refl
any_first (r ∷ a) b w = ap (λ x. has_register w r || x) (any_first a b w) ∙ or_assoc (has_register w r) (list_any (has_register w) a) (list_any (has_register w) b)

swapped : (a b c d : Bool) → ((a || b) || (c || d)) ≡ ((a || c) || (b || d))
swapped true b c d = refl
swapped false true true d = refl
swapped false true false d = refl
swapped false false c d = refl

any_second : (rs a b : List ℕ) → list_any (has_register (a ++ b)) rs ≡ (list_any (has_register a) rs || list_any (has_register b) rs)
any_second [] a b = refl
any_second (r ∷ rs) a b =
    ap (λ x. x || list_any (has_register (a ++ b)) rs) (either a b r)
    ∙ ap (λ x. (has_register a r || has_register b r) || x) (any_second rs a b)
    ∙ swapped (has_register a r) (has_register b r) (list_any (has_register a) rs) (list_any (has_register b) rs)

pub lists_meet : MeetsByParts registers lists
lists_meet = record { none = λ w. refl; first = any_first; no_other = any_none; second = any_second }

pub copy_batches_block : BlocksByActions registers lists
copy_batches_block = blocks_by_actions registers lists lists_meet
