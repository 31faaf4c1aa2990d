-- Lists of operations on a store, by any users.
use Rattle.std.proofs.Common.{◌≡◌, ℕ, Bool, true, false, ◌||◌, ◌&&◌, IsTrue, inl, inr, List, [], ◌∷◌, ◌++◌, refl, sym, ap, ◌∙◌}
use Rattle.su_bytes.specs.Membership.{Membership}
use Rattle.su_bytes.specs.Place.{Place}
use Rattle.su_node.specs.Field.{Field.KindOf, Field.BlockOf}
use Rattle.su_table.specs.Tree.{Tree}
use Rattle.su_table.specs.Cell.{Cell, Cell.At, val}
use Rattle.su_table.specs.Query.{is_file_kind, is_file_at}
use Rattle.su_op.specs.declared.areas.Area.{Area}
use Rattle.std.specs.List.{list_any}
use Rattle.su_op.specs.Area.{in_area, has, overlaps, meet}
use Rattle.su_op.specs.Action.{Action}
use Rattle.su_op.specs.Store.{store}
use Rattle.su_op.specs.Soundness.{Sound, WholeOrNew, KindOrFile}
use Rattle.su_op.proofs.StoreLemmas.{store_lawful}
use Rattle.su_op.proofs.SoundnessLemmas.{kind_written, block_written}
use Rattle.su_undo.specs.System.{Lawful}
use Rattle.su_undo.specs.Replay.{UndoIsSafe}
use Rattle.su_undo.specs.Union.{IsUnion}
use Rattle.su_undo.specs.Batch.{all_ok, all_writes}
use Rattle.su_undo.specs.Flat.{ReplaysFlat, NothingReadInside}
use Rattle.su_undo.specs.Blocking.{MeetsByParts, BlocksByActions}
use Rattle.su_undo.proofs.BlockingLemmas.{blocks_by_actions}
use Rattle.su_undo.proofs.BatchLemmas.{batched_lawful, batches_safe, flat_alike, none_inside}
use Rattle.su_op.specs.Batch.{areas, lists_store}

or_assoc : (a b c : Bool) → (a || (b || c)) ≡ ((a || b) || c)
or_assoc true b c = refl
or_assoc false b c = refl

pub has_joined : (a b : List Area) (c : Cell) → has (a ++ b) c ≡ (has a c || has b c)
has_joined [] b c = refl
has_joined (r ∷ a) b c = ap (λ x. in_area r c || x) (has_joined a b c) ∙ or_assoc (in_area r c) (has a c) (has b c)

pub areas_union : (ro : Membership) → IsUnion (store ro) (areas ro)
areas_union ro = record { empty = λ c. refl; either = has_joined }

pub lists_lawful : (ro : Membership) → Lawful (lists_store ro)
lists_lawful ro = batched_lawful (store ro) (areas ro) (store_lawful ro) (areas_union ro)

pub lists_taken_out : (ro : Membership) → UndoIsSafe (lists_store ro)
lists_taken_out ro = batches_safe (store ro) (areas ro) (store_lawful ro) (areas_union ro)

pub lists_flat : (ro : Membership) → ReplaysFlat (store ro) (areas ro)
lists_flat ro = flat_alike (store ro) (areas ro) (store_lawful ro) (areas_union ro)

pub lists_outside : (ro : Membership) → NothingReadInside (store ro) (areas ro)
lists_outside ro = none_inside (store ro) (areas ro) (store_lawful ro) (areas_union ro)

-- ---- kinds and blocks

both : (a b : Bool) → IsTrue (a && b) → IsTrue a × IsTrue b
both true b e = (refl, e)
both false b e = absurd (let bad : false ≡ true = e in cc)

or_this : (a b : Bool) → IsTrue a → IsTrue (a || b)
or_this a b e = ap (λ x. x || b) e

or_that : (a b : Bool) → IsTrue b → IsTrue (a || b)
or_that true b e = refl
or_that false b e = e

or_second : (a b : Bool) → IsTrue (a || b) → a ≡ false → IsTrue b
or_second true b e out = absurd (let bad : true ≡ false = out in cc)
or_second false b e out = e

-- one of two in turn
in_first : (u w : List Area) (c : Cell) → has u c ≡ true → has (u ++ w) c ≡ true
in_first u w c e = has_joined u w c ∙ or_this (has u c) (has w c) e

in_second : (u w : List Area) (c : Cell) → has w c ≡ true → has (u ++ w) c ≡ true
in_second u w c e = has_joined u w c ∙ or_that (has u c) (has w c) e

-- a file stands where one stood, if the kind is the same
file_before : (T T' : Tree) (p : Place) → val T' (At p KindOf) ≡ val T (At p KindOf) → is_file_at T' p ≡ true → is_file_at T p ≡ true
file_before T T' p same file = ap is_file_kind (sym same) ∙ file

module _ (ro : Membership) where
  -- an operation that doesn't write a kind leaves it
  kind_left : (T : Tree) (x : Action) (p : Place) → Sound T → IsTrue ((store ro).ok T x) → has ((store ro).writes T x) (At p KindOf) ≡ false → val ((store ro).act T x) (At p KindOf) ≡ val T (At p KindOf)
  kind_left T x p sound ok out = (store_lawful ro).leaves T x sound ok (At p KindOf) out

  pub list_kind : (T : Tree) (xs : List Action) (p : Place) → Sound T → all_ok (store ro) T xs ≡ true
      → has (all_writes (store ro) (areas ro) T xs) (At p KindOf) ≡ true → WholeOrNew T p (has (all_writes (store ro) (areas ro) T xs))
  list_kind T [] p sound ok wrote = absurd (let bad : false ≡ true = wrote in cc)
  list_kind T (x ∷ xs) p sound ok wrote =
      let e = both ((store ro).ok T x) (all_ok (store ro) ((store ro).act T x) xs) ok in
      go (list_kind ((store ro).act T x) xs p ((store_lawful ro).stays_sound T x sound e.0) e.1) e.0 (has ((store ro).writes T x) (At p KindOf)) refl
    where
      u : List Area
      u = (store ro).writes T x

      w : List Area
      w = all_writes (store ro) (areas ro) ((store ro).act T x) xs

      first : WholeOrNew T p (has u) → WholeOrNew T p (has (u ++ w))
      first (inl new) = inl new
      first (inr whole) = inr (λ f. in_first u w (At p f) (whole f))

      later : IsTrue ((store ro).ok T x) → has u (At p KindOf) ≡ false → WholeOrNew ((store ro).act T x) p (has w) → WholeOrNew T p (has (u ++ w))
      later ok out (inl new) = inl (sym (kind_left T x p sound ok out) ∙ new)
      later ok out (inr whole) = inr (λ f. in_second u w (At p f) (whole f))

      go : (has w (At p KindOf) ≡ true → WholeOrNew ((store ro).act T x) p (has w)) → IsTrue ((store ro).ok T x) → (b : Bool) → has u (At p KindOf) ≡ b → WholeOrNew T p (has (u ++ w))
      go rest ok true is = first (kind_written ro T x p sound ok is)
      go rest ok false is = later ok is (rest (or_second (has u (At p KindOf)) (has w (At p KindOf)) (sym (has_joined u w (At p KindOf)) ∙ wrote) is))

  pub list_block : (T : Tree) (xs : List Action) (p : Place) (n : ℕ) → Sound T → all_ok (store ro) T xs ≡ true
      → has (all_writes (store ro) (areas ro) T xs) (At p (BlockOf n)) ≡ true → KindOrFile T p (has (all_writes (store ro) (areas ro) T xs))
  list_block T [] p n sound ok wrote = absurd (let bad : false ≡ true = wrote in cc)
  list_block T (x ∷ xs) p n sound ok wrote =
      let e = both ((store ro).ok T x) (all_ok (store ro) ((store ro).act T x) xs) ok in
      go (list_block ((store ro).act T x) xs p n ((store_lawful ro).stays_sound T x sound e.0) e.1) e.0 (has ((store ro).writes T x) (At p (BlockOf n))) refl
    where
      u : List Area
      u = (store ro).writes T x

      w : List Area
      w = all_writes (store ro) (areas ro) ((store ro).act T x) xs

      first : KindOrFile T p (has u) → KindOrFile T p (has (u ++ w))
      first (inl kind) = inl (in_first u w (At p KindOf) kind)
      first (inr file) = inr file

      stood : IsTrue ((store ro).ok T x) → is_file_at ((store ro).act T x) p ≡ true → (b : Bool) → has u (At p KindOf) ≡ b → KindOrFile T p (has (u ++ w))
      stood ok file true is = inl (in_first u w (At p KindOf) is)
      stood ok file false is = inr (file_before T ((store ro).act T x) p (kind_left T x p sound ok is) file)

      later : IsTrue ((store ro).ok T x) → KindOrFile ((store ro).act T x) p (has w) → KindOrFile T p (has (u ++ w))
      later ok (inl kind) = inl (in_second u w (At p KindOf) kind)
      later ok (inr file) = stood ok file (has u (At p KindOf)) refl

      go : (has w (At p (BlockOf n)) ≡ true → KindOrFile ((store ro).act T x) p (has w)) → IsTrue ((store ro).ok T x) → (b : Bool) → has u (At p (BlockOf n)) ≡ b → KindOrFile T p (has (u ++ w))
      go rest ok true is = first (block_written ro T x p n sound ok is)
      go rest ok false is = later ok (rest (or_second (has u (At p (BlockOf n))) (has w (At p (BlockOf n))) (sym (has_joined u w (At p (BlockOf n))) ∙ wrote) is))

-- ---- what blocks them

meets_none : (w : List Area) → meet w [] ≡ false
meets_none [] = refl
meets_none (a ∷ w) = meets_none w

any_joined : (a : Area) (u w : List Area) → list_any (overlaps a) (u ++ w) ≡ (list_any (overlaps a) u || list_any (overlaps a) w)
any_joined a [] w = refl
any_joined a (b ∷ u) w = ap (λ x. overlaps a b || x) (any_joined a u w) ∙ or_assoc (overlaps a b) (list_any (overlaps a) u) (list_any (overlaps a) w)

meet_first : (a b w : List Area) → meet (a ++ b) w ≡ (meet a w || meet b w)
meet_first [] b w = refl
meet_first (r ∷ a) b w = ap (λ x. list_any (overlaps r) w || x) (meet_first a b w) ∙ or_assoc (list_any (overlaps r) w) (meet a w) (meet b w)

swapped : (a b c d : Bool) → ((a || b) || (c || d)) ≡ ((a || c) || (b || d))
swapped true b c d = refl
swapped false true true d = refl
swapped false true false d = refl
swapped false false c d = refl

meet_second : (w a b : List Area) → meet w (a ++ b) ≡ (meet w a || meet w b)
meet_second [] a b = refl
meet_second (r ∷ w) a b =
    ap (λ x. x || meet w (a ++ b)) (any_joined r a b)
    ∙ ap (λ x. (list_any (overlaps r) a || list_any (overlaps r) b) || x) (meet_second w a b)
    ∙ swapped (list_any (overlaps r) a) (list_any (overlaps r) b) (meet w a) (meet w b)

pub lists_block : (ro : Membership) → BlocksByActions (store ro) (areas ro)
lists_block ro =
    let meets : MeetsByParts (store ro) (areas ro) = record { none = λ w. refl; first = meet_first; no_other = meets_none; second = meet_second } in
    blocks_by_actions (store ro) (areas ro) meets
