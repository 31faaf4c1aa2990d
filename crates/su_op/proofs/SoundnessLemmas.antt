-- Edits write the kind of an inode together with all its cells, or where nothing stands; and they write blocks of a file,
-- or of an inode that they write whole.
use Rattle.std.proofs.Common.{◌≡◌, ℕ, ◌+◌, Bool, true, false, ◌⊎◌, inl, inr, ⊎_elim, List, [], ◌∷◌, length, refl, sym, ap, ◌∙◌}
use Rattle.std.proofs.lemmas.List.Folds.{list_any-append}
use Rattle.std.specs.List.{list_any}
use Rattle.std.specs.Option.{is_none}
use Rattle.std.specs.FinMap.{get}
use Rattle.std.proofs.lemmas.Bool.{or_left, or_right, and_parts, or_cases, both_ways}
use Rattle.su_bytes.specs.Membership.{Membership}
use Rattle.su_bytes.specs.declared.file_ids.Kind.TheVariants.{File}
use Rattle.su_bytes.specs.Place.{Place, place_eq}
use Rattle.su_table.specs.Tree.{Tree}
use Rattle.su_table.specs.Query.{is_file_kind, is_file_at}
use Rattle.su_node.specs.Field.{Field, Field.KindOf, Field.BlockOf, field_value}
use Rattle.su_table.specs.Cell.{Cell, Cell.At, val}
use Rattle.su_node.specs.InodeChange.{InodeChange, InodeChange.Made, InodeChange.Named, InodeChange.Linked, InodeChange.Written, InodeChange.Resized, InodeChange.Copied, InodeChange.Gone}
use Rattle.su_table.specs.Edit.{Edit, Edit.Inodes, Edit.Pointers, edit}
use Rattle.su_op.specs.declared.areas.Part.TheVariants.{Whole as WholePart}
use Rattle.su_op.specs.Area.{in_part, in_area, has}
use Rattle.su_op.specs.Footprint.{parts, edit_areas, edits_areas}
use Rattle.su_op.specs.Operation.{rule_of, why, writes}
use Rattle.su_op.specs.Rule.{plan_of}
use Rattle.su_op.specs.Soundness.{IsA, Sound, WholeOrNew, KindOrFile}
use Rattle.su_op.specs.Action.{Action}
use Rattle.su_op.proofs.KeyLemmas.{place_eq-same}
use Rattle.su_op.proofs.EditLemmas.{CanEdit, CanEdits, has_parts, written_kind, resized_kind, edit_leaves}
use Rattle.su_op.proofs.StoreLemmas.{can_of_action, new_of_action}
use Rattle.std.proofs.Common.{map, nat_le, nat_eq, ◌++◌}
use Rattle.std.specs.Bool.{if◌then◌else◌}
use Rattle.std.specs.List.{All, AllByRecursion}
use Rattle.std.proofs.lemmas.List.Elements.{All-from_recursion}
use Rattle.su_op.specs.declared.areas.Area.{Area}
use Rattle.su_op.specs.declared.areas.Area.TheVariants.{Inode as InodeArea}
use Rattle.su_op.specs.Footprint.{overwritten_parts, grown_parts, other_size_parts}
use Rattle.su_op.specs.Soundness.{KindIsNew}
use Rattle.su_op.proofs.EditLemmas.{MakesNew}

-- ---- one edit

whole_written : (q p : Place) (f g : Field) → has (edit_areas (Inodes q Gone)) (At p f) ≡ true → has (edit_areas (Inodes q Gone)) (At p g) ≡ true
whole_written q p f g e = has_parts q p g (WholePart ∷ []) ∙ sym (has_parts q p f (WholePart ∷ [])) ∙ e

-- the change writes that cell at its own place
at_place : (q p : Place) (ch : InodeChange) (f : Field) → has (edit_areas (Inodes q ch)) (At p f) ≡ true → (place_eq p q ≡ true) × (list_any (λ a. in_part a f) (parts ch) ≡ true)
at_place q p ch f e = and_parts (place_eq p q) (list_any (λ a. in_part a f) (parts ch)) (sym (has_parts q p f (parts ch)) ∙ e)

unkind : {P : Type 0} (q p : Place) (ch : InodeChange) → list_any (λ a. in_part a KindOf) (parts ch) ≡ false → has (edit_areas (Inodes q ch)) (At p KindOf) ≡ true → P
unkind q p ch none e = absurd (both_ways (list_any (λ a. in_part a KindOf) (parts ch)) none (at_place q p ch KindOf e).1)

edit_kind : (T : Tree) (e : Edit) (p : Place) → CanEdit T e → has (edit_areas e) (At p KindOf) ≡ true → WholeOrNew T p (has (edit_areas e))
unfolding val
edit_kind T (Inodes q (Made h k)) p can wrote = inl (ap (λ r. field_value (get T.inodes r) KindOf) (place_eq-same p q (at_place q p (Made h k) KindOf wrote).0) ∙ can.0)
edit_kind T (Inodes q (Copied i)) p can wrote = inr (λ f. whole_written q p KindOf f wrote)
edit_kind T (Inodes q Gone) p can wrote = inr (λ f. whole_written q p KindOf f wrote)
edit_kind T (Inodes q (Named x v)) p can wrote = unkind q p (Named x v) refl wrote
edit_kind T (Inodes q (Linked n)) p can wrote = unkind q p (Linked n) refl wrote
edit_kind T (Inodes q (Written s off xs)) p can wrote = unkind q p (Written s off xs) (written_kind _ s off (off + length xs)) wrote
edit_kind T (Inodes q (Resized s t)) p can wrote = unkind q p (Resized s t) (resized_kind _ s t) wrote
edit_kind T (Pointers g v) p can wrote = absurd cc

file_there : (T : Tree) (q p : Place) → place_eq p q ≡ true → IsA File (get T.inodes q) → is_file_at T p ≡ true
unfolding val
file_there T q p is (h, e) = ap (λ r. is_file_kind (field_value (get T.inodes r) KindOf)) (place_eq-same p q is) ∙ ap is_file_kind e

unblock : {P : Type 0} (q p : Place) (ch : InodeChange) (n : ℕ) → list_any (λ a. in_part a (BlockOf n)) (parts ch) ≡ false → has (edit_areas (Inodes q ch)) (At p (BlockOf n)) ≡ true → P
unblock q p ch n none e = absurd (both_ways (list_any (λ a. in_part a (BlockOf n)) (parts ch)) none (at_place q p ch (BlockOf n) e).1)

edit_block : (T : Tree) (e : Edit) (p : Place) (n : ℕ) → CanEdit T e → has (edit_areas e) (At p (BlockOf n)) ≡ true → KindOrFile T p (has (edit_areas e))
edit_block T (Inodes q (Made h k)) p n can wrote = unblock q p (Made h k) n refl wrote
edit_block T (Inodes q (Copied i)) p n can wrote = inl (whole_written q p (BlockOf n) KindOf wrote)
edit_block T (Inodes q Gone) p n can wrote = inl (whole_written q p (BlockOf n) KindOf wrote)
edit_block T (Inodes q (Named x v)) p n can wrote = unblock q p (Named x v) n refl wrote
edit_block T (Inodes q (Linked m)) p n can wrote = unblock q p (Linked m) n refl wrote
edit_block T (Inodes q (Written s off xs)) p n can wrote = inr (file_there T q p (at_place q p (Written s off xs) (BlockOf n) wrote).0 can.0.0)
edit_block T (Inodes q (Resized s t)) p n can wrote = inr (file_there T q p (at_place q p (Resized s t) (BlockOf n) wrote).0 can.0.0)
edit_block T (Pointers g v) p n can wrote = absurd cc

-- ---- a list of edits

has_first : (e : Edit) (es : List Edit) (c : Cell) → has (edit_areas e) c ≡ true → has (edits_areas (e ∷ es)) c ≡ true
has_first e es c is = list_any-append (λ a. in_area a c) (edit_areas e) (edits_areas es) ∙ or_left (has (edit_areas e) c) (has (edits_areas es) c) is

has_later : (e : Edit) (es : List Edit) (c : Cell) → has (edits_areas es) c ≡ true → has (edits_areas (e ∷ es)) c ≡ true
has_later e es c is = list_any-append (λ a. in_area a c) (edit_areas e) (edits_areas es) ∙ or_right (has (edit_areas e) c) (has (edits_areas es) c) is

has_either : (e : Edit) (es : List Edit) (c : Cell) → has (edits_areas (e ∷ es)) c ≡ true → (has (edit_areas e) c ≡ true) ⊎ (has (edits_areas es) c ≡ true)
has_either e es c is = or_cases (has (edit_areas e) c) (has (edits_areas es) c) (sym (list_any-append (λ a. in_area a c) (edit_areas e) (edits_areas es)) ∙ is)

pub edits_kind : (T : Tree) (es : List Edit) (p : Place) → CanEdits T es → has (edits_areas es) (At p KindOf) ≡ true → WholeOrNew T p (has (edits_areas es))
edits_kind T [] p can wrote = absurd cc
edits_kind T (e ∷ es) p (can, more) wrote = go (has (edit_areas e) (At p KindOf)) refl (edits_kind (edit T e) es p more)
  where
    here : WholeOrNew T p (has (edit_areas e)) → WholeOrNew T p (has (edits_areas (e ∷ es)))
    here (inl new) = inl new
    here (inr whole) = inr (λ f. has_first e es (At p f) (whole f))

    later : has (edit_areas e) (At p KindOf) ≡ false → WholeOrNew (edit T e) p (has (edits_areas es)) → WholeOrNew T p (has (edits_areas (e ∷ es)))
    later out (inl new) = inl (sym (edit_leaves T e (At p KindOf) can out) ∙ new)
    later out (inr whole) = inr (λ f. has_later e es (At p f) (whole f))

    go : (b : Bool) → has (edit_areas e) (At p KindOf) ≡ b → (has (edits_areas es) (At p KindOf) ≡ true → WholeOrNew (edit T e) p (has (edits_areas es))) → WholeOrNew T p (has (edits_areas (e ∷ es)))
    go true is rest = here (edit_kind T e p can is)
    go false is rest = later is (rest (⊎_elim (λ i. absurd (both_ways (has (edit_areas e) (At p KindOf)) is i)) (λ i. i) (has_either e es (At p KindOf) wrote)))

pub edits_block : (T : Tree) (es : List Edit) (p : Place) (n : ℕ) → CanEdits T es → has (edits_areas es) (At p (BlockOf n)) ≡ true → KindOrFile T p (has (edits_areas es))
edits_block T [] p n can wrote = absurd cc
edits_block T (e ∷ es) p n (can, more) wrote = go (has (edit_areas e) (At p KindOf)) refl (edits_block (edit T e) es p n more) (has_either e es (At p (BlockOf n)) wrote)
  where
    here : KindOrFile T p (has (edit_areas e)) → KindOrFile T p (has (edits_areas (e ∷ es)))
    here (inl kind) = inl (has_first e es (At p KindOf) kind)
    here (inr file) = inr file

    later : has (edit_areas e) (At p KindOf) ≡ false → KindOrFile (edit T e) p (has (edits_areas es)) → KindOrFile T p (has (edits_areas (e ∷ es)))
    later out (inl kind) = inl (has_later e es (At p KindOf) kind)
    later out (inr file) = inr (ap is_file_kind (sym (edit_leaves T e (At p KindOf) can out)) ∙ file)

    go : (b : Bool) → has (edit_areas e) (At p KindOf) ≡ b → (has (edits_areas es) (At p (BlockOf n)) ≡ true → KindOrFile (edit T e) p (has (edits_areas es)))
        → (has (edit_areas e) (At p (BlockOf n)) ≡ true) ⊎ (has (edits_areas es) (At p (BlockOf n)) ≡ true) → KindOrFile T p (has (edits_areas (e ∷ es)))
    go true is rest where_ = inl (has_first e es (At p KindOf) is)
    go false is rest (inl first) = here (edit_block T e p n can first)
    go false is rest (inr other) = later is (rest other)

-- ---- kinds alone

written_new : (T : Tree) (p : Place) (b : Bool) (s off end : ℕ) (w : List Area) → AllByRecursion (KindIsNew T) w → AllByRecursion (KindIsNew T) (map (InodeArea p) (if b then overwritten_parts off end else grown_parts s off end) ++ w)
written_new T p true s off end w rest = (tt, rest)
written_new T p false s off end w rest = (tt, (tt, rest))

resized_new : (T : Tree) (p : Place) (b : Bool) (s t : ℕ) (w : List Area) → AllByRecursion (KindIsNew T) w → AllByRecursion (KindIsNew T) (map (InodeArea p) (if b then [] else other_size_parts s t) ++ w)
resized_new T p true s t w rest = rest
resized_new T p false s t w rest = (tt, (tt, rest))

-- who makes only what is new writes a kind alone only where nothing stands
edits_new : (T : Tree) (es : List Edit) → MakesNew T es → AllByRecursion (KindIsNew T) (edits_areas es)
edits_new T [] new = tt
edits_new T (Inodes p (Made h k) ∷ es) (free, new) = (free, (tt, (tt, edits_new T es new)))
edits_new T (Inodes p (Named x v) ∷ es) new = (tt, edits_new T es new)
edits_new T (Inodes p (Linked n) ∷ es) new = (tt, edits_new T es new)
edits_new T (Inodes p (Written s off xs) ∷ es) new = written_new T p (nat_le (off + length xs) s) s off (off + length xs) (edits_areas es) (edits_new T es new)
edits_new T (Inodes p (Resized s t) ∷ es) new = resized_new T p (nat_eq s t) s t (edits_areas es) (edits_new T es new)
edits_new T (Inodes p (Copied i) ∷ es) new = (tt, edits_new T es new)
edits_new T (Inodes p Gone ∷ es) new = (tt, edits_new T es new)
edits_new T (Pointers g v ∷ es) new = (tt, edits_new T es new)

-- ---- operations

-- an accepted operation that writes the kind of an inode writes all of it, or nothing stood there
pub kind_written : (ro : Membership) (T : Tree) (x : Action) (p : Place) → Sound T → is_none (why ro T x) ≡ true → has (writes ro T x) (At p KindOf) ≡ true → WholeOrNew T p (has (writes ro T x))
unfolding writes
kind_written ro T x p sound ok wrote = edits_kind T (plan_of (rule_of ro T x)).edits p (can_of_action ro T x sound ok) wrote

-- an accepted operation that writes a block writes the kind too, or a file stands there
pub block_written : (ro : Membership) (T : Tree) (x : Action) (p : Place) (n : ℕ) → Sound T → is_none (why ro T x) ≡ true → has (writes ro T x) (At p (BlockOf n)) ≡ true → KindOrFile T p (has (writes ro T x))
unfolding writes
block_written ro T x p n sound ok wrote = edits_block T (plan_of (rule_of ro T x)).edits p n (can_of_action ro T x sound ok) wrote

-- an accepted operation writes a kind alone only where nothing stands
pub kinds_new : (ro : Membership) (T : Tree) (x : Action) → is_none (why ro T x) ≡ true → All (KindIsNew T) (writes ro T x)
unfolding writes
kinds_new ro T x ok =
    let es : List Edit = (plan_of (rule_of ro T x)).edits in
    All-from_recursion (KindIsNew T) (edits_areas es) (edits_new T es (new_of_action ro T x ok))
