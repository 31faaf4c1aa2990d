-- Numbers that are known to be taken, where cells change.
use Rattle.std.specs.Prelude.{◌≡◌, ◌≢◌, ◌||◌, ◌&&◌, ℕ, Bool, true, false, List, [], ◌∷◌, ◌++◌, Option, Some, None, IfSome, slice_get}
use Rattle.std.proofs.Common.{◌∙◌, ap, refl}
use Rattle.su_bytes.specs.declared.file_ids.FileId.TheVariants.{Group}
use Rattle.su_bytes.specs.Place.{Place, place_eq}
use Rattle.su_node.specs.Field.{Field.KindOf}
use Rattle.su_table.specs.Cell.{Cell, Cell.At, Cell.Pointer}
use Rattle.su_table.specs.Query.{is_free_at, is_nothing, is_pointer_free}
use Rattle.su_table.specs.Tree.{Tree}
use Rattle.su_op.specs.Area.{has, in_area, in_part}
use Rattle.su_op.specs.declared.areas.Area.{Area}
use Rattle.su_op.specs.declared.areas.Area.TheVariants.{Inode as InodeArea, Pointer as PointerArea}
use Rattle.su_op.specs.declared.areas.Part.{Part}
use Rattle.su_op.proofs.Public.{has_joined, place_eq-same}
use Rattle.su_fronts.specs.Front.{AreFronts}
use Rattle.su_fronts.specs.declared.fronts.Fronts.{Fronts}
use Rattle.su_stored_forest.specs.Fronts.{AreAllFronts, IsNoFreerBeside}
use Rattle.su_stored_forest.specs.Freed.{AgreeBeside, free_or_in, unled_or_in}

-- fewer numbers are free
pub fronts_weaker : (free now : ℕ → Bool) (f : Fronts) → ((k : ℕ) → free k ≡ false → now k ≡ false) → AreFronts free f → AreFronts now f
fronts_weaker free now f fewer are = record { within = are.within; taken = λ b k from to. fewer k (are.taken b k from to) }

some_weaker : (free now : ℕ → Bool) (o : Option Fronts) → ((k : ℕ) → free k ≡ false → now k ≡ false) → IfSome o (AreFronts free) → IfSome o (AreFronts now)
some_weaker free now None fewer are = tt
some_weaker free now (Some f) fewer are = fronts_weaker free now f fewer are

pub all_weaker : (free now : ℕ → ℕ → Bool) (fs : List Fronts) → ((u k : ℕ) → free u k ≡ false → now u k ≡ false) → AreAllFronts free fs → AreAllFronts now fs
all_weaker free now fs fewer are u = some_weaker (free u) (now u) (slice_get fs u) (fewer u) (are u)

both_false : (a b : Bool) → (a || b) ≡ false → (a ≡ false) × (b ≡ false)
both_false true b e = absurd cc
both_false false b e = (refl, e)

or_false : (a b : Bool) → a ≡ false → b ≡ false → (a || b) ≡ false
or_false a b e f = ap (λ x. x || b) e ∙ f

other_place : (q p : Place) → q ≢ p → place_eq q p ≡ false
other_place q p other = go (place_eq q p) refl
  where
    go : (b : Bool) → place_eq q p ≡ b → b ≡ false
    go true e = absurd (other (place_eq-same q p e))
    go false e = refl

with_one : (w : List Area) (a : Area) (c : Cell) → has w c ≡ false → in_area a c ≡ false → has (w ++ a ∷ []) c ≡ false
with_one w a c e f = has_joined w (a ∷ []) c ∙ or_false (has w c) (in_area a c || false) e (or_false (in_area a c) false f refl)

-- of an area of an inode, the number where that stands may be free
pub inode_freed : (T : Tree) (w : List Area) (p : Place) (a : Part) → IsNoFreerBeside p (free_or_in w T) (free_or_in (w ++ InodeArea p a ∷ []) T)
inode_freed T w p a u k other free =
    let s = both_false (is_free_at T (u, k)) (has w (At (u, k) KindOf)) free in
    or_false (is_free_at T (u, k)) _ s.0 (with_one w (InodeArea p a) (At (u, k) KindOf) s.1 (ap (λ b. b && in_part a KindOf) (other_place (u, k) p other)))

-- no pointer is in it
pub inode_leads : (T : Tree) (w : List Area) (p : Place) (a : Part) (k n : ℕ) → unled_or_in w T k n ≡ false → unled_or_in (w ++ InodeArea p a ∷ []) T k n ≡ false
inode_leads T w p a k n free =
    let s = both_false (is_pointer_free T (Group k n)) (has w (Pointer (k, n))) free in
    or_false (is_pointer_free T (Group k n)) _ s.0 (with_one w (InodeArea p a) (Pointer (k, n)) s.1 refl)

-- no kind is in an area that has none
pub part_stays : (T : Tree) (w : List Area) (p : Place) (a : Part) → in_part a KindOf ≡ false → (u k : ℕ) → free_or_in w T u k ≡ false → free_or_in (w ++ InodeArea p a ∷ []) T u k ≡ false
part_stays T w p a none u k free =
    let s = both_false (is_free_at T (u, k)) (has w (At (u, k) KindOf)) free in
    or_false (is_free_at T (u, k)) _ s.0 (with_one w (InodeArea p a) (At (u, k) KindOf) s.1 (go (place_eq (u, k) p)))
  where
    go : (b : Bool) → (b && in_part a KindOf) ≡ false
    go true = none
    go false = refl

-- of a pointer, its own number may be free
pub pointer_freed : (T : Tree) (w : List Area) (p : Place) → IsNoFreerBeside p (unled_or_in w T) (unled_or_in (w ++ PointerArea p ∷ []) T)
pointer_freed T w p k n other free =
    let s = both_false (is_pointer_free T (Group k n)) (has w (Pointer (k, n))) free in
    or_false (is_pointer_free T (Group k n)) _ s.0 (with_one w (PointerArea p) (Pointer (k, n)) s.1 (other_place (k, n) p other))

-- no kind is in it
pub pointer_stays : (T : Tree) (w : List Area) (p : Place) (u k : ℕ) → free_or_in w T u k ≡ false → free_or_in (w ++ PointerArea p ∷ []) T u k ≡ false
pointer_stays T w p u k free =
    let s = both_false (is_free_at T (u, k)) (has w (At (u, k) KindOf)) free in
    or_false (is_free_at T (u, k)) _ s.0 (with_one w (PointerArea p) (At (u, k) KindOf) s.1 refl)

-- what is taken in T, and in none of the areas, is taken in a tree that agrees beside them
pub users_agree : (T V : Tree) (w : List Area) → AgreeBeside w T V → (u k : ℕ) → free_or_in w T u k ≡ false → is_free_at V (u, k) ≡ false
users_agree T V w agree u k free =
    let s = both_false (is_free_at T (u, k)) (has w (At (u, k) KindOf)) free in
    ap is_nothing (agree (At (u, k) KindOf) s.1) ∙ s.0

pub groups_agree : (T V : Tree) (w : List Area) → AgreeBeside w T V → (k n : ℕ) → unled_or_in w T k n ≡ false → is_pointer_free V (Group k n) ≡ false
groups_agree T V w agree k n free =
    let s = both_false (is_pointer_free T (Group k n)) (has w (Pointer (k, n))) free in
    ap is_nothing (agree (Pointer (k, n)) s.1) ∙ s.0

-- at first no area is left out
pub users_first : (T : Tree) (u k : ℕ) → is_free_at T (u, k) ≡ false → free_or_in [] T u k ≡ false
users_first T u k free = or_false (is_free_at T (u, k)) false free refl

pub groups_first : (T : Tree) (k n : ℕ) → is_pointer_free T (Group k n) ≡ false → unled_or_in [] T k n ≡ false
groups_first T k n free = or_false (is_pointer_free T (Group k n)) false free refl
