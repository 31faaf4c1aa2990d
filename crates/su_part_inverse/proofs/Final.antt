-- The steps of an undo lead to the tree that has the kept values in its areas.
use Rattle.std.proofs.Common.{◌≡◌, ◌∙◌, ◌⊎◌, inl, inr, Bool, true, false, ◌||◌, ◌&&◌, List, [], ◌∷◌, ◌++◌, map, Option, Some, None, refl, sym, ap, arith}
use Rattle.std.specs.List.{AllByRecursion}
use Rattle.std.specs.FinMap.{get}
use Rattle.su_bytes.specs.Place.{Place, place_eq}
use Rattle.su_node.specs.Inode.{Inode}
use Rattle.su_node.specs.Field.{Field.KindOf, Field.SizeOf, Value.Nothing}
use Rattle.su_table.specs.Tree.{Tree}
use Rattle.su_table.specs.Cell.{Cell.At, val}
use Rattle.su_table.specs.Edit.{edit}
use Rattle.su_op.specs.Area.{has}
use Rattle.su_op.specs.declared.areas.Area.{Area}
use Rattle.su_inverse.specs.Kept.{blocks_area, reset_area, return_area as plain_area, size_area, return_edit, HoldsReturn as HoldsPlain}
use Rattle.su_inverse.specs.Remaining.{left, AgreeOutside, HoldsAll, widened}
use Rattle.su_inverse.specs.declared.inverses.Inverse.{Inverse as PlainInverse}
use Rattle.su_inverse.specs.declared.returns.Return.{Return as PlainReturn}
use Rattle.su_inverse.proofs.AreaListLemmas.{has-append, has-widened}
use Rattle.su_inverse.proofs.MixedLemmas.{all_back}
use Rattle.su_inverse.proofs.SizeLemmas.{first_roomy, kind_left}
use Rattle.su_undone.specs.Undone.{brought_back, cut, grown, reset, written}
use Rattle.su_undone.proofs.UndoneLemmas.{brought_left, cut_left, grown_left, reset_left, written_left}
use Rattle.su_part.specs.Item.{MeantInode}
use Rattle.su_part.specs.Part.{MeantAt, StandsInode, StandsJust}
use Rattle.su_part_inverse.specs.Kept.{inode_area, return_area, inverse_areas, runs, runs_of, HoldsInode, HoldsReturn, IsKeptOf, IsPutBack}
use Rattle.su_part_inverse.specs.Steps.{or_new, plain_inode, plain_return, restored}
use Rattle.su_part_inverse.specs.declared.inverses.Inverse.{Inverse}
use Rattle.su_part_inverse.specs.declared.returns.KeptInode.{KeptInode}
use Rattle.su_part_inverse.specs.declared.returns.Return.{Return}
use Rattle.su_part_inverse.specs.declared.returns.Return.TheVariants.{Name as NameReturn, Pointer as PointerReturn}

-- the inverse without what it brings back
abbrev pub rest : Inverse → PlainInverse
rest i = record {
  returns = record { ptr = i.returns.ptr; len = 0; cap = i.returns.cap; alloc = i.returns.alloc; items = []; ok = (refl, omega arith); small = i.returns.small };
  sizes = i.sizes;
  resets = i.resets;
  blocks = runs_of i.left i.blocks;
}

-- their areas
abbrev pub others : Inverse → List Area
others i = map size_area i.sizes.items ++ (map reset_area i.resets.items ++ map blocks_area (runs i))

-- what it brings back, as it is of plain trees
abbrev plains : Tree → List KeptInode → List Return → List PlainReturn
plains T ks rs = map (plain_inode T) ks ++ map plain_return rs

-- an inode that is held stands there
pub inode_held : (T : Tree) (k : KeptInode) → HoldsInode T k → get T.inodes k.place ≡ Some (or_new (get T.inodes k.place))
inode_held T k held = go (get T.inodes k.place) held.stands
  where
    go : (o : Option Inode) → StandsJust (Some k.inode) o → o ≡ Some (or_new o)
    go None s = absurd s
    go (Some i) s = refl

-- what is kept stands for it, and it is meant
pub held_parts : (T : Tree) (k : KeptInode) → HoldsInode T k → StandsInode k.inode (or_new (get T.inodes k.place)) × MeantInode (or_new (get T.inodes k.place))
held_parts T k held = go (get T.inodes k.place) held.stands held.meant
  where
    go : (o : Option Inode) → StandsJust (Some k.inode) o → MeantAt o → StandsInode k.inode (or_new o) × MeantInode (or_new o)
    go None s m = absurd s
    go (Some i) s m = (s, m)

return_held : (T : Tree) (r : Return) → HoldsReturn T r → HoldsPlain T (plain_return r)
return_held T (NameReturn p x f) held = held
return_held T (PointerReturn g p) held = held

plains_held : (T : Tree) (ks : List KeptInode) (rs : List Return) → AllByRecursion (HoldsInode T) ks → AllByRecursion (HoldsReturn T) rs → AllByRecursion (HoldsPlain T) (plains T ks rs)
plains_held T [] [] inodes returns = tt
plains_held T [] (r ∷ rs) inodes (first, more) = (return_held T r first, plains_held T [] rs inodes more)
plains_held T (k ∷ ks) rs (first, more) returns = (inode_held T k first, plains_held T ks rs more returns)

return_place : (r : Return) → plain_area (plain_return r) ≡ return_area r
return_place (NameReturn p x f) = refl
return_place (PointerReturn g p) = refl

same_areas : (T : Tree) (ks : List KeptInode) (rs : List Return) (w : List Area) → map plain_area (plains T ks rs) ++ w ≡ map inode_area ks ++ (map return_area rs ++ w)
same_areas T [] [] w = refl
same_areas T [] (r ∷ rs) w = ap (λ a. a ∷ (map plain_area (plains T [] rs) ++ w)) (return_place r) ∙ ap (λ v. return_area r ∷ v) (same_areas T [] rs w)
same_areas T (k ∷ ks) rs w = ap (λ v. inode_area k ∷ v) (same_areas T ks rs w)

brought_joined : (a b : List PlainReturn) (F : Tree) → brought_back (a ++ b) F ≡ brought_back b (brought_back a F)
brought_joined [] b F = refl
brought_joined (r ∷ a) b F = brought_joined a b (edit F (return_edit r))

pub rest_held : (i : Inverse) (T : Tree) → IsKeptOf i T → HoldsAll (rest i) T
rest_held i T kept = record { sizes = kept.sizes; resets = kept.resets; blocks = kept.blocks }

pub put_back_is : (i : Inverse) (F T : Tree) → IsPutBack i F T → restored T i.inodes.items i F ≡ T
put_back_is i F T put =
    let all = rest_held i T put.kept in
    let first = plains T i.inodes.items i.returns.items in
    let back = brought_left first (rest i) F T (plains_held T i.inodes.items i.returns.items put.kept.inodes put.kept.returns) at_first in
    let F1 = brought_back first F in
    let (agree, room) = grown_left i.sizes.items (rest i) F1 T all all.sizes back (first_roomy (rest i) F1 T all back) in
    let F2 = grown i.sizes.items F1 in
    let cut' = cut_left i.sizes.items (rest i) F2 T all all.sizes (agree, room) in
    let F3 = cut i.sizes.items F2 in
    let reset' = reset_left i.resets.items (runs i) F3 T all.resets cut' in
    ap (λ V. written (runs i) (reset i.resets.items (cut i.sizes.items (grown i.sizes.items V)))) (sym (brought_joined (map (plain_inode T) i.inodes.items) (map plain_return i.returns.items) F))
    ∙ all_back _ T (written_left (runs i) (reset i.resets.items F3) T all.blocks reset')
  where
    at_first : AgreeOutside (left (plains T i.inodes.items i.returns.items) (rest i)) F T
    at_first = record {
      each = λ c out. put.others c
          (ap (λ (w : List Area). has w c) (sym (same_areas T i.inodes.items i.returns.items (others i)))
          ∙ has-widened (map plain_area (plains T i.inodes.items i.returns.items) ++ others i) c out);
    }

-- ---- kinds among the areas

-- where the kind of a place is among them, an inode is brought back there, or T has nothing there
pub kind_among : (i : Inverse) (T : Tree) → IsKeptOf i T → (p : Place) → has (inverse_areas i) (At p KindOf) ≡ true → (has (map inode_area i.inodes.items) (At p SizeOf) ≡ true) ⊎ (val T (At p KindOf) ≡ Nothing)
kind_among i T kept p is =
    split (has (map inode_area i.inodes.items) (At p KindOf)) (has (map return_area i.returns.items ++ others i) (At p KindOf)) refl
    (sym (has-append (map inode_area i.inodes.items) (map return_area i.returns.items ++ others i) (At p KindOf)) ∙ is)
  where
    same_cells : (ks : List KeptInode) → has (map inode_area ks) (At p KindOf) ≡ has (map inode_area ks) (At p SizeOf)
    same_cells [] = refl
    same_cells (k ∷ ks) = ap (λ b. (place_eq p k.place && true) || b) (same_cells ks)

    no_return : (rs : List Return) (w : List Area) → has (map return_area rs ++ w) (At p KindOf) ≡ has w (At p KindOf)
    no_return [] w = refl
    no_return (r ∷ rs) w = one r ∙ no_return rs w
      where
        off : (b d : Bool) → ((b && false) || d) ≡ d
        off true d = refl
        off false d = refl

        one : (r : Return) → has (return_area r ∷ (map return_area rs ++ w)) (At p KindOf) ≡ has (map return_area rs ++ w) (At p KindOf)
        one (NameReturn q x f) = off (place_eq p q) (has (map return_area rs ++ w) (At p KindOf))
        one (PointerReturn g q) = refl

    wide : has (others i) (At p KindOf) ≡ true → has (map widened (others i)) (At p KindOf) ≡ true
    wide e = go (has (map widened (others i)) (At p KindOf)) refl
      where
        go : (b : Bool) → has (map widened (others i)) (At p KindOf) ≡ b → b ≡ true
        go true x = refl
        go false x = let z : false ≡ true = sym (has-widened (others i) (At p KindOf) x) ∙ e in z

    split : (a b : Bool) → has (map inode_area i.inodes.items) (At p KindOf) ≡ a → (has (map inode_area i.inodes.items) (At p KindOf) || has (map return_area i.returns.items ++ others i) (At p KindOf)) ≡ true
        → (has (map inode_area i.inodes.items) (At p SizeOf) ≡ true) ⊎ (val T (At p KindOf) ≡ Nothing)
    split true b e or = inl (sym (same_cells i.inodes.items) ∙ e)
    split false b e or = inr (kind_left T p i.sizes.items (rest i) (rest_held i T kept)
        (wide (sym (no_return i.returns.items (others i)) ∙ ap (λ x. x || has (map return_area i.returns.items ++ others i) (At p KindOf)) (sym e) ∙ or)))
