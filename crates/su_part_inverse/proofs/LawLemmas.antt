-- What is kept of areas is also held by any tree that holds the same values in them; and it is put back after operations.
use Rattle.std.proofs.Common.{◌≡◌, ◌∙◌, true, List, ◌++◌, map, Some, None, refl, sym, ap, subst}
use Rattle.std.specs.FinMap.{get}
use Rattle.std.specs.Option.{is_none}
use Rattle.su_bytes.specs.Membership.{Membership}
use Rattle.su_node.specs.Field.{Field.NameOf}
use Rattle.su_table.specs.Tree.{Tree}
use Rattle.su_table.specs.Cell.{Cell, Cell.At, Cell.Pointer}
use Rattle.su_op.specs.Action.{Action}
use Rattle.su_op.specs.Area.{in_area, has}
use Rattle.su_op.specs.Batch.{areas}
use Rattle.su_op.specs.Operation.{why, effect, writes}
use Rattle.su_op.specs.Soundness.{Sound}
use Rattle.su_op.specs.Store.{store}
use Rattle.su_op.specs.declared.areas.Part.TheVariants.{Name as NamePart, Whole as WholePart}
use Rattle.su_op.proofs.Public.{place_eq-itself, name_eq-itself, inode_same, lists_lawful, store_lawful}
use Rattle.su_part.specs.Part.{MeantAt, StandsJust}
use Rattle.su_undo.specs.Batch.{all_ok, all_acted, all_writes}
use Rattle.su_inverse.specs.Kept.{size_area, reset_area, blocks_area, HoldsReset, HoldsSize, HoldsBlocks, HoldsSame}
use Rattle.su_inverse.proofs.KeptLemmas.{in_first, in_second, in_inode, each_again, field_again, size_again, reset_again, blocks_again}
use Rattle.su_inverse.proofs.WholeLemmas.{front_ok, front_out}
use Rattle.su_part_inverse.specs.Kept.{inode_area, return_area, inverse_areas, runs, HoldsInode, HoldsReturn, IsKeptOf, IsPutBack}
use Rattle.su_part_inverse.specs.declared.inverses.Inverse.{Inverse}
use Rattle.su_part_inverse.specs.declared.returns.KeptInode.{KeptInode}
use Rattle.su_part_inverse.specs.declared.returns.Return.{Return}
use Rattle.su_part_inverse.specs.declared.returns.Return.TheVariants.{Name as NameReturn, Pointer as PointerReturn}

inode_again : (S T : Tree) (k : KeptInode) → HoldsSame (in_area (inode_area k)) S T → HoldsInode S k → HoldsInode T k
inode_again S T k same held =
    let is = sym (inode_same (get T.inodes k.place) (get S.inodes k.place) (λ f. field_again S T k.place WholePart f refl same)) in
    record { stands = subst (StandsJust (Some k.inode)) is held.stands; meant = subst MeantAt is held.meant }

return_again : (S T : Tree) (r : Return) → HoldsSame (in_area (return_area r)) S T → HoldsReturn S r → HoldsReturn T r
return_again S T (NameReturn p x f) same held = same.cells (At p (NameOf x)) (in_inode p (NamePart x) (NameOf x) (name_eq-itself x)) ∙ held
return_again S T (PointerReturn g p) same held = same.cells (Pointer g) (place_eq-itself g) ∙ held

pub kept_again : (i : Inverse) (S T : Tree) → HoldsSame (has (inverse_areas i)) S T → IsKeptOf i S → IsKeptOf i T
kept_again i S T same held =
    let ns = map inode_area i.inodes.items in
    let rs = map return_area i.returns.items in
    let zs = map size_area i.sizes.items in
    let es = map reset_area i.resets.items in
    let bs = map blocks_area (runs i) in
    let behind = in_second ns (rs ++ (zs ++ (es ++ bs))) S T same in
    let later = in_second rs (zs ++ (es ++ bs)) S T behind in
    let last = in_second zs (es ++ bs) S T later in
    record {
      inodes = each_again inode_area HoldsInode S T (inode_again S T) i.inodes.items (in_first ns (rs ++ (zs ++ (es ++ bs))) S T same) held.inodes;
      returns = each_again return_area HoldsReturn S T (return_again S T) i.returns.items (in_first rs (zs ++ (es ++ bs)) S T behind) held.returns;
      sizes = each_again size_area HoldsSize S T (size_again S T) i.sizes.items (in_first zs (es ++ bs) S T later) held.sizes;
      resets = each_again reset_area HoldsReset S T (reset_again S T) i.resets.items (in_first es bs S T last) held.resets;
      blocks = each_again blocks_area HoldsBlocks S T (blocks_again S T) (runs i) (in_second es bs S T last) held.blocks;
    }

pub put_back_after : (ro : Membership) (T : Tree) (x : Action) (i : Inverse) → Sound T → why ro T x ≡ None
    → ((c : Cell) → has (inverse_areas i) c ≡ has (writes ro T x) c) → IsKeptOf i T → IsPutBack i (effect ro T x) T
put_back_after ro T x i sound ok same kept =
    record { kept = kept; others = λ c out. (store_lawful ro).leaves T x sound (ap is_none ok) c (sym (same c) ∙ out) }

pub back_after : (ro : Membership) (T : Tree) (xs ys : List Action) (i : Inverse) → Sound T → all_ok (store ro) T (xs ++ ys) ≡ true
    → ((c : Cell) → has (inverse_areas i) c ≡ has (all_writes (store ro) (areas ro) T (xs ++ ys)) c) → IsKeptOf i T → IsPutBack i (all_acted (store ro) T xs) T
back_after ro T xs ys i sound ok same kept = record {
  kept = kept;
  others = λ c out. (lists_lawful ro).leaves T xs sound (front_ok ro T xs ys ok) c (front_out ro T xs ys c (sym (same c) ∙ out));
}
