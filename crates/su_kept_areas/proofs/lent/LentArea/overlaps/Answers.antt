use Rattle.std.proofs.Common.{◌≡◌, ◌&&◌, ◌∙◌, sym, ap}
use Rattle.su_op.specs.Area.{parts_overlap, overlaps}
use Rattle.su_kept_areas.specs.declared.lent.LentArea.{LentArea}
use Rattle.su_kept_areas.specs.Lent.{area_of, part_of}
use Rattle.su_kept_areas.proofs.Tests.{place_eq-derived}
use Rattle.su_kept_areas.proofs.lent.LentArea.overlaps.Goals as goal

between : (a b x y : LentArea) → a ≡ x → b ≡ y → overlaps (area_of x) (area_of y) ≡ overlaps (area_of a) (area_of b)
between a b x y e d = sym (ap (λ z. overlaps (area_of z) (area_of b)) e ∙ ap (λ z. overlaps (area_of x) (area_of z)) d)

pub returns-then-eq : goal.returns-then-eq
returns-then-eq c =
    c.overlaps.ensures
    ∙ ap (λ b. b && parts_overlap (part_of c.in-Inode-Inode.part) (part_of c.in-Inode-Inode.other_part)) (sym c.if-eq.true ∙ c.eq.ensures ∙ place_eq-derived c.in-Inode-Inode.place c.in-Inode-Inode.other_place)
    ∙ between c.args.self.now c.args.other.now _ _ c.in-Inode-Inode.is-0 c.in-Inode-Inode.is-1

pub returns-else-eq : goal.returns-else-eq
returns-else-eq c =
    c.if-eq.false ∙ ap (λ b. b && parts_overlap (part_of c.in-Inode-Inode.part) (part_of c.in-Inode-Inode.other_part)) (sym c.if-eq.false ∙ c.eq.ensures ∙ place_eq-derived c.in-Inode-Inode.place c.in-Inode-Inode.other_place)
    ∙ between c.args.self.now c.args.other.now _ _ c.in-Inode-Inode.is-0 c.in-Inode-Inode.is-1

pub returns-in-Pointer-Pointer : goal.returns-in-Pointer-Pointer
returns-in-Pointer-Pointer c =
    c.eq-in-Pointer-Pointer.ensures ∙ place_eq-derived c.in-Pointer-Pointer.file c.in-Pointer-Pointer.other_file
    ∙ between c.args.self.now c.args.other.now _ _ c.in-Pointer-Pointer.is-0 c.in-Pointer-Pointer.is-1
