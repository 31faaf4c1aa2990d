use Rattle.std.proofs.Common.{◌≡◌, ◌↔◌, Bool, true, ◌&&◌, ◌∙◌, sym, ap, subst}
use Rattle.su_op.specs.declared.areas.Area.{Area}
use Rattle.su_op.specs.Area.{parts_overlap, overlaps, ShareACell}
use Rattle.su_op.proofs.KeyLemmas.{place_eq-derived}
use Rattle.su_op.proofs.AreaLemmas.{overlaps_exact}
use Rattle.su_op.proofs.areas.Area.overlaps.Goals as goal

between : (a b x y : Area) → a ≡ x → b ≡ y → overlaps x y ≡ overlaps a b
between a b x y e d = sym (ap (λ z. overlaps z b) e ∙ ap (overlaps x) d)

exact : (a b : Area) (r : Bool) → r ≡ overlaps a b → (r ≡ true) ↔ ShareACell a b
exact a b r e = subst (λ (o : Bool). (o ≡ true) ↔ ShareACell a b) (sym e) (overlaps_exact a b)

pub returns-then-eq-clause-value : goal.returns-then-eq-clause-value
returns-then-eq-clause-value c =
    c.overlaps.ensures
    ∙ ap (λ b. b && parts_overlap c.in-Inode-Inode.part c.in-Inode-Inode.other_part) (sym c.if-eq.true ∙ c.eq.ensures ∙ place_eq-derived c.in-Inode-Inode.place c.in-Inode-Inode.other_place)
    ∙ between c.args.self.now c.args.other.now _ _ c.in-Inode-Inode.is-0 c.in-Inode-Inode.is-1

pub returns-then-eq-clause-exact : goal.returns-then-eq-clause-exact
returns-then-eq-clause-exact c = exact c.args.self.now c.args.other.now c.overlaps.result (returns-then-eq-clause-value c)

pub returns-else-eq-clause-value : goal.returns-else-eq-clause-value
returns-else-eq-clause-value c =
    c.if-eq.false ∙ ap (λ b. b && parts_overlap c.in-Inode-Inode.part c.in-Inode-Inode.other_part) (sym c.if-eq.false ∙ c.eq.ensures ∙ place_eq-derived c.in-Inode-Inode.place c.in-Inode-Inode.other_place)
    ∙ between c.args.self.now c.args.other.now _ _ c.in-Inode-Inode.is-0 c.in-Inode-Inode.is-1

pub returns-else-eq-clause-exact : goal.returns-else-eq-clause-exact
returns-else-eq-clause-exact c = exact c.args.self.now c.args.other.now c.eq.result (returns-else-eq-clause-value c)

pub returns-in-Pointer-Pointer-clause-value : goal.returns-in-Pointer-Pointer-clause-value
returns-in-Pointer-Pointer-clause-value c =
    c.eq-in-Pointer-Pointer.ensures ∙ place_eq-derived c.in-Pointer-Pointer.file c.in-Pointer-Pointer.other_file
    ∙ between c.args.self.now c.args.other.now _ _ c.in-Pointer-Pointer.is-0 c.in-Pointer-Pointer.is-1

pub returns-in-Pointer-Pointer-clause-exact : goal.returns-in-Pointer-Pointer-clause-exact
returns-in-Pointer-Pointer-clause-exact c = exact c.args.self.now c.args.other.now c.eq-in-Pointer-Pointer.result (returns-in-Pointer-Pointer-clause-value c)
