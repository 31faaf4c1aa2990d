use Rattle.std.proofs.Common.{◌≡◌, ◌∙◌, sym, subst, refl, ap, arith, ◌/◌, ◌-◌, ◌%◌, ◌<◌, length, vec_len, true, false}
use Rattle.std.proofs.Math.Nat.{min-le_left, min-le_right}
use Rattle.std.proofs.lemmas.List.{get_or_default, get_or_past}
use Rattle.std.specs.Ordering.{nat_cmp}
use Rattle.su_hash_tree.specs.Seen.{without}
use Rattle.su_table.specs.declared.table.Table.TheInside.{Inside}
use Rattle.su_table.specs.Free.{AreFronts}
use Rattle.su_table.proofs.Fronts.{front_cut, front_none}
use Rattle.su_table.proofs.table.Table.remove.Goals as goal
use Rattle.su_table.proofs.table.Table.remove.Goals.{in-Some, in-None}

pub invariant_of-self : goal.invariant_of-self
invariant_of-self g c =
    let n = c.number-place.result in
    let fs = c.self.inside.fronts.items in
    let at = (n - 1) / 1024 in
    subst (λ ps. AreFronts ps c.match-get_mut.self-inside.fronts.items) (sym (c.remove.ensures.new ∙ ap (λ m. without nat_cmp m c.match-get_mut.self-inside.tree.entries) (c.number.ensures.value ∙ sym c.number-place.ensures.value)))
    (elim c.match-get_mut.branch [
      | in-Some w ↦ subst (λ (s : Inside g.row.V.Denot). AreFronts (without nat_cmp n s.tree.entries) s.fronts.items) (sym w.self-inside-is)
          (let within : at < length fs = omega (arith, w.in-Some.ensures.variant.0 refl, c.self.inside.fronts.ok) in
          let less = min-le_left w.in-Some.front.now ((n - 1) % 1024) in
          front_cut c.self.inside.tree.entries fs n w.min.result c.number-place.ensures.range.0 within
          (omega (arith, w.min.ensures, less, w.in-Some.ensures.value, get_or_default fs at w.in-Some.front.now 0 within))
          (omega (arith, w.min.ensures, min-le_right w.in-Some.front.now ((n - 1) % 1024))) c.self.invariant)
      | in-None w ↦ subst (λ (s : Inside g.row.V.Denot). AreFronts (without nat_cmp n s.tree.entries) s.fronts.items) (sym w.self-inside-is)
          (front_none c.self.inside.tree.entries fs n c.number-place.ensures.range.0 (let past : ¬ (at < vec_len c.self.inside.fronts) = (λ l. let bad : false ≡ true = w.in-None.ensures.variant.1 l in cc) in get_or_past fs at 0 (omega (arith, past, c.self.inside.fronts.ok))) c.self.invariant)
    ])
