-- The least number from a number on at which something of a principal stands, as a map finds it.
use Rattle.std.proofs.Common.{◌≡◌, ◌∙◌, sym, ap, refl, subst, ℕ, ◌<◌, ◌≤◌, Bool, true, false, not, is_some, IsTrue, List, [], ◌∷◌, Option, Some, None, ◌⊎◌, inl, inr, arith}
use Rattle.std.specs.declared.cmp.Ordering.TheVariants.{Equal, Greater}
use Rattle.std.specs.declared.ops.Bound.TheVariants.{Included, Unbounded}
use Rattle.std.specs.Ordering.{is_gt, nat_cmp, ordering_then}
use Rattle.std.specs.Cmp.{nat_cmp_is}
use Rattle.std.specs.List.{slice_get}
use Rattle.std.specs.Option.{IfSome}
use Rattle.std.specs.BTreeMap.{BTreeMap}
use Rattle.std.specs.FinMap.{FinMap, from_entries}
use Rattle.std.specs.BTreeMap.Range.{IsEntryInRange, IsLeBy, IsRangeOf}
use Rattle.std.proofs.lemmas.Bool.{cases_Bool, cases_order, false≢true}
use Rattle.std.proofs.lemmas.Map.Keys.{le_from_not_gt}
use Rattle.su_bytes.specs.FileId.{is_inum}
use Rattle.su_bytes.specs.Place.{Place, place_cmp}
use Rattle.su_node.specs.Field.{Field.KindOf, field_value}
use Rattle.su_node.specs.Inode.{Inode}
use Rattle.su_table.specs.Free.{IsLeast, IsLeastTaken}
use Rattle.su_table.specs.Query.{is_free_at, is_nothing}
use Rattle.su_table.specs.Tree.{Tree}
use Rattle.su_table.proofs.Fronts.{least_alike}
use Rattle.su_table.proofs.Stores.{at_place, val-At}

-- ---- the order of places

same_cmp : (n : ℕ) → nat_cmp n n ≡ Equal
same_cmp n = sym (nat_cmp_is n n Equal refl)

-- a place is not after another
le_is : (p q : Place) → is_gt (place_cmp p q) ≡ false → (p.0 < q.0) ⊎ ((p.0 ≡ q.0) × (p.1 ≤ q.1))
le_is p q h = elim (cases_order p.0 q.0) [
  | inl same ↦
      let second : is_gt (nat_cmp p.1 q.1) ≡ false = ap (λ o. is_gt (ordering_then o (nat_cmp p.1 q.1))) (nat_cmp_is p.0 q.0 Equal same) ∙ h in
      inr (same, le_from_not_gt p.1 q.1 second)
  | inr (inl before) ↦ inl before
  | inr (inr after) ↦ absurd (false≢true (sym h ∙ ap (λ o. is_gt (ordering_then o (nat_cmp p.1 q.1))) (sym (nat_cmp_is p.0 q.0 Greater after))))
]

not_gt : (a b : ℕ) → a ≤ b → is_gt (nat_cmp a b) ≡ false
not_gt a b h = grind arith

same_le : (u a b : ℕ) → a ≤ b → is_gt (place_cmp (u, a) (u, b)) ≡ false
same_le u a b h = ap (λ o. is_gt (ordering_then o (nat_cmp a b))) (same_cmp u) ∙ not_gt a b h

-- ---- the entries from a place on

module _ {X : Type 0} (m : BTreeMap Place X) (u from : ℕ) where
  -- something of the principal stands at the number
  abbrev pub stands : ℕ → Bool
  stands n = is_some (at_place m.entries (u, n))

  abbrev pub IsRest : List (Place × X) → Type 0
  IsRest r = IsRangeOf place_cmp (Included (u, from)) Unbounded m r

  module _ (r t : List (Place × X)) (e : Place × X) (rest : IsRest r) (is : r ≡ e ∷ t) where
    first : IsEntryInRange place_cmp (Included (u, from)) Unbounded m e
    first = subst (λ ys. IfSome (slice_get ys 0) (IsEntryInRange place_cmp (Included (u, from)) Unbounded m)) is rest.1

    -- where something stands, the first entry is not after it
    first_before : (n : ℕ) → from ≤ n → stands n ≡ true → (e.0.0 < u) ⊎ ((e.0.0 ≡ u) × (e.0.1 ≤ n))
    first_before n le there = le_is e.0 (u, n) (subst (λ ys. IfSome (slice_get ys 0) (λ x. IsLeBy place_cmp x.0 (u, n))) is (rest.2 (u, n) (same_le u from n le, tt) there))

    -- the first entry is the principal's
    pub next_found : e.0.0 ≡ u → IsTrue (is_inum e.0.1) → IsLeast stands from (Some e.0.1)
    next_found same number =
        let there : stands e.0.1 ≡ true = ap (λ v. is_some (at_place m.entries (v, e.0.1))) (sym same) ∙ ap is_some first.1 in
        let after : from ≤ e.0.1 = elim (le_is (u, from) e.0 first.0.0) [
          | inl lt ↦ absurd (omega (arith, lt, same))
          | inr le ↦ le.1
        ] in (
          after,
          number,
          there,
          λ n a b. elim (cases_Bool (stands n)) [
            | inl here ↦ absurd (elim (first_before n a here) [
              | inl lt ↦ omega (arith, lt, same)
              | inr le ↦ omega (arith, le.1, b)
            ])
            | inr gone ↦ gone
          ],
        )

    -- the first entry is another's
    pub next_other : (e.0.0 ≡ u → ⊥) → IsLeast stands from None
    next_other other = λ n a number. elim (cases_Bool (stands n)) [
      | inl here ↦ absurd (elim (first_before n a here) [
        | inl lt ↦ (elim (le_is (u, from) e.0 first.0.0) [
          | inl gt ↦ omega (arith, lt, gt)
          | inr le ↦ other (sym le.0)
        ])
        | inr le ↦ other le.0
      ])
      | inr gone ↦ gone
    ]

  -- there is no entry
  pub next_none : (r : List (Place × X)) → IsRest r → r ≡ [] → IsLeast stands from None
  next_none r rest is = λ n a number. ap is_some (rest.5 is (u, n) (same_le u from n a, tt))

-- ---- what is asked of a tree

taken_is : (o : Option Inode) → is_some o ≡ not (is_nothing (field_value o KindOf))
taken_is None = refl
taken_is (Some i) = refl

-- the least number at which an inode stands, of the tree that the map is seen as
pub taken_least : (m : BTreeMap Place Inode) (n : FinMap place_cmp Place) (T : Tree) → record { inodes = from_entries m.entries; pointers = n } ≡ T
    → (u from : ℕ) (found : Option ℕ) → IsLeast (stands m u from) from found → IsLeastTaken (λ i. is_free_at T (u, i)) from found
taken_least m n T is u from found least =
    least_alike (stands m u from) (λ i. not (is_free_at T (u, i))) from (λ i. taken_is (at_place m.entries (u, i)) ∙ sym (ap (λ v. not (is_nothing v)) (val-At m.entries n T is (u, i) KindOf _ refl))) found least
