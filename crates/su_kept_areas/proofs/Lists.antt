-- Areas that are spelled one after another, and those of them that are left.
use Rattle.std.proofs.Common.{◌≡◌, ℕ, ◌<◌, Bool, true, false, cond, ◌||◌, List, [], ◌∷◌, ◌++◌, length, refl, sym, ◌∙◌, ap, append_assoc, append-nil, arith}
use Rattle.std.specs.List.{list_any}
use Rattle.su_op.specs.declared.areas.Area.{Area}
use Rattle.su_kept_areas.specs.declared.marks.Side.{Side}
use Rattle.su_kept_areas.specs.Sided.{SidedArea, has_side, areas_of, all_sided_bytes, AreSided, BeginOn, Spells, BeginWithOne, SpellSome}

-- what was split off of bytes that spell areas of a side, and what is behind it
pub record IsSplit (side : Side) (bytes : List ℕ) (a : Area) (behind : List ℕ) : Type 0 where
  pub told : (b : Area) (others : List Area) → Spells side bytes (b ∷ others) → (a ≡ b) × Spells side behind others

-- no bytes spell no areas
some_sided : (bytes : List ℕ) (them : List SidedArea) (side : Side) (a : Area) (v : List Area) → AreSided bytes them → areas_of side them ≡ a ∷ v → 0 < length bytes
some_sided bytes [] side a v s e = absurd (cc)
some_sided bytes (it ∷ them) side a v s e =
    let long : length bytes ≡ length (all_sided_bytes (it ∷ them)) = ap length s.spelled in
    omega (arith, long)

some_spelled : (side : Side) (bytes : List ℕ) (a : Area) (v : List Area) → Spells side bytes (a ∷ v) → 0 < length bytes
some_spelled side bytes a v s = some_sided bytes s.them side a v s.spelled s.are

none_spelled : (side : Side) (bytes : List ℕ) (v : List Area) → Spells side bytes v → length bytes ≡ 0 → v ≡ []
none_spelled side bytes [] s none = refl
none_spelled side bytes (a ∷ v) s none = let some = some_spelled side bytes a v s in absurd (omega arith)

-- where the first one is of the side, it is the first of those of the side
pub first_of_side : (side : Side) (it : SidedArea) (them : List SidedArea) → has_side side it.0 ≡ true → areas_of side (it ∷ them) ≡ it.1 ∷ areas_of side them
first_of_side side it them on = ap (λ b. cond b (it.1 ∷ areas_of side them) (areas_of side them)) on

none_sided : (bytes : List ℕ) (them : List SidedArea) (side : Side) → AreSided bytes them → BeginOn side them → areas_of side them ≡ [] → length bytes ≡ 0
none_sided bytes [] side s on e = ap length s.spelled
none_sided bytes (it ∷ them) side s on e = let first = first_of_side side it them on in absurd (cc)

no_bytes : (side : Side) (bytes : List ℕ) → Spells side bytes [] → length bytes ≡ 0
no_bytes side bytes s = none_sided bytes s.them side s.spelled s.begin s.are

-- bytes that spell areas, and are some, begin with one
pub begin_with_one : (side : Side) (bytes : List ℕ) (v : List Area) → Spells side bytes v → 0 < length bytes → BeginWithOne side bytes
begin_with_one side bytes [] s some = let none = no_bytes side bytes s in absurd (omega arith)
begin_with_one side bytes (a ∷ v) s some = (a, v, s)

-- what is behind an area that was split off spells the others
pub others_spelled : (side : Side) (bytes : List ℕ) (a : Area) (behind : List ℕ) → IsSplit side bytes a behind → 0 < length bytes → (v : List Area) → Spells side bytes v → (u : List Area) × Spells side behind u × (v ≡ a ∷ u)
others_spelled side bytes a behind split some [] s = let none = no_bytes side bytes s in absurd (omega arith)
others_spelled side bytes a behind split some (b ∷ v) s =
    let t = split.told b v s in
    (v, t.1, ap (λ x. x ∷ v) (sym t.0))

-- ---- a search

-- whether one of the areas passes the test, those that are left tell
pub record Leaves (side : Side) (test : Area → Bool) (bytes : List ℕ) (left : List ℕ) : Type 0 where
  pub on : (w : List Area) → Spells side bytes w → (v : List Area) × Spells side left v × (list_any test w ≡ list_any test v)

module _ (side : Side) (test : Area → Bool) (bytes : List ℕ) where
  pub all_left : Leaves side test bytes bytes
  all_left = record { on = λ w s. (w, s, refl) }

  -- some are left
  pub one_left : (left : List ℕ) → SpellSome side bytes → Leaves side test bytes left → 0 < length left → BeginWithOne side left
  one_left left spelled leaves some = let l = leaves.on spelled.0 spelled.1 in begin_with_one side left l.0 l.1 some

  -- none is left
  pub none_left : (left : List ℕ) → Leaves side test bytes left → length left ≡ 0 → (w : List Area) → Spells side bytes w → false ≡ list_any test w
  none_left left leaves none w s =
      let l = leaves.on w s in
      sym (l.2 ∙ ap (list_any test) (none_spelled side left l.0 l.1 none))

  -- the first that is left passes
  pub found : (left : List ℕ) (a : Area) (behind : List ℕ) → Leaves side test bytes left → IsSplit side left a behind → 0 < length left → test a ≡ true → (w : List Area) → Spells side bytes w → true ≡ list_any test w
  found left a behind leaves split some passes w s =
      let l = leaves.on w s in
      let o = others_spelled side left a behind split some l.0 l.1 in
      sym (l.2 ∙ ap (list_any test) o.2 ∙ ap (λ t. t || list_any test o.0) passes)

  -- it doesn't
  pub passed : (left : List ℕ) (a : Area) (behind : List ℕ) → Leaves side test bytes left → IsSplit side left a behind → 0 < length left → test a ≡ false → Leaves side test bytes behind
  passed left a behind leaves split some fails = record {
    on = λ w s.
        let l = leaves.on w s in
        let o = others_spelled side left a behind split some l.0 l.1 in
        (o.0, o.1, l.2 ∙ ap (list_any test) o.2 ∙ ap (λ t. t || list_any test o.0) fails);
  }

-- ---- areas that are read

-- the first of the areas were read, and the others are left
pub record AreRead (side : Side) (bytes : List ℕ) (areas : List Area) (left : List ℕ) : Type 0 where
  pub on : (w : List Area) → Spells side bytes w → (v : List Area) × Spells side left v × (w ≡ areas ++ v)

module _ (side : Side) (bytes : List ℕ) where
  pub none_read : AreRead side bytes [] bytes
  none_read = record { on = λ w s. (w, s, refl) }

  -- some are left
  pub one_unread : (areas : List Area) (left : List ℕ) → SpellSome side bytes → AreRead side bytes areas left → 0 < length left → BeginWithOne side left
  one_unread areas left spelled read some = let l = read.on spelled.0 spelled.1 in begin_with_one side left l.0 l.1 some

  -- one more is read
  pub one_read : (areas : List Area) (left : List ℕ) (a : Area) (behind : List ℕ) → AreRead side bytes areas left → IsSplit side left a behind → 0 < length left → AreRead side bytes (areas ++ a ∷ []) behind
  one_read areas left a behind read split some = record {
    on = λ w s.
        let l = read.on w s in
        let o = others_spelled side left a behind split some l.0 l.1 in
        (o.0, o.1, l.2 ∙ ap (λ v. areas ++ v) o.2 ∙ sym (append_assoc areas (a ∷ []) o.0));
  }

  -- all are read
  pub all_read : (areas : List Area) (left : List ℕ) → AreRead side bytes areas left → length left ≡ 0 → (w : List Area) → Spells side bytes w → areas ≡ w
  all_read areas left read none w s =
      let l = read.on w s in
      sym (l.2 ∙ ap (λ v. areas ++ v) (none_spelled side left l.0 l.1 none) ∙ append-nil areas)
