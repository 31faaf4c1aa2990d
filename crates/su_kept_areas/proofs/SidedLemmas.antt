-- Areas with their sides: what the first byte tells, those that are passed over, and those that are
-- written one behind another.
use Rattle.std.proofs.Common.{◌≡◌, ℕ, suc, ◌+◌, ◌-◌, ◌<◌, ◌≤◌, Bool, true, false, cond, List, [], ◌∷◌, ◌++◌, length, take, drop, get_or, refl, sym, ◌∙◌, ap, subst, append_assoc, append-nil, length-append, arith}
use Rattle.std.proofs.Math.Seq.{take-length, take-suc}
use Rattle.std.proofs.lemmas.Grind.{flat_map-append}
use Rattle.std.specs.List.{AllByRecursion}
use Rattle.su_op.specs.declared.areas.Area.{Area}
use Rattle.su_kept_areas.specs.declared.kinds.AreaKind.{AreaKind}
use Rattle.su_kept_areas.specs.declared.marks.Side.{Side}
use Rattle.su_kept_areas.specs.declared.marks.Side.TheVariants.{Read, Written}
use Rattle.su_kept_areas.specs.declared.sided.Sides.{Sides}
use Rattle.su_kept_areas.specs.declared.sided.Sides.TheVariants as sides
use Rattle.su_kept_areas.specs.Spelling.{kind_of, fields_bytes, IsArea}
use Rattle.su_kept_areas.specs.Sided.{SidedArea, has_side, areas_of, sided_byte, sided_bytes, all_sided_bytes, IsSided, BeginsWithSided, AreSided, BeginWithSided, AreSomeSided, BeginOn, Spells}
use Rattle.su_kept_areas.specs.Kept.{BeginWith, IsSpelledAs, IsPut}
use Rattle.su_kept_areas.proofs.Lists.{first_of_side}

-- ---- the first byte, and those behind it

pub first_byte : (bytes : List ℕ) (it : SidedArea) (rest : List ℕ) → BeginsWithSided bytes it rest → get_or bytes 0 0 ≡ sided_byte it.0 (kind_of it.1)
first_byte bytes it rest begins = ap (λ (xs : List ℕ). get_or xs 0 0) begins.spelled

pub some_bytes : (bytes : List ℕ) (it : SidedArea) (rest : List ℕ) → BeginsWithSided bytes it rest → 0 < length bytes
some_bytes bytes it rest begins =
    let long : length bytes ≡ length (sided_bytes it ++ rest) = ap length begins.spelled in
    omega (arith, long)

pub more_sided : (bytes : List ℕ) (it : SidedArea) (rest : List ℕ) → BeginsWithSided bytes it rest → length rest < length bytes
more_sided bytes it rest begins =
    let long : length bytes ≡ length (sided_bytes it ++ rest) = ap length begins.spelled in
    omega (arith, long, length-append (fields_bytes it.1) rest)

pub behind_first : {X : Type 0} (x : X) (xs : List X) → take (length (x ∷ xs) - 1) (drop 1 (x ∷ xs)) ≡ xs
behind_first x xs =
    let few : length (x ∷ xs) - 1 ≡ length xs = omega arith in
    ap (λ n. take n xs) few ∙ take-length xs

pub fields_behind : (bytes : List ℕ) (it : SidedArea) (rest : List ℕ) → BeginsWithSided bytes it rest → take (length bytes - 1) (drop 1 bytes) ≡ fields_bytes it.1 ++ rest
fields_behind bytes it rest begins =
    ap (λ (xs : List ℕ). take (length xs - 1) (drop 1 xs)) begins.spelled ∙ behind_first (sided_byte it.0 (kind_of it.1)) (fields_bytes it.1 ++ rest)

-- ---- one after another

-- what was split off, and what is behind it
pub record IsSplitSided (bytes : List ℕ) (a : Area) (behind : List ℕ) : Type 0 where
  pub told : (it : SidedArea) (rest : List ℕ) → BeginsWithSided bytes it rest → (a ≡ it.1) × (behind ≡ rest)

first_sided : (bytes : List ℕ) (it : SidedArea) (them : List SidedArea) → AreSided bytes (it ∷ them) → BeginsWithSided bytes it (all_sided_bytes them)
first_sided bytes it them s = record { is = s.are.0; spelled = s.spelled }

begin_with_sided : (bytes : List ℕ) (them : List SidedArea) → AreSided bytes them → 0 < length bytes → BeginWithSided bytes
begin_with_sided bytes [] s some = let none : length bytes ≡ 0 = ap length s.spelled in absurd (omega (arith, none))
begin_with_sided bytes (it ∷ them) s some = (it, all_sided_bytes them, first_sided bytes it them s)

behind_sided : (bytes : List ℕ) (a : Area) (behind : List ℕ) → IsSplitSided bytes a behind → (it : SidedArea) (them : List SidedArea) → AreSided bytes (it ∷ them) → (a ≡ it.1) × AreSided behind them
behind_sided bytes a behind split it them s =
    let t = split.told it (all_sided_bytes them) (first_sided bytes it them s) in
    (t.0, record { are = s.are.1; spelled = t.1 })

-- ---- those that are passed over

-- those before what is left are not of the side
pub record ArePassed (side : Side) (bytes left : List ℕ) : Type 0 where
  pub on : (them : List SidedArea) → AreSided bytes them → (rest : List SidedArea) × AreSided left rest × (areas_of side them ≡ areas_of side rest)
  pub few : length left ≤ length bytes

-- the sides that the first byte tells
pub record AreToldBy (bytes : List ℕ) (its : Sides) : Type 0 where
  pub told : (those : Sides) (kind : AreaKind) → get_or bytes 0 0 ≡ sided_byte those kind → its ≡ those

sides_are : (bytes : List ℕ) (its : Sides) (it : SidedArea) (them : List SidedArea) → AreToldBy bytes its → AreSided bytes (it ∷ them) → its ≡ it.0
sides_are bytes its it them told s = told.told it.0 (kind_of it.1) (first_byte bytes it (all_sided_bytes them) (first_sided bytes it them s))

begin_on : (side : Side) (left : List ℕ) (its : Sides) (rest : List SidedArea) → AreToldBy left its → has_side side its ≡ true → AreSided left rest → BeginOn side rest
begin_on side left its [] told on s = tt
begin_on side left its (it ∷ rest) told on s = ap (has_side side) (sym (sides_are left its it rest told s)) ∙ on

passed_over : (side : Side) (it : SidedArea) (them : List SidedArea) → has_side side it.0 ≡ false → areas_of side (it ∷ them) ≡ areas_of side them
passed_over side it them off = ap (λ b. cond b (it.1 ∷ areas_of side them) (areas_of side them)) off

behind_passed : (side : Side) (left : List ℕ) (its : Sides) (a : Area) (behind : List ℕ) → AreToldBy left its → has_side side its ≡ false → IsSplitSided left a behind → 0 < length left
    → (rest : List SidedArea) → AreSided left rest → (u : List SidedArea) × AreSided behind u × (areas_of side rest ≡ areas_of side u)
behind_passed side left its a behind told off split some [] s =
    let none : length left ≡ 0 = ap length s.spelled in absurd (omega (arith, none))
behind_passed side left its a behind told off split some (it ∷ rest) s =
    let t = behind_sided left a behind split it rest s in
    (rest, t.1, passed_over side it rest (ap (has_side side) (sym (sides_are left its it rest told s)) ∙ off))

begin_on_none : (side : Side) (left : List ℕ) (rest : List SidedArea) → length left ≡ 0 → AreSided left rest → BeginOn side rest
begin_on_none side left [] none s = tt
begin_on_none side left (it ∷ rest) none s =
    let some = some_bytes left it (all_sided_bytes rest) (first_sided left it rest s) in absurd (omega arith)

module _ (side : Side) (bytes : List ℕ) where
  pub none_passed : ArePassed side bytes bytes
  none_passed = record { on = λ them s. (them, s, refl); few = omega arith }

  -- some are left
  pub one_ahead : (left : List ℕ) → AreSomeSided bytes → ArePassed side bytes left → 0 < length left → BeginWithSided left
  one_ahead left spelled passed some = let l = passed.on spelled.0 spelled.1 in begin_with_sided left l.0 l.1 some

  -- one more is passed over
  pub one_passed : (left : List ℕ) (its : Sides) (a : Area) (behind : List ℕ) → ArePassed side bytes left → AreToldBy left its → has_side side its ≡ false → IsSplitSided left a behind
      → 0 < length left → length behind < length left → ArePassed side bytes behind
  one_passed left its a behind passed told off split some shorter = record {
    on = λ them s.
        let l = passed.on them s in
        let o = behind_passed side left its a behind told off split some l.0 l.1 in
        (o.0, o.1, l.2 ∙ o.2);
    few = omega (arith, passed.few);
  }

  -- what is left begins with one of the side
  pub side_found : (left : List ℕ) (its : Sides) → ArePassed side bytes left → AreToldBy left its → has_side side its ≡ true → (them : List SidedArea) → AreSided bytes them
      → Spells side left (areas_of side them)
  side_found left its passed told on them s =
      let l = passed.on them s in
      record { them = l.0; spelled = l.1; begin = begin_on side left its l.0 told on l.1; are = sym l.2 }

  -- nothing is left
  pub side_ended : (left : List ℕ) → ArePassed side bytes left → length left ≡ 0 → (them : List SidedArea) → AreSided bytes them → Spells side left (areas_of side them)
  side_ended left passed none them s =
      let l = passed.on them s in
      record { them = l.0; spelled = l.1; begin = begin_on_none side left l.0 none l.1; are = sym l.2 }

-- ---- the first one of a side

-- bytes that spell a and others begin with a
pub record Opens (side : Side) (bytes : List ℕ) (a : Area) (others : List Area) : Type 0 where
  pub it : SidedArea
  pub them : List SidedArea
  pub spelled : AreSided bytes (it ∷ them)
  pub first : it.1 ≡ a
  pub behind : areas_of side them ≡ others

opens_with : (side : Side) (bytes : List ℕ) (a : Area) (others : List Area) (them : List SidedArea) → AreSided bytes them → BeginOn side them → areas_of side them ≡ a ∷ others → Opens side bytes a others
opens_with side bytes a others [] s on e = absurd (cc)
opens_with side bytes a others (it ∷ them) s on e =
    let both : it.1 ∷ areas_of side them ≡ a ∷ others = sym (first_of_side side it them on) ∙ e in
    record { it = it; them = them; spelled = s; first = cc; behind = cc }

pub opens : (side : Side) (bytes : List ℕ) (a : Area) (others : List Area) → Spells side bytes (a ∷ others) → Opens side bytes a others
opens side bytes a others s = opens_with side bytes a others s.them s.spelled s.begin s.are

module _ (side : Side) (bytes : List ℕ) (a : Area) (others : List Area) (o : Opens side bytes a others) where
  pub opens_sided : BeginWithSided bytes
  opens_sided = (o.it, all_sided_bytes o.them, first_sided bytes o.it o.them o.spelled)

  -- what was split off is a, and those behind it spell the others
  pub opened : (b : Area) (behind : List ℕ) → IsSplitSided bytes b behind → (b ≡ a) × AreSided behind o.them
  opened b behind split =
      let t = behind_sided bytes b behind split o.it o.them o.spelled in
      (t.0 ∙ o.first, t.1)

  pub opened_is : (b : Area) (behind : List ℕ) → IsSplitSided bytes b behind → IsArea b
  opened_is b behind split =
      let t = behind_sided bytes b behind split o.it o.them o.spelled in
      subst IsArea (sym t.0) o.spelled.are.0

-- ---- written one behind another

all_append : (xs ys : List SidedArea) → AllByRecursion IsSided xs → AllByRecursion IsSided ys → AllByRecursion IsSided (xs ++ ys)
all_append [] ys a b = b
all_append (x ∷ xs) ys a b = (a.0, all_append xs ys a.1 b)

on_append : (it : SidedArea) (b : Bool) (us vs ws : List Area) → us ≡ vs ++ ws → cond b (it.1 ∷ us) us ≡ cond b (it.1 ∷ vs) vs ++ ws
on_append it true us vs ws e = ap (λ xs. it.1 ∷ xs) e
on_append it false us vs ws e = e

areas_of-append : (side : Side) (xs ys : List SidedArea) → areas_of side (xs ++ ys) ≡ areas_of side xs ++ areas_of side ys
areas_of-append side [] ys = refl
areas_of-append side (x ∷ xs) ys =
    on_append x (has_side side x.0) (areas_of side (xs ++ ys)) (areas_of side xs) (areas_of side ys) (areas_of-append side xs ys)

-- those of both, one behind the other
spelled_behind : (xs ys : List ℕ) (r s w v : List Area) → IsSpelledAs xs r w → IsSpelledAs ys s v → IsSpelledAs (xs ++ ys) (r ++ s) (w ++ v)
spelled_behind xs ys r s w v a b = record {
  them = a.them ++ b.them;
  spelled = record {
    are = all_append a.them b.them a.spelled.are b.spelled.are;
    spelled = ap (λ x. x ++ ys) a.spelled.spelled ∙ ap (λ y. all_sided_bytes a.them ++ y) b.spelled.spelled ∙ sym (flat_map-append sided_bytes a.them b.them);
  };
  reads_are = areas_of-append Read a.them b.them ∙ ap (λ x. x ++ areas_of Read b.them) a.reads_are ∙ ap (λ y. r ++ y) b.reads_are;
  writes_are = areas_of-append Written a.them b.them ∙ ap (λ x. x ++ areas_of Written b.them) a.writes_are ∙ ap (λ y. w ++ y) b.writes_are;
}

pub put_behind : (old new newer : List ℕ) (r s w v : List Area) → IsPut old new r w → IsPut new newer s v → IsPut old newer (r ++ s) (w ++ v)
put_behind old new newer r s w v a b = (
  a.0 ++ b.0,
  b.1 ∙ ap (λ x. x ++ b.0) a.1 ∙ append_assoc old a.0 b.0,
  spelled_behind a.0 b.0 r s w v a.2 b.2,
)

pub none_put : (old : List ℕ) → IsPut old old [] []
none_put old = ([], sym (append-nil old), record { them = []; spelled = record { are = tt; spelled = refl }; reads_are = refl; writes_are = refl })

pub one_put : (old new : List ℕ) (it : SidedArea) → new ≡ old ++ sided_bytes it → IsArea it.1 → IsPut old new (areas_of Read (it ∷ [])) (areas_of Written (it ∷ []))
one_put old new it e is = (
  sided_bytes it,
  e,
  record { them = it ∷ []; spelled = record { are = (is, tt); spelled = sym (append-nil (sided_bytes it)) }; reads_are = refl; writes_are = refl },
)

-- of what is written the first ones were put, and the others are left
pub record ArePutUpTo (old new : List ℕ) (reads writes left : List Area) : Type 0 where
  pub before : List Area
  pub whole : writes ≡ before ++ left
  pub put : IsPut old new reads before

-- the first of a list, where it is a
pub begin_with : (areas : List Area) (x a : Area) → 0 < length areas → x ≡ get_or areas 0 x → x ≡ a → BeginWith a areas
begin_with [] x a some at same = absurd (omega arith)
begin_with (y ∷ areas) x a some at same = (areas, ap (λ z. z ∷ areas) (sym at ∙ same))

-- one more of a list
pub one_more : (areas : List Area) (i : ℕ) (x : Area) → i < length areas → x ≡ get_or areas i x → take (i + 1) areas ≡ take i areas ++ x ∷ []
one_more areas i x within at =
    let next : i + 1 ≡ suc i = omega arith in
    ap (λ n. take n areas) next ∙ take-suc areas i x within ∙ ap (λ y. take i areas ++ y ∷ []) (sym at)

pub behind_is : (a : Area) (left others : List Area) → left ≡ a ∷ others → take (length left - 1) (drop 1 left) ≡ others
behind_is a left others e = ap (λ (xs : List Area). take (length xs - 1) (drop 1 xs)) e ∙ behind_first a others

module _ (old new newer : List ℕ) (reads writes left : List Area) (put : ArePutUpTo old new reads writes left) (a : Area) (is : IsArea a) where
  -- one that is read alone was put
  pub read_put : newer ≡ new ++ sided_bytes (sides.Read, a) → ArePutUpTo old newer (reads ++ a ∷ []) writes left
  read_put e = record {
    before = put.before;
    whole = put.whole;
    put = subst (IsPut old newer (reads ++ a ∷ [])) (append-nil put.before)
        (put_behind old new newer reads (a ∷ []) put.before [] put.put (one_put new newer (sides.Read, a) e is));
  }

  -- one that is the next of those that are written was put
  pub next_put : newer ≡ new ++ sided_bytes (sides.Both, a) → BeginWith a left → ArePutUpTo old newer (reads ++ a ∷ []) writes (take (length left - 1) (drop 1 left))
  next_put e begin = record {
    before = put.before ++ a ∷ [];
    whole = put.whole ∙ ap (λ xs. put.before ++ xs) begin.1 ∙ sym (append_assoc put.before (a ∷ []) begin.0)
        ∙ ap (λ xs. (put.before ++ a ∷ []) ++ xs) (sym (behind_is a left begin.0 begin.1));
    put = put_behind old new newer reads (a ∷ []) put.before (a ∷ []) put.put (one_put new newer (sides.Both, a) e is);
  }

-- those that are left were put behind
pub all_put : (old new newer : List ℕ) (reads writes left : List Area) → ArePutUpTo old new reads writes left → IsPut new newer [] left → IsPut old newer reads writes
all_put old new newer reads writes left put behind =
    subst (λ ws. IsPut old newer reads ws) (sym put.whole)
    (subst (λ rs. IsPut old newer rs (put.before ++ left)) (append-nil reads) (put_behind old new newer reads [] put.before left put.put behind))

-- one more that is written alone was put
pub one_written : (old new newer : List ℕ) (areas : List Area) (a : Area) → IsPut old new [] areas → newer ≡ new ++ sided_bytes (sides.Written, a) → IsArea a → IsPut old newer [] (areas ++ a ∷ [])
one_written old new newer areas a put e is = put_behind old new newer [] [] areas (a ∷ []) put (one_put new newer (sides.Written, a) e is)
