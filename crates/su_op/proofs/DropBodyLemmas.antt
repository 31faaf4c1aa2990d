-- A drop depends on the cells that it reads, and its edit can be made.
use Rattle.std.proofs.Common.{◌≡◌, ◌∙◌, ℕ, Bool, true, false, cond, not, Option, Some, None, refl, sym, ap, subst}
use Rattle.std.proofs.lemmas.Bool.{both_ways}
use Rattle.su_bytes.specs.declared.file_ids.FileId.TheVariants.{Group}
use Rattle.su_bytes.specs.Place.{Place, GroupFile, place_eq}
use Rattle.su_node.specs.Field.{Field.KindOf, Value, Value.Nothing, Value.AKind, Value.ANumber, Value.ABlock, Value.AFile, Value.APlace}
use Rattle.su_table.specs.Tree.{Tree}
use Rattle.su_table.specs.Cell.{Cell.At, Cell.Pointer, val}
use Rattle.su_table.specs.Query.{is_nothing, pointer_body, body}
use Rattle.su_op.specs.declared.drop_body.DropBody.{DropBody}
use Rattle.su_op.specs.DropBody.{group_home, leads_here, unless_led, stale_home, drop_plan, drop_rule, DropRow}
use Rattle.su_op.specs.Rule.{Plan, plan_reads}
use Rattle.su_op.specs.Soundness.{Sound}
use Rattle.su_op.proofs.KeyLemmas.{place_eq-itself}
use Rattle.su_op.proofs.EditLemmas.{IsFree, CanEdits}
use Rattle.su_op.proofs.RuleLemmas.{Gives, AgreeOn, later, field_same, pointer_same, pointer_of_body, Admissible, OfEachPlan, PlanMakesNew, of_given}

-- ---- what a stale body is

-- it was made for the file, whose pointer doesn't lead there
pub stale_is : (T : Tree) (p : Place) (home : GroupFile) → stale_home T p ≡ Some home → (group_home (val T (At p KindOf)) ≡ Some home) × (leads_here (val T (Pointer home)) p ≡ false)
stale_is T p home e = made (group_home (val T (At p KindOf))) e
  where
    led : (g : GroupFile) (b : Bool) → leads_here (val T (Pointer g)) p ≡ b → cond b None (Some g) ≡ Some home → (Some g ≡ Some home) × (leads_here (val T (Pointer home)) p ≡ false)
    led g true is e = absurd cc
    led g false is e = let same : g ≡ home = cc in (e, ap (λ h. leads_here (val T (Pointer h)) p) (sym same) ∙ is)

    made : (o : Option GroupFile) → unless_led T p o ≡ Some home → (o ≡ Some home) × (leads_here (val T (Pointer home)) p ≡ false)
    made None e = absurd cc
    made (Some g) e = led g (leads_here (val T (Pointer g)) p) refl e

pub is_stale : (T : Tree) (p : Place) (home : GroupFile) → group_home (val T (At p KindOf)) ≡ Some home → leads_here (val T (Pointer home)) p ≡ false → stale_home T p ≡ Some home
is_stale T p home made led = ap (unless_led T p) made ∙ ap (λ b. cond b None (Some home)) led

stale_same : (T T' : Tree) (p : Place) (home : GroupFile) → val T' (At p KindOf) ≡ val T (At p KindOf) → val T' (Pointer home) ≡ val T (Pointer home) → stale_home T p ≡ Some home → stale_home T' p ≡ Some home
stale_same T T' p home kind pointer stale =
    let (made, led) = stale_is T p home stale in
    is_stale T' p home (ap group_home kind ∙ made) (ap (λ v. leads_here v p) pointer ∙ led)

home_same : (g home : GroupFile) → Some g ≡ Some home → g ≡ home
home_same g home e = cc

-- no pointer leads to a stale body: it would be that of the file that the body was made for
no_pointer : (T : Tree) (p : Place) (home : GroupFile) → Sound T → stale_home T p ≡ Some home → IsFree T p
no_pointer T p home sound stale g at =
    let (made, led) = stale_is T p home stale in
    let (k, h) = sound.homes g p at in
    let same : g ≡ home = home_same g home (sym (ap group_home h) ∙ made) in
    absurd (both_ways (leads_here (val T (Pointer home)) p) led
    (ap (λ r. leads_here (val T (Pointer r)) p) (sym same) ∙ ap (λ v. leads_here v p) at ∙ place_eq-itself p))

-- ---- the operation

module _ (a : ℕ) (d : DropBody) where
  drop_local : (T T' : Tree) (p : Plan) → Gives (drop_rule T a d) p → AgreeOn (plan_reads p) T T' → Gives (drop_rule T' a d) p
  drop_local T T' p (there, (home, stale, plan)) agree =
      let all : AgreeOn (plan_reads (drop_plan a d home)) T T' = subst (λ p. AgreeOn (plan_reads p) T T') (sym plan) agree in
      let kind : val T' (At (a, d.body) KindOf) ≡ val T (At (a, d.body) KindOf) = field_same KindOf (later all) in
      (ap (λ v. not (is_nothing v)) kind ∙ there, (home, stale_same T T' (a, d.body) home kind (pointer_same all) stale, plan))

  drop_can : (T : Tree) (p : Plan) → Sound T → Gives (drop_rule T a d) p → CanEdits T p.edits
  drop_can T p sound (there, (home, stale, plan)) =
      subst (λ (p : Plan). CanEdits T p.edits) plan ((tt, no_pointer T (a, d.body) home sound stale), tt)

drop_new : (T : Tree) (a : ℕ) (d : DropBody) → OfEachPlan (PlanMakesNew T) (drop_rule T a d)
drop_new T a d = λ home. tt

drop_row : (d : DropBody) → DropRow d
drop_row d a home = record { reads = refl; writes = refl }

pub drop_admissible : (d : DropBody) → Admissible (λ ro T x. drop_rule T x.author d) (DropRow d)
drop_admissible d = record {
  local = λ ro x T T' p sound. drop_local x.author d T T' p;
  can = λ ro x. drop_can x.author d;
  new = λ ro x T p. of_given (PlanMakesNew T) (drop_rule T x.author d) p (drop_new T x.author d);
  row = drop_row d;
}

-- ---- where a group file's pointer leads

pub led_to_body : (T : Tree) (g : GroupFile) (p q : Place) → body T (Group g.0 g.1) ≡ Some q → leads_here (val T (Pointer g)) p ≡ place_eq q p
led_to_body T g p q at = ap (λ v. leads_here v p) (pointer_of_body T g q at)

pub led_nowhere : (T : Tree) (g : GroupFile) (p : Place) → body T (Group g.0 g.1) ≡ None → leads_here (val T (Pointer g)) p ≡ false
unfolding body
led_nowhere T g p none = go (val T (Pointer g)) none
  where
    go : (v : Value) → pointer_body v ≡ None → leads_here v p ≡ false
    go (APlace q) e = absurd cc
    go Nothing e = refl
    go (AKind k h) e = refl
    go (ANumber n) e = refl
    go (ABlock l) e = refl
    go (AFile f) e = refl
