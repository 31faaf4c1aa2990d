-- Areas that are written and stand among those that are read take no bytes.
use Rattle.std.proofs.Common.{◌≡◌, ℕ, suc, ◌+◌, ◌-◌, ◌<◌, ◌≤◌, List, [], ◌∷◌, ◌++◌, length, take, drop, get_or, inl, inr, refl, sym, ◌∙◌, ap, subst, append-nil, length-append, drop-cons, arith}
use Rattle.std.proofs.lemmas.Grind.{flat_map-append}
use Rattle.std.proofs.Math.ListN.{drop_of_length-le}
use Rattle.su_op.specs.declared.areas.Area.{Area}
use Rattle.su_kept_areas.specs.declared.marks.Side.TheVariants.{Read, Written}
use Rattle.su_kept_areas.specs.declared.sided.Sides.{Sides}
use Rattle.su_kept_areas.specs.declared.sided.Sides.TheVariants as sides
use Rattle.su_kept_areas.specs.Spelling.{area_bytes, areas_bytes}
use Rattle.su_kept_areas.specs.Sided.{SidedArea, areas_of, sided_bytes, all_sided_bytes}
use Rattle.su_kept_areas.specs.Kept.{BeginWith, StandAmong, IsPut}
use Rattle.su_kept_areas.proofs.SidedLemmas.{behind_is}

-- ---- areas among others

more_among : (areas : List Area) (b : Area) (others : List Area) → StandAmong areas others → StandAmong areas (b ∷ others)
more_among [] b others s = tt
more_among (a ∷ areas) b others s = inr s

others_among : (a : Area) (areas others : List Area) → StandAmong (a ∷ areas) others → StandAmong areas others
others_among a areas [] s = absurd s
others_among a areas (b ∷ others) (inl (e, s)) = more_among areas b others s
others_among a areas (b ∷ others) (inr s) = more_among areas b others (others_among a areas others s)

next_among : (a : Area) (areas : List Area) (b : Area) (others : List Area) → StandAmong (a ∷ areas) (b ∷ others) → StandAmong areas others
next_among a areas b others (inl (e, s)) = s
next_among a areas b others (inr s) = others_among a areas others s

same_among : (areas : List Area) (b : Area) (others : List Area) → (BeginWith b areas → ⊥) → StandAmong areas (b ∷ others) → StandAmong areas others
same_among [] b others differs s = tt
same_among (a ∷ areas) b others differs (inl (e, s)) = absurd (differs (areas, ap (λ x. x ∷ areas) e))
same_among (a ∷ areas) b others differs (inr s) = s

none_among : (areas : List Area) → StandAmong areas [] → areas ≡ []
none_among [] s = refl
none_among (a ∷ areas) s = absurd s

-- where the first ones were compared, what is left stands among what is ahead
pub record AreAhead (reads writes left : List Area) (i : ℕ) : Type 0 where
  pub on : StandAmong writes reads → StandAmong left (drop i reads)

ahead_of : (reads : List Area) (i : ℕ) (x : Area) → i < length reads → x ≡ get_or reads i x → drop i reads ≡ x ∷ drop (i + 1) reads
ahead_of reads i x within at =
    let next : suc i ≡ i + 1 = omega arith in
    drop-cons reads i x within ∙ ap (λ y. y ∷ drop (suc i) reads) (sym at) ∙ ap (λ n. x ∷ drop n reads) next

pub all_ahead : (reads writes : List Area) → AreAhead reads writes writes 0
all_ahead reads writes = record { on = λ s. s }

module _ (reads writes left : List Area) (i : ℕ) (ahead : AreAhead reads writes left i) where
  pub none_ahead : length reads ≤ i → StandAmong writes reads → left ≡ []
  none_ahead all s = none_among left (subst (StandAmong left) (drop_of_length-le reads all) (ahead.on s))

  module _ (x : Area) (within : i < length reads) (at : x ≡ get_or reads i x) where
    pub same_ahead : (BeginWith x left → ⊥) → AreAhead reads writes left (i + 1)
    same_ahead differs = record { on = λ s. same_among left x (drop (i + 1) reads) differs (subst (StandAmong left) (ahead_of reads i x within at) (ahead.on s)) }

    pub next_ahead : BeginWith x left → AreAhead reads writes (take (length left - 1) (drop 1 left)) (i + 1)
    next_ahead begin = record {
      on = λ s.
          let those : StandAmong left (x ∷ drop (i + 1) reads) = subst (StandAmong left) (ahead_of reads i x within at) (ahead.on s) in
          let begun : StandAmong (x ∷ begin.0) (x ∷ drop (i + 1) reads) = subst (λ xs. StandAmong xs (x ∷ drop (i + 1) reads)) begin.1 those in
          subst (λ xs. StandAmong xs (drop (i + 1) reads)) (sym (behind_is x left begin.0 begin.1)) (next_among x begin.0 x (drop (i + 1) reads) begun);
    }

-- ---- how many bytes

-- what was put is as long as the areas that are read
pub record AreAsLong (old new : List ℕ) (reads : List Area) : Type 0 where
  pub long : length new ≡ length old + length (areas_bytes reads)

pub none_long_put : (old : List ℕ) → AreAsLong old old []
none_long_put old = record { long = omega arith }

pub one_long : (old new newer : List ℕ) (reads : List Area) (its : Sides) (x : Area) → AreAsLong old new reads → newer ≡ new ++ sided_bytes (its, x) → AreAsLong old newer (reads ++ x ∷ [])
one_long old new newer reads its x long e = record {
  long =
      let a : length newer ≡ length (new ++ sided_bytes (its, x)) = ap length e in
      let b : length (areas_bytes (reads ++ x ∷ [])) ≡ length (areas_bytes reads ++ areas_bytes (x ∷ [])) = ap length (flat_map-append area_bytes reads (x ∷ [])) in
      let d : length (areas_bytes (x ∷ [])) ≡ length (area_bytes x) = ap length (append-nil (area_bytes x)) in
      omega (arith, long.long, a, b, d, length-append new (sided_bytes (its, x)), length-append (areas_bytes reads) (areas_bytes (x ∷ [])));
}

on_no_side : (them : List SidedArea) → areas_of Read them ≡ [] → areas_of Written them ≡ [] → them ≡ []
on_no_side [] r w = refl
on_no_side ((sides.Read, a) ∷ them) r w = absurd (cc)
on_no_side ((sides.Both, a) ∷ them) r w = absurd (cc)
on_no_side ((sides.Written, a) ∷ them) r w = absurd (cc)

-- where nothing is put behind, no bytes are
none_behind : (new newer : List ℕ) → IsPut new newer [] [] → length newer ≡ length new
none_behind new newer put =
    let none : put.0 ≡ [] = put.2.spelled.spelled ∙ ap all_sided_bytes (on_no_side put.2.them put.2.reads_are put.2.writes_are) in
    ap length (put.1 ∙ ap (λ xs. new ++ xs) none ∙ append-nil new)

pub all_long : (old new newer : List ℕ) (reads left : List Area) → AreAsLong old new reads → IsPut new newer [] left → left ≡ [] → length newer ≡ length old + length (areas_bytes reads)
all_long old new newer reads left long put none =
    none_behind new newer (subst (λ ws. IsPut new newer [] ws) none put) ∙ long.long
