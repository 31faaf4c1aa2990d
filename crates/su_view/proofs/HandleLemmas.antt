-- Groups with i-handles, side by side.
use Rattle.std.proofs.Common.{◌≡◌, ◌≢◌, ℕ, ◌+◌, ◌<◌, Bool, true, false, cond, List, [], ◌∷◌, Option, Some, None, nat_eq, IfSome, MatchOption, refl, sym, ap, ◌∙◌, subst, arith}
use Rattle.std.proofs.lemmas.Bool.{eqb-true, eq-eqb}
use Rattle.su_view.specs.Joining.{handle_in, IsFirstOther, AscendFrom}

-- a number below all groups is none of them
none_below : (low : ℕ) (xs : List (ℕ × List ℕ)) (f : ℕ) → AscendFrom low xs → f < low → handle_in xs f ≡ None
none_below low [] f up less = refl
none_below low (x ∷ xs) f (above, up) less =
    let other : nat_eq x.0 f ≡ false = grind arith in
    ap (λ b. cond b (Some x.1) (handle_in xs f)) other ∙ none_below (x.0 + 1) xs f up (omega (arith, above))

handle_first : (x : ℕ × List ℕ) (xs : List (ℕ × List ℕ)) → handle_in (x ∷ xs) x.0 ≡ Some x.1
handle_first x xs = ap (λ b. cond b (Some x.1) (handle_in xs x.0)) (eq-eqb x.0 x.0 refl)

handle_later : (x : ℕ × List ℕ) (xs : List (ℕ × List ℕ)) (f : ℕ) → x.0 ≢ f → handle_in (x ∷ xs) f ≡ handle_in xs f
handle_later x xs f other = go (nat_eq x.0 f) refl
  where
    go : (b : Bool) → nat_eq x.0 f ≡ b → cond b (Some x.1) (handle_in xs f) ≡ handle_in xs f
    go true is = absurd (other (eqb-true x.0 f is))
    go false is = refl

is_none : (d : List ℕ) → Some d ≡ None → ⊥
is_none d e = cc

-- the first list begins with a group that the other hasn't
pub only_first : (low : ℕ) (x : ℕ × List ℕ) (xs ys : List (ℕ × List ℕ)) → AscendFrom low (x ∷ xs) → AscendFrom (x.0 + 1) ys → IsFirstOther (x ∷ xs) ys x.0
only_first low x xs ys up above = record {
  other = λ e. is_none x.1 (sym (handle_first x xs) ∙ e ∙ none_below (x.0 + 1) ys x.0 above (omega arith));
  first = λ f less. none_below x.0 (x ∷ xs) f (omega arith, up.1) less ∙ sym (none_below (x.0 + 1) ys f above (omega (arith, less)));
}

other_way : (xs ys : List (ℕ × List ℕ)) (g : ℕ) → IsFirstOther xs ys g → IsFirstOther ys xs g
other_way xs ys g is = record { other = λ e. is.other (sym e); first = λ f less. sym (is.first f less) }

pub only_second : (low : ℕ) (y : ℕ × List ℕ) (xs ys : List (ℕ × List ℕ)) → AscendFrom low (y ∷ ys) → AscendFrom (y.0 + 1) xs → IsFirstOther xs (y ∷ ys) y.0
only_second low y xs ys up above = other_way (y ∷ ys) xs y.0 (only_first low y ys xs up above)

-- both begin with one group, with other i-handles
pub other_handle : (low : ℕ) (x y : ℕ × List ℕ) (xs ys : List (ℕ × List ℕ)) → AscendFrom low (x ∷ xs) → AscendFrom low (y ∷ ys) → x.0 ≡ y.0 → x.1 ≢ y.1
    → IsFirstOther (x ∷ xs) (y ∷ ys) x.0
other_handle low x y xs ys up upy same other = record {
  other = λ e. let both : Some x.1 ≡ Some y.1 = sym (handle_first x xs) ∙ e ∙ ap (handle_in (y ∷ ys)) same ∙ handle_first y ys in other (cc);
  first = λ f less. none_below x.0 (x ∷ xs) f (omega arith, up.1) less ∙ sym (none_below y.0 (y ∷ ys) f (omega arith, upy.1) (subst (λ n. f < n) same less));
}

-- both begin with one group and one i-handle
pub later_other : (low : ℕ) (x y : ℕ × List ℕ) (xs ys : List (ℕ × List ℕ)) (g : ℕ) → AscendFrom low (x ∷ xs) → AscendFrom low (y ∷ ys) → x ≡ y → IsFirstOther xs ys g
    → IsFirstOther (x ∷ xs) (y ∷ ys) g
later_other low x y xs ys g up upy same is = record {
  other = λ e. is.other (sym (handle_later x xs g apart) ∙ e ∙ handle_later y ys g (λ q. apart (ap (λ (z : ℕ × List ℕ). z.0) same ∙ q)));
  first = λ f less. go f less (nat_eq x.0 f) refl;
}
  where
    above : AscendFrom (x.0 + 1) ys
    above = subst (λ (z : ℕ × List ℕ). AscendFrom (z.0 + 1) ys) (sym same) upy.1

    apart : x.0 ≢ g
    apart e = is.other (none_below (x.0 + 1) xs g up.1 (omega (arith, e)) ∙ sym (none_below (x.0 + 1) ys g above (omega (arith, e))))

    go : (f : ℕ) → f < g → (b : Bool) → nat_eq x.0 f ≡ b → handle_in (x ∷ xs) f ≡ handle_in (y ∷ ys) f
    go f less true here =
        let at = eqb-true x.0 f here in
        ap (handle_in (x ∷ xs)) (sym at) ∙ handle_first x xs ∙ (λ i. Some (same i).1) ∙ sym (handle_first y ys) ∙ ap (handle_in (y ∷ ys)) (sym (ap (λ (z : ℕ × List ℕ). z.0) same) ∙ at)
    go f less false other =
        let no : x.0 ≢ f = λ e. let clash : false ≡ true = sym other ∙ eq-eqb x.0 f e in absurd cc in
        handle_later x xs f no ∙ is.first f less ∙ sym (handle_later y ys f (λ q. no (ap (λ (z : ℕ × List ℕ). z.0) same ∙ q)))

-- ---- the cases of two slices

module _ (xs ys : List (ℕ × List ℕ)) (x y : ℕ × List ℕ) (more others : List (ℕ × List ℕ)) (first : xs ≡ x ∷ more) (second : ys ≡ y ∷ others) where
  both : (P : List (ℕ × List ℕ) → List (ℕ × List ℕ) → Type 0) → P (x ∷ more) (y ∷ others) → P xs ys
  both P p = subst (λ l. P l ys) (sym first) (subst (λ l. P (x ∷ more) l) (sym second) p)

  up_first : (least : ℕ) → AscendFrom least xs → AscendFrom least (x ∷ more)
  up_first least = subst (AscendFrom least) first

  up_second : (least : ℕ) → AscendFrom least ys → AscendFrom least (y ∷ others)
  up_second least = subst (AscendFrom least) second

  pub case_first : x.0 < y.0 → (least : ℕ) → AscendFrom least xs → AscendFrom least ys → IsFirstOther xs ys x.0
  case_first less least up upy =
      both (λ l m. IsFirstOther l m x.0) (only_first least x more (y ∷ others) (up_first least up) (omega (arith, less), (up_second least upy).1))

  pub case_second : y.0 < x.0 → (least : ℕ) → AscendFrom least xs → AscendFrom least ys → IsFirstOther xs ys y.0
  case_second less least up upy =
      both (λ l m. IsFirstOther l m y.0) (only_second least y (x ∷ more) others (up_second least upy) (omega (arith, less), (up_first least up).1))

  pub case_handle : x.0 ≡ y.0 → x.1 ≢ y.1 → (least : ℕ) → AscendFrom least xs → AscendFrom least ys → IsFirstOther xs ys x.0
  case_handle same other least up upy =
      both (λ l m. IsFirstOther l m x.0) (other_handle least x y more others (up_first least up) (up_second least upy) same other)

  pub case_same : x.0 ≡ y.0 → x.1 ≡ y.1 → more ≡ others → xs ≡ ys
  case_same same handle rest = first ∙ (λ i. (same i, handle i) ∷ rest i) ∙ sym second

  pub case_later : x.0 ≡ y.0 → x.1 ≡ y.1 → (r : Option ℕ)
      → ((least : ℕ) → AscendFrom least more → AscendFrom least others → IfSome r (λ g. IsFirstOther more others g))
      → (least : ℕ) → AscendFrom least xs → AscendFrom least ys → IfSome r (λ g. IsFirstOther xs ys g)
  case_later same handle None rest least up upy = tt
  case_later same handle (Some g) rest least up upy =
      let here = up_first least up in
      let there = up_second least upy in
      both (λ l m. IsFirstOther l m g)
      (later_other least x y more others g here there (λ i. (same i, handle i))
      (rest (x.0 + 1) here.1 (subst (λ n. AscendFrom (n + 1) others) (sym same) there.1)))

pub case_no_second : (xs : List (ℕ × List ℕ)) (x : ℕ × List ℕ) (more : List (ℕ × List ℕ)) → xs ≡ x ∷ more → (ys : List (ℕ × List ℕ)) → ys ≡ []
    → (least : ℕ) → AscendFrom least xs → IsFirstOther xs ys x.0
case_no_second xs x more first ys none least up =
    subst (λ l. IsFirstOther l ys x.0) (sym first) (subst (λ l. IsFirstOther (x ∷ more) l x.0) (sym none) (only_first least x more [] (subst (AscendFrom least) first up) tt))

pub case_no_first : (xs ys : List (ℕ × List ℕ)) (y : ℕ × List ℕ) (others : List (ℕ × List ℕ)) → xs ≡ [] → ys ≡ y ∷ others
    → (least : ℕ) → AscendFrom least ys → IsFirstOther xs ys y.0
case_no_first xs ys y others none second least up = other_way ys xs y.0 (case_no_second ys y others second xs none least up)

pub case_none : (xs ys : List (ℕ × List ℕ)) → xs ≡ [] → (r : Option ℕ)
    → MatchOption r (ys ≡ []) (λ g. (d : List ℕ) × (others : List (ℕ × List ℕ)) × (ys ≡ (g, d) ∷ others))
    → (least : ℕ) → AscendFrom least xs → AscendFrom least ys → IfSome r (λ g. IsFirstOther xs ys g)
case_none xs ys none None is least up upy = tt
case_none xs ys none (Some g) (d, others, is) least up upy = case_no_first xs ys (g, d) others none is least upy
