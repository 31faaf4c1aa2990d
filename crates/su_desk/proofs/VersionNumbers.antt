-- Version numbers, one entry further on.
use Rattle.std.proofs.Common.{◌≡◌, ℕ, ◌+◌, ◌≤◌, ◌<◌, ◌^◌, ◌||◌, ◌&&◌, nat_eq, Bool, true, false, cond, List, [], ◌∷◌, ◌++◌, map, length, refl, sym, ap, ◌∙◌, arith, append_assoc, append-nil, take, drop, get_or, add-one}
use Rattle.std.specs.List.{All, AllByRecursion, filter, list_any}
use Rattle.std.specs.List.Sorted.{IsStrictlyIncreasing}
use Rattle.std.proofs.lemmas.List.Kept.{IsStrictlyIncreasing-filter}
use Rattle.std.proofs.lemmas.List.Elements.{All-from_recursion}
use Rattle.std.proofs.lemmas.List.{take_more, length-take, length-map, map-append}
use Rattle.std.proofs.Math.ListN.{set}
use Rattle.std.proofs.Math.Seq.{set-append_seam, get_or-append_seam, take-append_seam, drop-cons}
use Rattle.std.proofs.lemmas.Bool.{eq-eqb}
use Rattle.std.proofs.Math.Bool.{and-false}
use Rattle.su_bytes.specs.Membership.{Membership, IsRoster, has_number}
use Rattle.su_bytes.specs.Principal.{principals}
use Rattle.su_bytes.specs.declared.principals.Principal.{Principal}
use Rattle.su_bytes.specs.declared.principals.Principal.TheVariants.{User}
use Rattle.su_op.specs.declared.areas.Area.{Area}
use Rattle.su_desk.specs.declared.entries.Entry.{Entry}
use Rattle.su_desk.specs.Version.{carries, carried_groups, cells_of, raises, raised, version_after, version, numbered, versions}

-- by how much an entry after a history raises a number
abbrev pub rise : Membership → List Entry → Entry → Principal → ℕ
rise ro h e p = cond (raises e.author (cells_of ro h e) p) 1 0

nothing_more : (a b : ℕ) → a ≡ b → a + 0 ≡ 0 + b
nothing_more a b e = omega arith

one_more : (a b c d f : ℕ) → b ≡ c + d → d ≡ f → a + b ≡ (a + c) + f
one_more a b c d f e g = omega arith

version_after-append : (ro : Membership) (h es : List Entry) (e : Entry) (p : Principal) → version_after ro h (es ++ e ∷ []) p ≡ version_after ro h es p + rise ro (h ++ es) e p
version_after-append ro h [] e p = nothing_more (rise ro h e p) (rise ro (h ++ []) e p) (ap (λ g. rise ro g e p) (sym (append-nil h)))
version_after-append ro h (x ∷ es) e p =
    one_more (rise ro h x p) (version_after ro (h ++ x ∷ []) (es ++ e ∷ []) p) (version_after ro (h ++ x ∷ []) es p) (rise ro ((h ++ x ∷ []) ++ es) e p) (rise ro (h ++ x ∷ es) e p)
    (version_after-append ro (h ++ x ∷ []) es e p) (ap (λ g. rise ro g e p) (append_assoc h (x ∷ []) es))

pub version-append : (ro : Membership) (h : List Entry) (e : Entry) (p : Principal) → version ro (h ++ e ∷ []) p ≡ version ro h p + rise ro h e p
version-append ro h e p = version_after-append ro [] h e p

-- ---- the laws

rises_by : (a b c : ℕ) → b ≡ a + c → a ≤ b
rises_by a b c e = omega arith

pub never_falls : (ro : Membership) (h : List Entry) (e : Entry) (p : Principal) → version ro h p ≤ version ro (h ++ e ∷ []) p
never_falls ro h e p = rises_by (version ro h p) (version ro (h ++ e ∷ []) p) (rise ro h e p) (version-append ro h e p)

pub author_rises : (ro : Membership) (h : List Entry) (e : Entry) → version ro (h ++ e ∷ []) (User e.author) ≡ version ro h (User e.author) + 1
author_rises ro h e = version-append ro h e (User e.author) ∙ ap (λ b. version ro h (User e.author) + cond b 1 0) (eq-eqb e.author e.author refl)

-- ---- no number is above the number of entries

at_most_one : (b : Bool) (n m : ℕ) → n ≤ m → cond b 1 0 + n ≤ m + 1
at_most_one true n m l = omega arith
at_most_one false n m l = omega arith

version_after_within : (ro : Membership) (h es : List Entry) (p : Principal) → version_after ro h es p ≤ length es
version_after_within ro h [] p = omega arith
version_after_within ro h (x ∷ es) p =
    let l = at_most_one (raises x.author (cells_of ro h x) p) (version_after ro (h ++ x ∷ []) es p) (length es) (version_after_within ro (h ++ x ∷ []) es p) in omega arith

all_within : (ro : Membership) (h : List Entry) (ps : List Principal) → length h + 1 < 2 ^ 64 → AllByRecursion (λ (v : Principal × ℕ). v.1 + 1 < 2 ^ 64) (map (numbered ro h) ps)
all_within ro h [] l = tt
all_within ro h (p ∷ ps) l = (let b : version ro h p ≤ length h = version_after_within ro [] h p in omega arith, all_within ro h ps l)

pub versions_within : (ro : Membership) (h : List Entry) → length h + 1 < 2 ^ 64 → All (λ (v : Principal × ℕ). v.1 + 1 < 2 ^ 64) (versions ro h)
versions_within ro h l = All-from_recursion (λ (v : Principal × ℕ). v.1 + 1 < 2 ^ 64) (versions ro h) (all_within ro h (principals ro) l)

-- ---- all numbers after one more entry

all_raised : (ro : Membership) (h : List Entry) (e : Entry) (ps : List Principal) → map (numbered ro (h ++ e ∷ [])) ps ≡ map (raised e.author (cells_of ro h e)) (map (numbered ro h) ps)
all_raised ro h e [] = refl
all_raised ro h e (p ∷ ps) = λ i. (p, version-append ro h e p i) ∷ all_raised ro h e ps i

-- what is written is given by another spelling
pub versions-append : (ro : Membership) (h : List Entry) (e : Entry) (w : List Area) → w ≡ cells_of ro h e → versions ro (h ++ e ∷ []) ≡ map (raised e.author w) (versions ro h)
versions-append ro h e w is = all_raised ro h e (principals ro) ∙ ap (λ w. map (raised e.author w) (versions ro h)) (sym is)

-- ---- the groups that are carried

same_number : (a g : ℕ) → nat_eq a g ≡ true → a ≡ g
same_number a g is = grind arith

carried_among : (w : List Area) (g : ℕ) (es : List (ℕ × List ℕ)) → list_any (λ c. nat_eq c g) (filter (λ c. carries c w) (map (λ e. e.0) es)) ≡ (has_number es g && carries g w)
carried_among w g [] = refl
carried_among w g (e ∷ es) = go (carries e.0 w) refl (nat_eq e.0 g) refl (carried_among w g es)
  where
    rest : List ℕ
    rest = filter (λ c. carries c w) (map (λ e. e.0) es)

    go : (b : Bool) → carries e.0 w ≡ b → (n : Bool) → nat_eq e.0 g ≡ n → list_any (λ c. nat_eq c g) rest ≡ (has_number es g && carries g w)
        → list_any (λ c. nat_eq c g) (cond b (e.0 ∷ rest) rest) ≡ ((nat_eq e.0 g || has_number es g) && carries g w)
    go true is true same ih =
        ap (λ x. x || list_any (λ c. nat_eq c g) rest) same ∙ sym (ap (λ x. (x || has_number es g) && carries g w) same ∙ ap (λ c. carries c w) (sym (same_number e.0 g same)) ∙ is)
    go true is false other ih = ap (λ x. x || list_any (λ c. nat_eq c g) rest) other ∙ ih ∙ ap (λ x. (x || has_number es g) && carries g w) (sym other)
    go false is true same ih =
        let out : carries g w ≡ false = ap (λ c. carries c w) (sym (same_number e.0 g same)) ∙ is in
        ih ∙ ap (λ x. has_number es g && x) out ∙ and-false (has_number es g) ∙ sym (ap (λ x. (x || has_number es g) && carries g w) same ∙ out)
    go false is false other ih = ih ∙ ap (λ x. (x || has_number es g) && carries g w) (sym other)

pub carried_listed : (ro : Membership) (w : List Area) (g : ℕ) → list_any (λ c. nat_eq c g) (carried_groups ro w) ≡ (has_number ro.groups g && carries g w)
carried_listed ro w g = carried_among w g ro.groups

pub carried_ascend : (ro : Membership) (w : List Area) → IsRoster ro → IsStrictlyIncreasing (carried_groups ro w)
carried_ascend ro w roster = IsStrictlyIncreasing-filter (λ g. carries g w) (map (λ g. g.0) ro.groups) roster.groups_ascend

-- ---- one number after another is raised

set_at : {A : Type 0} (xs ys : List A) (y z : A) (i : ℕ) → length xs ≡ i → set (xs ++ y ∷ ys) i z ≡ (xs ++ z ∷ []) ++ ys
set_at xs ys y z i is = ap (λ n. set (xs ++ y ∷ ys) n z) (sym is) ∙ set-append_seam xs y ys z ∙ sym (append_assoc xs (z ∷ []) ys)

get_at : {A : Type 0} (xs ys : List A) (y d : A) (i : ℕ) → length xs ≡ i → get_or (xs ++ y ∷ ys) i d ≡ y
get_at xs ys y d i is = ap (λ n. get_or (xs ++ y ∷ ys) n d) (sym is) ∙ get_or-append_seam xs y ys d

-- those before index i are changed, and the one at i is next
pub next_changed : {A : Type 0} (f : A → A) (xs now : List A) (i : ℕ) (x y : A) → i < length now → length now ≡ length xs → now ≡ map f (take i xs) ++ drop i xs → x ≡ get_or now i x → y ≡ f x
    → set now i y ≡ map f (take (i + 1) xs) ++ drop (i + 1) xs
next_changed f xs now i x y within long is here changed =
    let inside : i < length xs = omega arith in
    let front : length (map f (take i xs)) ≡ i = length-map (take i xs) f ∙ length-take i xs ∙ omega arith in
    let split : drop i xs ≡ get_or xs i x ∷ drop (i + 1) xs = drop-cons xs i x inside ∙ ap (λ j. get_or xs i x ∷ drop j xs) (sym (add-one i)) in
    let whole : now ≡ map f (take i xs) ++ get_or xs i x ∷ drop (i + 1) xs = is ∙ ap (λ zs. map f (take i xs) ++ zs) split in
    let same : x ≡ get_or xs i x = here ∙ ap (λ zs. get_or zs i x) whole ∙ get_at (map f (take i xs)) (drop (i + 1) xs) (get_or xs i x) x i front in
    ap (λ zs. set zs i y) whole ∙ set_at (map f (take i xs)) (drop (i + 1) xs) (get_or xs i x) y i front
    ∙ ap (λ zs. zs ++ drop (i + 1) xs) (ap (λ z. map f (take i xs) ++ z ∷ []) (changed ∙ ap f same) ∙ sym (map-append f (take i xs) (get_or xs i x ∷ [])) ∙ ap (map f) (sym (take_more xs i x inside)))

pub raised_one : (a : ℕ) (w : List Area) (x y : Principal × ℕ) (b : Bool) → b ≡ raises a w y.0 → b ≡ true → x ≡ y → (y.0, y.1 + 1) ≡ raised a w x
raised_one a w x y b is true_is same = ap (λ r. (y.0, y.1 + cond r 1 0)) (sym true_is ∙ is) ∙ ap (raised a w) (sym same)

pub raised_none : (a : ℕ) (w : List Area) (x y : Principal × ℕ) (b : Bool) → b ≡ raises a w y.0 → b ≡ false → x ≡ y → y ≡ raised a w x
raised_none a w x y b is false_is same = (λ i. (y.0, nothing y.1 i)) ∙ ap (λ r. (y.0, y.1 + cond r 1 0)) (sym false_is ∙ is) ∙ ap (raised a w) (sym same)
  where
    nothing : (n : ℕ) → n ≡ n + 0
    nothing n = omega arith

-- a slice of a list that is written back
pub put_back_whole : {A : Type 0} (n : ℕ) (xs ys : List A) → n ≡ length xs → take n (xs ++ ys) ≡ xs
put_back_whole n xs ys is = ap (λ m. take m (xs ++ ys)) is ∙ take-append_seam xs ys

-- the numbers after one more entry, as they stand in a list that is written back
pub counters_next : (ro : Membership) (h : List Entry) (e : Entry) (w : List Area) (n : ℕ) (vs now new rest : List (Principal × ℕ)) → w ≡ cells_of ro h e → vs ≡ versions ro h → n ≡ length vs → now ≡ vs
    → new ≡ map (raised e.author w) now → take n (new ++ rest) ≡ versions ro (h ++ e ∷ [])
counters_next ro h e w n vs now new rest is were long same raised_all =
    let all : new ≡ map (raised e.author w) vs = raised_all ∙ ap (map (raised e.author w)) same in
    put_back_whole n new rest (long ∙ sym (length-map vs (raised e.author w)) ∙ ap length (sym all))
    ∙ all ∙ ap (map (raised e.author w)) were ∙ sym (versions-append ro h e w is)
