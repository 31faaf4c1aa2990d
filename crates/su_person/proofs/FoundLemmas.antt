-- What is noted of the last changes of several files, entry by entry.
use Rattle.std.proofs.Common.{◌≡◌, ◌∙◌, ℕ, ◌+◌, ◌<◌, ◌||◌, Bool, true, false, cond, List, [], ◌∷◌, ◌++◌, length, take, drop, map, get_or, Option, None, Some, OnOk, refl, sym, ap}
use Rattle.std.specs.declared.cmp.Ordering.{Ordering}
use Rattle.std.specs.declared.cmp.Ordering.TheVariants.{Less, Equal, Greater}
use Rattle.std.specs.BTreeMap.{BTreeMap, get, get_by, is_at}
use Rattle.std.specs.Cmp.{eq_by_cmp_equiv}
use Rattle.std.specs.List.{list_any}
use Rattle.std.specs.Ordering.{is_eq}
use Rattle.std.specs.declared.result.Result.{Result}
use Rattle.std.specs.declared.result.Result.TheVariants.{Ok, Err}
use Rattle.std.proofs.Math.Bool.{or-false, or-true}
use Rattle.std.proofs.lemmas.Bool.{true≢false}
use Rattle.std.proofs.lemmas.List.{take_more}
use Rattle.std.proofs.lemmas.List.Folds.{list_any-append}
use Rattle.su_bytes.specs.Place.{Place, file_eq, place_cmp, place_eq}
use Rattle.su_bytes.specs.declared.file_ids.FileId.{FileId}
use Rattle.su_bytes.specs.declared.file_ids.FileId.TheVariants.{User, Group}
use Rattle.su_table.proofs.Public.{place_cmp_exact, place_cmp_total}
use Rattle.su_op.specs.declared.operations.Op.{Op}
use Rattle.su_op.specs.declared.operations.Change.{Change}
use Rattle.su_desk.specs.declared.entries.Entry.{Entry}
use Rattle.su_desk.specs.KeptEntry.{without_bytes}
use Rattle.su_person.specs.declared.found_changes.FoundChanges.{FoundChanges}
use Rattle.su_person.specs.FoundChanges.{FileKey, Notes, found_in, found_of, is_asked, is_missing, key_cmp, key_of, noted_in, noted_of, noting}
use Rattle.su_person.specs.LastChange.{changes_bytes, does_change, last_change, last_from}
use Rattle.su_person.proofs.ChangeLemmas.{does_so}

-- ---- files and their keys

equal_of : (o : Ordering) → is_eq o ≡ true → o ≡ Equal
equal_of Less is = absurd (true≢false (sym is))
equal_of Equal is = refl
equal_of Greater is = absurd (true≢false (sym is))

same_place : (p q : Place) → place_eq p q ≡ true → p ≡ q
unfolding place_eq
same_place p q is = place_cmp_exact p q (equal_of (place_cmp p q) is)

same_file : (f g : FileId) → file_eq f g ≡ true → f ≡ g
same_file (User u i) (User v j) is = ap (λ (p : Place). User p.0 p.1) (same_place (u, i) (v, j) is)
same_file (User u i) (Group h l) is = absurd (true≢false (sym is))
same_file (Group g k) (User v j) is = absurd (true≢false (sym is))
same_file (Group g k) (Group h l) is = ap (λ (p : Place). Group p.0 p.1) (same_place (g, k) (h, l) is)

place_refl : (p : Place) → place_eq p p ≡ true
unfolding place_eq
place_refl p = (eq_by_cmp_equiv place_cmp_total).refl p

place_symm : (p q : Place) → place_eq p q ≡ place_eq q p
unfolding place_eq
place_symm p q = (eq_by_cmp_equiv place_cmp_total).symm p q

file_refl : (f : FileId) → file_eq f f ≡ true
file_refl (User u i) = place_refl (u, i)
file_refl (Group g k) = place_refl (g, k)

-- a map finds a file by the key of that one
key_told : (f g : FileId) → is_at (key_cmp (key_of g)) (key_of f) ≡ file_eq g f
unfolding place_eq
key_told (User u i) (User v j) = refl
key_told (User u i) (Group h l) = refl
key_told (Group g k) (User v j) = refl
key_told (Group g k) (Group h l) = refl

file_symm : (f g : FileId) → file_eq f g ≡ file_eq g f
file_symm (User u i) (User v j) = place_symm (u, i) (v, j)
file_symm (User u i) (Group h l) = refl
file_symm (Group g k) (User v j) = refl
file_symm (Group g k) (Group h l) = place_symm (g, k) (h, l)

-- ---- those that are asked about

-- what is noted where that was found of a file, if it is asked about
abbrev pub known_if : Bool → Option (ℕ × ℕ) → Option (Option (ℕ × ℕ))
known_if asked last = cond asked (Some last) None

asked_of_more : (p : FileId → Bool) (fs : List FileId) (i : ℕ) (g : FileId) → i < length fs → g ≡ get_or fs i g
    → list_any p (take (i + 1) fs) ≡ (list_any p (take i fs) || p g)
asked_of_more p fs i g lt is =
    ap (list_any p) (take_more fs i g lt ∙ ap (λ (x : FileId). take i fs ++ x ∷ []) (sym is))
    ∙ list_any-append p (take i fs) (g ∷ [])
    ∙ ap (λ (b : Bool). list_any p (take i fs) || b) (or-false (p g))

pub one_file_more : (before after : BTreeMap FileKey (Option (ℕ × ℕ))) (fs : List FileId) (i : ℕ) (g f : FileId) (key : FileKey) → i < length fs → g ≡ get_or fs i g → key ≡ key_of g
    → get key_cmp after (key_of f) ≡ cond (is_at (key_cmp key) (key_of f)) (Some None) (get key_cmp before (key_of f))
    → noted_in before f ≡ known_if (is_asked (take i fs) f) None → noted_in after f ≡ known_if (is_asked (take (i + 1) fs) f) None
one_file_more before after fs i g f key lt is key_is updates noted =
    updates
    ∙ ap (λ (k : FileKey). cond (is_at (key_cmp k) (key_of f)) (Some None) (noted_in before f)) key_is
    ∙ ap (λ (b : Bool). cond b (Some None) (noted_in before f)) (key_told f g)
    ∙ ap (λ (o : Option (Option (ℕ × ℕ))). cond (file_eq g f) (Some None) o) noted
    ∙ by (is_asked (take i fs) f) (file_eq g f)
    ∙ ap (λ (b : Bool). known_if b None) (sym (asked_of_more (λ (x : FileId). file_eq x f) fs i g lt is))
  where
    by : (a b : Bool) → cond b (Some None) (known_if a None) ≡ known_if (a || b) None
    by true true = refl
    by true false = refl
    by false true = refl
    by false false = refl

-- ---- one file

-- what a look-up by the key of a file found tells what is noted of that one
pub missing_told : (lasts : BTreeMap FileKey (Option (ℕ × ℕ))) (f : FileId) (key : FileKey) (o : Option (Option (ℕ × ℕ))) → key ≡ key_of f → o ≡ get_by (key_cmp key) lasts
    → is_missing o ≡ is_missing (noted_in lasts f)
missing_told lasts f key o key_is is = ap is_missing (is ∙ ap (λ (k : FileKey). get_by (key_cmp k) lasts) key_is)

pub found_told : (lasts : BTreeMap FileKey (Option (ℕ × ℕ))) (f : FileId) (key : FileKey) (o : Option (Option (ℕ × ℕ))) → key ≡ key_of f → o ≡ get_by (key_cmp key) lasts
    → found_in o ≡ found_in (noted_in lasts f)
found_told lasts f key o key_is is = ap found_in (is ∙ ap (λ (k : FileKey). get_by (key_cmp k) lasts) key_is)

missing_is : (o : Option (Option (ℕ × ℕ))) → is_missing o ≡ true → o ≡ Some None
missing_is None is = absurd (true≢false (sym is))
missing_is (Some None) is = refl
missing_is (Some (Some last)) is = absurd (true≢false (sym is))

stays : (last : ℕ × ℕ) (o : Option (Option (ℕ × ℕ))) → is_missing o ≡ false → o ≡ noting true last o
stays last None is = refl
stays last (Some None) is = absurd (true≢false is)
stays last (Some (Some newer)) is = refl

pub first_noted : (before after : BTreeMap FileKey (Option (ℕ × ℕ))) (g f : FileId) (key : FileKey) (last : ℕ × ℕ) → key ≡ key_of g → is_missing (noted_in before g) ≡ true
    → get key_cmp after (key_of f) ≡ cond (is_at (key_cmp key) (key_of f)) (Some (Some last)) (get key_cmp before (key_of f))
    → noted_in after f ≡ noting (file_eq f g) last (noted_in before f)
first_noted before after g f key last key_is missing updates =
    updates
    ∙ ap (λ (k : FileKey). cond (is_at (key_cmp k) (key_of f)) (Some (Some last)) (noted_in before f)) key_is
    ∙ ap (λ (b : Bool). cond b (Some (Some last)) (noted_in before f)) (key_told f g ∙ file_symm g f)
    ∙ by (file_eq f g) refl
  where
    by : (b : Bool) → file_eq f g ≡ b → cond b (Some (Some last)) (noted_in before f) ≡ noting b last (noted_in before f)
    by true is = sym (ap (noting true last) (ap (noted_in before) (same_file f g is) ∙ missing_is (noted_in before g) missing))
    by false is = refl

pub none_noted : (lasts : BTreeMap FileKey (Option (ℕ × ℕ))) (g f : FileId) (last : ℕ × ℕ) → is_missing (noted_in lasts g) ≡ false
    → noted_in lasts f ≡ noting (file_eq f g) last (noted_in lasts f)
none_noted lasts g f last there = by (file_eq f g) refl
  where
    by : (b : Bool) → file_eq f g ≡ b → noted_in lasts f ≡ noting b last (noted_in lasts f)
    by true is = stays last (noted_in lasts f) (ap (λ (x : FileId). is_missing (noted_in lasts x)) (same_file f g is) ∙ there)
    by false is = refl

-- ---- the operations of a batch

twice : (a b : Bool) (last : ℕ × ℕ) (o : Option (Option (ℕ × ℕ))) → noting b last (noting a last o) ≡ noting (a || b) last o
twice false b last o = refl
twice true false last o = refl
twice true true last None = refl
twice true true last (Some None) = refl
twice true true last (Some (Some newer)) = refl

pub one_operation_more : (before so_far after : FoundChanges) (last : ℕ × ℕ) (ops : List Op) (i : ℕ) (op : Op) → i < length ops → op ≡ get_or ops i op
    → Notes (λ (f : FileId). list_any (changes_bytes f) (take i ops)) last before so_far → Notes (λ (f : FileId). changes_bytes f op) last so_far after
    → Notes (λ (f : FileId). list_any (changes_bytes f) (take (i + 1) ops)) last before after
one_operation_more before so_far after last ops i op lt is those notes = λ f.
    let any : List Op → Bool = list_any (changes_bytes f) in
    let one_more : any (take (i + 1) ops) ≡ (any (take i ops) || changes_bytes f op) =
    ap any (take_more ops i op lt ∙ ap (λ (x : Op). take i ops ++ x ∷ []) (sym is))
    ∙ list_any-append (changes_bytes f) (take i ops) (op ∷ [])
    ∙ ap (λ (b : Bool). any (take i ops) || b) (or-false (changes_bytes f op)) in
    notes f
    ∙ ap (noting (changes_bytes f op) last) (those f)
    ∙ twice (any (take i ops)) (changes_bytes f op) last (noted_of before f)
    ∙ ap (λ (b : Bool). noting b last (noted_of before f)) (sym one_more)

-- the first one, and those behind it
pub batch_noted : (before so_far after : FoundChanges) (last : ℕ × ℕ) (ops : List Op) (first : Op) (more : List Op) → ops ≡ first ∷ more
    → Notes (λ (f : FileId). changes_bytes f first) last before so_far → Notes (λ (f : FileId). list_any (changes_bytes f) more) last so_far after
    → Notes (λ (f : FileId). list_any (changes_bytes f) ops) last before after
batch_noted before so_far after last ops first more is notes those = λ f.
    those f
    ∙ ap (noting (list_any (changes_bytes f) more) last) (notes f)
    ∙ twice (changes_bytes f first) (list_any (changes_bytes f) more) last (noted_of before f)
    ∙ ap (λ (os : List Op). noting (list_any (changes_bytes f) os) last (noted_of before f)) (sym is)

-- a change that was read without the bytes of its writes
pub change_read : (before after : FoundChanges) (last : ℕ × ℕ) (c read : Change) → read ≡ without_bytes c
    → Notes (λ (f : FileId). does_change f read) last before after → Notes (λ (f : FileId). does_change f c) last before after
change_read before after last c read is notes = λ f.
    notes f ∙ ap (λ (b : Bool). noting b last (noted_of before f)) (ap (does_change f) is ∙ does_so f c)

-- a change of one operation
pub lone_noted : (before after : FoundChanges) (last : ℕ × ℕ) (c : Change) (g : FileId) → ((f : FileId) → does_change f c ≡ file_eq f g)
    → Notes (λ (f : FileId). file_eq f g) last before after → Notes (λ (f : FileId). does_change f c) last before after
lone_noted before after last c g one notes = λ f. notes f ∙ ap (λ (b : Bool). noting b last (noted_of before f)) (sym (one f))

pub if_ok : {A E : Type 0} {P Q : Type 0} (r : Result A E) → (P → Q) → OnOk r P → OnOk r Q
if_ok (Ok a) so p = so p
if_ok (Err e) so p = p

-- ---- the entries of a history, from the newest

-- what is noted of a file, where those with that index and behind it were
abbrev pub noted_from : List Entry → List FileId → ℕ → FileId → Option (Option (ℕ × ℕ))
noted_from h fs i f = known_if (is_asked fs f) (last_from (i + 1) h f (drop i h))

-- ---- all of them

map_alike : (fs : List FileId) (all : FileId → Bool) (x y : FileId → Option (ℕ × ℕ)) → ((f : FileId) → is_asked fs f ≡ true → all f ≡ true) → ((f : FileId) → all f ≡ true → x f ≡ y f) → map x fs ≡ map y fs
map_alike [] all x y part same = refl
map_alike (g ∷ fs) all x y part same =
    ap (λ (o : Option (ℕ × ℕ)). o ∷ map x fs) (same g (part g (ap (λ (b : Bool). b || is_asked fs g) (file_refl g))))
    ∙ ap (λ (os : List (Option (ℕ × ℕ))). y g ∷ os) (map_alike fs all x y (λ f is. part f (ap (λ (b : Bool). file_eq g f || b) is ∙ or-true (file_eq g f))) same)

pub all_noted : (h : List Entry) (fs : List FileId) (found : FoundChanges) (i : ℕ) → i ≡ 0 → ((f : FileId) → noted_of found f ≡ noted_from h fs i f) → map (found_of found) fs ≡ map (last_change h) fs
all_noted h fs found i none noted =
    map_alike fs (is_asked fs) (found_of found) (last_change h) (λ f is. is)
    (λ f is. ap found_in (noted f ∙ ap (λ (k : ℕ). noted_from h fs k f) none ∙ ap (λ (b : Bool). known_if b (last_change h f)) is))
