-- A path is read as the names that it spells.
use Rattle.std.proofs.Common.{◌≡◌, ℕ, Bool, true, false, cond, nat_eq, nat_lt, not, ◌&&◌, List, [], ◌∷◌, All, Result, Ok, Err, refl, sym, ap, subst, ◌∙◌}
use Rattle.std.specs.List.{AllPass, list_all, join_with_byte}
use Rattle.std.proofs.lemmas.Bool.{eqb-true}
use Rattle.std.proofs.lemmas.List.Elements.{All-cons, All-nil}
use Rattle.std.proofs.lemmas.List.Splits.{join_with_byte-slice_split, slice_split_none, slice_split_at}
use Rattle.std.proofs.lemmas.List.Sums.{AllPass-from_list_all, list_all-from_AllPass}
use Rattle.su_bytes.specs.Name.{is_name, is_name_byte}
use Rattle.su_bytes.specs.declared.refusals.Refusal.{Refusal}
use Rattle.su_bytes.specs.declared.refusals.Refusal.TheVariants.{BadPath}
use Rattle.su_node.specs.Name.{Name}
use Rattle.su_draft.specs.Path.{IsPath, is_slash, pieces_of, all_names, names_behind, path_names}

ok_is : (xs ys : List Name) (a : Result (List Name) Refusal) → a ≡ Ok xs → a ≡ Ok ys → xs ≡ ys
ok_is xs ys a e f = cc

-- ---- what is read is spelled so

read_all : (b : Bool) (pieces names : List Name) → list_all is_name pieces ≡ b → cond b (Ok pieces) (Err BadPath) ≡ Ok names → AllPass is_name names × (pieces ≡ names)
read_all true pieces names e h =
    let same : pieces ≡ names = ok_is pieces names (Ok pieces) refl h in
    (subst (λ (xs : List Name). AllPass is_name xs) same (AllPass-from_list_all is_name pieces e), same)
read_all false pieces names e h = absurd cc

read_behind : (bytes : List ℕ) (names : List Name) → names_behind bytes ≡ Ok names → AllPass is_name names × (join_with_byte 47 names ≡ bytes)
unfolding all_names
read_behind [] names h =
    let same : [] ≡ names = ok_is [] names (Ok []) refl h in
    (subst (λ (xs : List Name). AllPass is_name xs) same (All-nil (λ x. is_name x ≡ true)), ap (join_with_byte 47) (sym same))
read_behind (c ∷ bytes) names h =
    let k = read_all (list_all is_name (pieces_of (c ∷ bytes))) (pieces_of (c ∷ bytes)) names refl h in
    (k.0, ap (join_with_byte 47) (sym k.1) ∙ join_with_byte-slice_split 47 (c ∷ bytes))

read_first : (b : Bool) (c : ℕ) (bytes : List ℕ) (names : List Name) → is_slash c ≡ b → cond b (names_behind bytes) (Err BadPath) ≡ Ok names → IsPath (c ∷ bytes) names
read_first true c bytes names e h =
    let k = read_behind bytes names h in
    record { are_names = k.0; spelled = ap (λ (n : ℕ). n ∷ bytes) (eqb-true c 47 e) ∙ ap (λ (bs : List ℕ). 47 ∷ bs) (sym k.1) }
read_first false c bytes names e h = absurd cc

pub read_spelled : (bytes : List ℕ) (names : List Name) → path_names bytes ≡ Ok names → IsPath bytes names
unfolding path_names
read_spelled [] names h = absurd cc
read_spelled (c ∷ bytes) names h = read_first (is_slash c) c bytes names refl h

-- ---- what is spelled so is read

pub and_both : (a b : Bool) → (a && b) ≡ true → (a ≡ true) × (b ≡ true)
and_both true true h = (refl, refl)
and_both true false h = absurd cc
and_both false b h = absurd cc

pub not_true : (b : Bool) → not b ≡ true → b ≡ false
not_true true h = absurd cc
not_true false h = refl

no_slash : (bytes : List ℕ) → list_all is_name_byte bytes ≡ true → All (λ b. is_slash b ≡ false) bytes
no_slash [] h = All-nil (λ b. is_slash b ≡ false)
no_slash (b ∷ bytes) h =
    let k = and_both (is_name_byte b) (list_all is_name_byte bytes) h in
    let other : is_slash b ≡ false = not_true (is_slash b) (and_both (nat_lt b 256 && not (nat_eq b 0)) (not (nat_eq b 47)) k.0).1 in
    All-cons (λ n. is_slash n ≡ false) b bytes other (no_slash bytes k.1)

name_bytes : (x : Name) → is_name x ≡ true → list_all is_name_byte x ≡ true
name_bytes x h = (and_both _ (list_all is_name_byte x) h).1

pieces_join : (x : Name) (xs : List Name) → list_all is_name (x ∷ xs) ≡ true → pieces_of (join_with_byte 47 (x ∷ xs)) ≡ x ∷ xs
pieces_join x [] h =
    slice_split_none is_slash x (no_slash x (name_bytes x (and_both (is_name x) true h).0))
pieces_join x (y ∷ ys) h =
    let k = and_both (is_name x) (list_all is_name (y ∷ ys)) h in
    slice_split_at is_slash x 47 (join_with_byte 47 (y ∷ ys)) (no_slash x (name_bytes x k.0)) refl ∙ ap (λ (xs : List Name). x ∷ xs) (pieces_join y ys k.1)

join_some : (x : Name) (xs : List Name) → is_name x ≡ true → join_with_byte 47 (x ∷ xs) ≡ [] → ⊥
join_some [] xs h e = absurd cc
join_some (c ∷ x) [] h e = absurd cc
join_some (c ∷ x) (y ∷ ys) h e = absurd cc

behind_some : (bytes : List ℕ) → (bytes ≡ [] → ⊥) → names_behind bytes ≡ all_names (pieces_of bytes)
behind_some [] h = absurd (h refl)
behind_some (c ∷ bytes) h = refl

spelling_read : (names : List Name) → list_all is_name names ≡ true → path_names (47 ∷ join_with_byte 47 names) ≡ Ok names
unfolding path_names all_names
spelling_read [] h = refl
spelling_read (x ∷ xs) h =
    behind_some (join_with_byte 47 (x ∷ xs)) (join_some x xs (and_both (is_name x) (list_all is_name xs) h).0)
    ∙ ap all_names (pieces_join x xs h)
    ∙ ap (λ b. cond b (Ok (x ∷ xs)) (Err BadPath)) h

pub spelled_read : (bytes : List ℕ) (names : List Name) → IsPath bytes names → path_names bytes ≡ Ok names
spelled_read bytes names p =
    ap path_names p.spelled ∙ spelling_read names (list_all-from_AllPass is_name names p.are_names)
