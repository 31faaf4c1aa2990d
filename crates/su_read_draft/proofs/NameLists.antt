-- Paths are read name by name, and spelled one way.
use Rattle.std.proofs.Common.{◌≡◌, ℕ, ◌+◌, ◌<◌, ◌≤◌, true, false, List, [], ◌∷◌, ◌++◌, length, get_or, take, map, Bor, Ok, Err, refl, sym, ap, ◌∙◌}
use Rattle.std.specs.List.{list_all}
use Rattle.std.proofs.lemmas.List.{take_all, take_more, length-map, get_or-map}
use Rattle.std.proofs.lemmas.List.Folds.{list_all_at, list_all-append}
use Rattle.su_bytes.specs.Name.{is_name}
use Rattle.su_bytes.specs.declared.refusals.Refusal.TheVariants.{BadPath}
use Rattle.su_node.specs.Name.{Name}
use Rattle.su_draft.specs.Path.{NamedPath, below, last_named, with_name, all_names}

named : (y : Name) (ys : List Name) (x : Name) → last_named y (ys ++ x ∷ []) ≡ record { directory = y ∷ ys; name = x }
named y [] x = refl
named y (z ∷ zs) x = ap (below y) (named z zs x)

-- the last name is the last one
pub with_name-last : (front : List Name) (x : Name) → with_name (front ++ x ∷ []) ≡ Ok (record { directory = front; name = x })
unfolding with_name
with_name-last [] x = refl
with_name-last (y ∷ ys) x = ap (λ (p : NamedPath). Ok p) (named y ys x)

pub with_name-root : with_name [] ≡ Err BadPath
unfolding with_name
with_name-root = refl

-- pieces that were read one after another
pub all_names-ok : (pieces names : List Name) (i : ℕ) → length pieces ≤ i → names ≡ take i pieces → list_all is_name names ≡ true → all_names pieces ≡ Ok names
unfolding all_names
all_names-ok pieces names i h e good =
    let whole : pieces ≡ names = sym (e ∙ take_all i pieces h) in
    rw (whole, good) refl

-- a piece that is no name
pub all_names-bad : (pieces : List Name) (i : ℕ) (d : Name) → i < length pieces → is_name (get_or pieces i d) ≡ false → all_names pieces ≡ Err BadPath
unfolding all_names
all_names-bad pieces i d h bad = rw (list_all_at is_name pieces i d h bad) refl

-- the same, of pieces that are lent
pub pieces-ok : (pieces : List (Bor (List ℕ))) (names : List Name) (i : ℕ) → length pieces ≤ i → (names ≡ take i (map (λ piece. piece.now) pieces)) × (list_all is_name names ≡ true)
    → all_names (map (λ piece. piece.now) pieces) ≡ Ok names
pieces-ok pieces names i h k = all_names-ok (map (λ piece. piece.now) pieces) names i (rw length-map h) k.0 k.1

pub pieces-bad : (pieces : List (Bor (List ℕ))) (i : ℕ) (d : Bor (List ℕ)) → i < length pieces → is_name (get_or pieces i d).now ≡ false → all_names (map (λ piece. piece.now) pieces) ≡ Err BadPath
pieces-bad pieces i d h bad = all_names-bad (map (λ piece. piece.now) pieces) i d.now (rw length-map h) (ap is_name (get_or-map (λ piece. piece.now) pieces i d d.now h) ∙ bad)

-- one more piece is a name
pub pieces-more : (pieces : List (Bor (List ℕ))) (names more : List Name) (x : Name) (i : ℕ) (d : Bor (List ℕ)) → i < length pieces → more ≡ names ++ x ∷ [] → x ≡ (get_or pieces i d).now → is_name (get_or pieces i d).now ≡ true
    → (names ≡ take i (map (λ piece. piece.now) pieces)) × (list_all is_name names ≡ true)
    → (more ≡ take (i + 1) (map (λ piece. piece.now) pieces)) × (list_all is_name more ≡ true)
pieces-more pieces names more x i d h e same good k =
    let texts = map (λ (piece : Bor (List ℕ)). piece.now) pieces in
    let one : get_or texts i d.now ≡ x = get_or-map (λ piece. piece.now) pieces i d d.now h ∙ sym same in
    let longer : take (i + 1) texts ≡ take i texts ++ get_or texts i d.now ∷ [] = take_more texts i d.now (rw length-map h) in
    let is : is_name x ≡ true = ap is_name same ∙ good in (
      e ∙ ap (λ (xs : List Name). xs ++ x ∷ []) k.0 ∙ ap (λ (y : Name). take i texts ++ y ∷ []) (sym one) ∙ sym longer,
      ap (list_all is_name) e ∙ list_all-append is_name names (x ∷ []) ∙ rw (k.1, is) refl,
    )
