-- What the files of a vault were found with, as it is taken up.
use Rattle.std.proofs.Common.{◌≡◌, ◌≤◌, ◌<◌, ◌+◌, ℕ, zero, suc, List, [], ◌∷◌, ◌++◌, length, drop, slice_get, Option, None, Some, Result, Ok, Err, OnOk, OnErr, refl, sym, ap, subst, ◌∙◌, append_assoc, arith}
use Rattle.std.proofs.lemmas.List.{append-nil}
use Rattle.std.specs.List.{All, AllZip}
use Rattle.su_keeper.specs.Kept.{first_found, LeavesFound}
use Rattle.su_vault.specs.Records.{KeepsFound, FindsNext, TakesFound}
use Rattle.su_vault.specs.declared.volumes.Volume.{Ghosts}
use Rattle.su_store_files.specs.Volumes.{in_turn, FindsInTurn, AreClean, IsThrough}
use Rattle.su_store_files.specs.declared.volumes.Volumes.{Volumes}

pub on_both : {T E : Type 0} {P Q R : Type 0} (r : Result T E) → (P → Q → R) → OnOk r P → OnOk r Q → OnOk r R
on_both (Ok x) on p q = on p q
on_both (Err e) on p q = tt

pub drop_all : {X : Type 0} (xs : List X) (n : ℕ) → length xs ≤ n → drop n xs ≡ []
drop_all [] zero long = refl
drop_all [] (suc n) long = refl
drop_all (x ∷ xs) zero long = absurd (omega (arith, long))
drop_all (x ∷ xs) (suc n) long = drop_all xs n (omega (arith, long))

pub drop_at : {X : Type 0} (xs : List X) (n : ℕ) (x : X) → slice_get xs n ≡ Some x → drop n xs ≡ x ∷ drop (suc n) xs
drop_at [] n x at = absurd cc
drop_at (y ∷ ys) zero x at = let same : y ≡ x = cc in ap (λ z. z ∷ ys) same
drop_at (y ∷ ys) (suc n) x at = drop_at ys n x at

-- the first of what is left, where nothing comes behind unless something is left
pub first_left : (own more : List (List ℕ)) (n : ℕ) → (length own ≤ n → more ≡ []) → slice_get own n ≡ first_found (drop n own ++ more)
first_left [] more zero none = ap first_found (sym (none (omega arith)))
first_left [] more (suc n) none = ap first_found (sym (none (omega arith)))
first_left (x ∷ own) more zero none = refl
first_left (x ∷ own) more (suc n) none = first_left own more n (λ long. none (omega (arith, long)))

pub in_turn_last : (lists : List (List (List ℕ))) (list : List (List ℕ)) → in_turn (lists ++ list ∷ []) ≡ list ++ in_turn lists
in_turn_last [] list = sym (append-nil list)
in_turn_last (x ∷ lists) list = ap (λ l. l ++ x) (in_turn_last lists list) ∙ append_assoc list (in_turn lists) x

pub record Last {A B : Type 0} (R : A → B → Type 0) (xs : List A) (x : A) (ys : List B) : Type 0 where
  pub others : List B
  pub last : B
  pub split : ys ≡ others ++ last ∷ []
  pub all : AllZip R xs others
  pub one : R x last

pub all_zip_last : {A B : Type 0} (R : A → B → Type 0) (xs : List A) (x : A) (ys : List B) → AllZip R (xs ++ x ∷ []) ys → Last R xs x ys
all_zip_last R [] x [] all = absurd all
all_zip_last R [] x (y ∷ []) all = record { others = []; last = y; split = refl; all = tt; one = all.0 }
all_zip_last R [] x (y ∷ z ∷ ys) all = absurd all.1
all_zip_last R (w ∷ xs) x [] all = absurd all
all_zip_last R (w ∷ xs) x (y ∷ ys) all =
    let it = all_zip_last R xs x ys all.1 in
    record { others = y ∷ it.others; last = it.last; split = ap (λ l. y ∷ l) it.split; all = (all.0, it.all); one = it.one }

pub all_zip_none : {A B : Type 0} (R : A → B → Type 0) (ys : List B) → AllZip R [] ys → ys ≡ []
all_zip_none R [] all = refl
all_zip_none R (y ∷ ys) all = absurd all

pub all_snoc : {A : Type 0} (P : A → Type 0) (xs : List A) (x : A) → All P xs → P x → All P (xs ++ x ∷ [])
all_snoc P [] x all one zero d lt = one
all_snoc P [] x all one (suc k) d lt = absurd (omega (arith, lt))
all_snoc P (y ∷ xs) x all one zero d lt = all zero d (omega arith)
all_snoc P (y ∷ xs) x all one (suc k) d lt = all_snoc P xs x (λ j e less. all (suc j) e (omega (arith, less))) one k d (omega (arith, lt))

pub leaves_of : {X Y : Type 0} (finds : X → List (List ℕ) → Type 0) (of : Y → X) (y : Y) (commit : List ℕ) (rest : List (List ℕ)) → LeavesFound finds commit rest (of y) → LeavesFound (λ v. finds (of v)) commit rest y
leaves_of finds of y commit [] leaves = leaves
leaves_of finds of y commit (first ∷ rest) leaves = leaves

pub through_either : {F E : Type 0} (g : Ghosts F E) (w : Volumes F E) (shut file : F) (kept : ℕ) {A B : Type 0} (r : Result A B) → g.count file ≡ 0 → g.count shut ≡ 0
    → OnOk r ((w.current ≡ file) × (w.kept ≡ 0)) → OnErr r ((w.current ≡ shut) × (w.kept ≡ kept)) → IsThrough g w
through_either g w shut file kept (Ok x) empty none now old = omega (arith, ap g.count now.0, empty)
through_either g w shut file kept (Err e) empty none now old = omega (arith, ap g.count old.0, none)

module _ {F E : Type 0} (g : Ghosts F E) (counted : (f : F) (commits : List (List ℕ)) → g.is_clean f → g.shows f commits → length commits ≡ g.count f) where
  -- the next of the later files takes the place of the current one, of which all stand in the book
  pub advances : (v w : Volumes F E) (shut next opened : F) (others : List F)
      → g.count v.current ≤ v.kept → (g.is_clean shut → g.is_clean v.current) → v.later.items ≡ others ++ next ∷ []
      → ((commits : List (List ℕ)) → g.was_found next commits → g.shows opened commits) → (g.is_clean opened → g.is_clean next)
      → w.later.items ≡ others → (w.current ≡ opened) × (w.kept ≡ 0)
      → (All g.is_clean w.past.places.items → All g.is_clean v.past.places.items × g.is_clean shut)
      → KeepsFound (AreClean g) (FindsInTurn g) v w
  advances v w shut next opened others through before behind found anew later now past clean =
      let was = past clean.past in
      let last : g.is_clean next = anew (subst g.is_clean now.0 clean.current) in
      let current : g.is_clean v.current = before was.1 in (
        record {
          past = was.0;
          current = current;
          later = subst (All g.is_clean) (sym behind) (all_snoc g.is_clean others next (subst (All g.is_clean) later clean.later) last);
        },
        λ rest finds.
            let it = all_zip_last g.was_found others next finds.lists (subst (λ l. AllZip g.was_found l finds.lists) behind finds.later) in
            let long : length finds.own ≤ v.kept = omega (arith, counted v.current finds.own current finds.shown, through) in
            record {
              own = it.last;
              lists = it.others;
              split =
                  finds.split ∙ ap (λ l. l ++ in_turn finds.lists) (drop_all finds.own v.kept long) ∙ ap in_turn it.split ∙ in_turn_last it.others it.last
                  ∙ ap (λ n. drop n it.last ++ in_turn it.others) (sym now.1);
              shown = subst (λ f. g.shows f it.last) (sym now.0) (found it.last it.one);
              later = subst (λ l. AllZip g.was_found l it.others) (sym later) it.all;
            },
      )

  -- a new file takes the place of the last one, of which all stand in the book
  pub begins_new : (v w : Volumes F E) (shut file : F)
      → g.count v.current ≤ v.kept → v.later.items ≡ [] → (g.is_clean shut → g.is_clean v.current) → g.shows file []
      → w.later.items ≡ [] → (w.current ≡ file) × (w.kept ≡ 0)
      → (All g.is_clean w.past.places.items → All g.is_clean v.past.places.items × g.is_clean shut)
      → KeepsFound (AreClean g) (FindsInTurn g) v w
  begins_new v w shut file through none before empty later now past clean =
      let was = past clean.past in
      let current : g.is_clean v.current = before was.1 in (
        record {
          past = was.0;
          current = current;
          later = subst (All g.is_clean) (later ∙ sym none) clean.later;
        },
        λ rest finds.
            let long : length finds.own ≤ v.kept = omega (arith, counted v.current finds.own current finds.shown, through) in
            let no_lists : finds.lists ≡ [] = all_zip_none g.was_found finds.lists (subst (λ l. AllZip g.was_found l finds.lists) none finds.later) in
            let all : rest ≡ [] = finds.split ∙ ap (λ l. l ++ in_turn finds.lists) (drop_all finds.own v.kept long) ∙ ap in_turn no_lists in
            record {
              own = [];
              lists = [];
              split = all ∙ sym (ap (λ l. l ++ []) (drop_all {X = List ℕ} [] w.kept (omega arith)));
              shown = subst (λ f. g.shows f []) (sym now.0) empty;
              later = subst (λ l. AllZip g.was_found l []) (sym later) tt;
            },
      )

  -- the record that is read is the first that was found, if there is one
  pub finds_next : (v : Volumes F E) (file : F) (next : Option (List ℕ)) → (IsThrough g v → v.later.items ≡ [])
      → ((commits : List (List ℕ)) → g.shows v.current commits → g.is_clean file → next ≡ slice_get commits v.kept)
      → ((commits : List (List ℕ)) → g.shows v.current commits → g.shows file commits) → (g.is_clean file → g.is_clean v.current)
      → FindsNext (AreClean g) (FindsInTurn g) v next (record v { current = file })
  finds_next v file next last at shown before clean =
      let current : g.is_clean v.current = before clean.current in (
        record { past = clean.past; current = current; later = clean.later },
        λ rest finds.
            let none : length finds.own ≤ v.kept → in_turn finds.lists ≡ [] = λ long.
            let empty : v.later.items ≡ [] = last (omega (arith, long, counted v.current finds.own current finds.shown)) in
            ap in_turn (all_zip_none g.was_found finds.lists (subst (λ l. AllZip g.was_found l finds.lists) empty finds.later)) in (
              at finds.own finds.shown clean.current ∙ first_left finds.own (in_turn finds.lists) v.kept none ∙ ap first_found (sym finds.split),
              record { own = finds.own; lists = finds.lists; split = finds.split; shown = shown finds.own finds.shown; later = finds.later },
            ),
      )

  -- the next record of the current file stands in the book now
  pub takes_next : (v : Volumes F E) (file : F) (kept : ℕ) (commit : List ℕ) → kept ≡ v.kept + 1
      → ((commits : List (List ℕ)) → g.shows v.current commits → g.is_clean file → slice_get commits v.kept ≡ Some commit)
      → ((commits : List (List ℕ)) → g.shows v.current commits → g.shows file commits) → (g.is_clean file → g.is_clean v.current)
      → TakesFound (AreClean g) (FindsInTurn g) v commit (record v { current = file; kept = kept })
  takes_next v file kept commit one at shown before clean = (
    record { past = clean.past; current = before clean.current; later = clean.later },
    λ rest finds.
        let first : drop v.kept finds.own ≡ commit ∷ drop (suc v.kept) finds.own = drop_at finds.own v.kept commit (at finds.own finds.shown clean.current) in
        let next : kept ≡ suc v.kept = omega (arith, one) in
        let split : rest ≡ commit ∷ (drop kept finds.own ++ in_turn finds.lists) =
        finds.split ∙ ap (λ l. l ++ in_turn finds.lists) first ∙ ap (λ n. commit ∷ (drop n finds.own ++ in_turn finds.lists)) (sym next) in
        subst (λ r. LeavesFound (FindsInTurn g) commit r (record v { current = file; kept = kept })) (sym split)
        (refl, record { own = finds.own; lists = finds.lists; split = refl; shown = shown finds.own finds.shown; later = finds.later }),
  )

  -- a record is put behind all
  pub takes_new : (v : Volumes F E) (file : F) (kept : ℕ) (commit : List ℕ) → g.count v.current ≤ v.kept → v.later.items ≡ [] → kept ≡ g.count file
      → ((commits : List (List ℕ)) → g.shows v.current commits → g.shows file (commits ++ commit ∷ [])) → (g.is_clean file → g.is_clean v.current)
      → TakesFound (AreClean g) (FindsInTurn g) v commit (record v { current = file; kept = kept })
  takes_new v file kept commit through none len shown before clean =
      let current : g.is_clean v.current = before clean.current in (
        record { past = clean.past; current = current; later = clean.later },
        λ rest finds.
            let long : length finds.own ≤ v.kept = omega (arith, counted v.current finds.own current finds.shown, through) in
            let no_lists : finds.lists ≡ [] = all_zip_none g.was_found finds.lists (subst (λ l. AllZip g.was_found l finds.lists) none finds.later) in
            let all : rest ≡ [] = finds.split ∙ ap (λ l. l ++ in_turn finds.lists) (drop_all finds.own v.kept long) ∙ ap in_turn no_lists in
            let more = shown finds.own finds.shown in
            let whole : length (finds.own ++ commit ∷ []) ≤ kept = omega (arith, counted file (finds.own ++ commit ∷ []) clean.current more, len) in
            subst (λ r. LeavesFound (FindsInTurn g) commit r (record v { current = file; kept = kept })) (sym all)
            (record { own = finds.own ++ commit ∷ []; lists = []; split = sym (ap (λ l. l ++ []) (drop_all (finds.own ++ commit ∷ []) kept whole)); shown = more; later = subst (λ l. AllZip g.was_found l []) (sym none) tt }),
      )
