-- What a file keeps as it is opened and read, as records are counted and appended, as a block is held,
-- and as it is shut.
use Rattle.std.proofs.Common.{◌≡◌, ◌≤◌, IsTrue, Result, Ok, Err, OnOk, OnErr, IfOk, IfSome, Option, None, option_map, map, inl, inr, ℕ, zero, suc, ◌+◌, List, [], ◌∷◌, ◌++◌, length, take, slice_get, Some, refl, sym, ap, subst, ◌∙◌, arith}
use Rattle.std.proofs.Math.Logic.{∥∥₁_elim}
use Rattle.sqlite_disk.specs.declared.Disk.{Ghosts}
use Rattle.sqlite.specs.declared.FileStore.{FileStore}
use Rattle.sqlite.specs.Recovery.{Image}
use Rattle.sqlite.specs.Tree.{Trees}
use Rattle.sqlite_trees.specs.Props.{Trees-set}
use Rattle.sqlite.specs.Effect.{Database}
use Rattle.sqlite.specs.State.{HasCleanDisk, Survives}
use Rattle.sqlite.specs.Files.{file_state, over_files, HoldsDatabase}
use Rattle.su_store.specs.Kept.{Kept, nothing, with_block, with_record}
use Rattle.su_store.specs.Tables.{Stands}
use Rattle.su_store.specs.Changes.{Extends, HoldsBlock, Keeps, LeavesBlock}
use Rattle.su_store.specs.Lookups.{IsRecord}
use Rattle.su_store.specs.Files.{File, IsAtRest}
use Rattle.su_keeper.specs.Kept.{KeptRecord}
use Rattle.su_vault.specs.Records.{commits_of, found_alone, kept_with, with_item}
use Rattle.su_places.specs.Places.{KeepsAll, IsShut}
use Rattle.su_places.specs.Current.{HasRecords, HoldsRecords, Begins, Counts, Shows, WasFound, count_of}
use Rattle.su_places.proofs.BesideLemmas.{beside_block, beside_blocks, beside_more, beside_found, beside_with, commits_more, commits_with}
use Rattle.std.specs.Global.{Vec}
use Rattle.su_places.specs.Laws.{take_whole, counts_begin, tables_shown}
use Rattle.su_store.specs.declared.shut_files.ShutFile.{ShutFile}
use Rattle.su_places.specs.declared.places.Place.{Place}
use Rattle.su_places.specs.declared.places.Place.TheVariants.{Open, Shut, Unopened, Unshut, Away}

-- the element behind the first ones
take_suc : {X : Type 0} (xs : List X) (i : ℕ) (x : X) → slice_get xs i ≡ Some x → take (suc i) xs ≡ take i xs ++ x ∷ []
take_suc [] i x at = absurd cc
take_suc (y ∷ ys) zero x at = let same : y ≡ x = cc in ap (λ z. z ∷ []) same
take_suc (y ∷ ys) (suc i) x at = ap (λ l. y ∷ l) (take_suc ys i x at)

take_more : {X : Type 0} (xs : List X) (i : ℕ) (x : X) → slice_get xs i ≡ Some x → take (i + 1) xs ≡ take i xs ++ x ∷ []
take_more xs i x at = let on : i + 1 ≡ suc i = omega arith in ap (λ n. take n xs) on ∙ take_suc xs i x at

length_more : {X : Type 0} (xs : List X) (x : X) → length (xs ++ x ∷ []) ≡ length xs + 1
length_more [] x = refl
length_more (y ∷ ys) x = ap suc (length_more ys x) ∙ (omega arith)

pub always_err : {A E P : Type 0} (r : Result A E) → P → OnErr r P
always_err (Ok x) p = tt
always_err (Err e) p = p

module _ {D : Type 0} (g : Ghosts D) where
  -- a file that isn't open counts what it keeps
  pub shut_counts : (place : Place D g) (number : ℕ) (records : List KeptRecord) → IsShut place → KeepsAll g place records → Counts g place number records
  shut_counts (Open f) number records shut kept = absurd shut
  shut_counts (Shut s) number records shut kept = kept
  shut_counts (Unopened left) number records shut kept = kept
  shut_counts (Unshut it) number records shut kept = kept
  shut_counts Away number records shut kept = kept

  -- a file that isn't shut and was found shows its records
  pub open_shows : (place : Place D g) (commits : List (List ℕ)) → ((s : ShutFile D g) → place ≡ Shut s → ⊥) → WasFound g place commits → Shows g place commits
  open_shows (Open f) commits other found = found
  open_shows (Shut s) commits other found = absurd (other s refl)
  open_shows (Unopened left) commits other found = absurd found
  open_shows (Unshut it) commits other found = absurd found
  open_shows Away commits other found = absurd found

  pub shut_none : (place : Place D g) → IsShut place → count_of place ≡ 0
  shut_none (Open f) shut = absurd shut
  shut_none (Shut s) shut = refl
  shut_none (Unopened left) shut = refl
  shut_none (Unshut it) shut = refl
  shut_none Away shut = refl

  -- a file that shows no record
  pub shows_none : (f : File (FileStore D g)) → (HasCleanDisk (file_state f.held) → IsAtRest over_files f) → (HasCleanDisk (file_state f.held) → Stands nothing (file_state f.held).now.trees) → Shows g (Open f) []
  shows_none f rest fresh = tables_shown g f [] rest (λ clean. record { kept = nothing; stands = fresh clean; same = refl })

  pub starts_empty : (f : File (FileStore D g)) → (HasCleanDisk (file_state f.held) → IsAtRest over_files f) → (HasCleanDisk (file_state f.held) → Stands nothing (file_state f.held).now.trees) → (n : ℕ) → Counts g (Open f) n []
  starts_empty f rest fresh n = λ clean.
      record { kept = nothing; stands = fresh clean; counted = (rest clean).counted nothing (fresh clean); first = take_whole [] n (omega arith); beside = tt; settled = (rest clean).settled }

module _ {D : Type 0} (g : Ghosts D) (f new : File (FileStore D g)) where
  -- a call that read the file, whether it failed or not
  pub reads_begin : (records : List KeptRecord) → Survives (file_state f.held) (file_state new.held) (λ _. ⊥) → Begins g (Open f) records → Begins g (Open new) records
  reads_begin records crash begins = λ clean db may. elim (crash.crash clean db may) [
    | inl before ↦ begins (omega (arith, clean, crash.clean)) db before
    | inr none ↦ absurd none
  ]

  -- a call that read it
  reads : (number : ℕ) (records : List KeptRecord) → Survives (file_state f.held) (file_state new.held) (λ _. ⊥) → (HasCleanDisk (file_state new.held) → (file_state new.held).now ≡ (file_state f.held).now) → new.count ≡ f.count
      → Counts g (Open f) number records → Counts g (Open new) number records
  reads number records crash same count counts = λ clean.
      let step = counts (omega (arith, clean, crash.clean)) in
      let one : (file_state new.held).now.trees ≡ (file_state f.held).now.trees = ap (λ (d : Database). d.trees) (same clean) in
      record {
        kept = step.kept;
        stands = subst (Stands step.kept) (sym one) step.stands;
        counted = step.counted ∙ sym count;
        first = step.first;
        beside = step.beside;
        settled = λ db may. elim (crash.crash clean db may) [
          | inl before ↦ step.settled db before ∙ sym one
          | inr none ↦ absurd none
        ];
      }

  pub reads_or : {A E : Type 0} (r : Result A E) (number : ℕ) (records : List KeptRecord) → Survives (file_state f.held) (file_state new.held) (λ _. ⊥) → (HasCleanDisk (file_state new.held) → OnOk r ((file_state new.held).now ≡ (file_state f.held).now))
      → new.count ≡ f.count → Counts g (Open f) number records → OnOk r (Counts g (Open new) number records)
  reads_or (Ok x) number records crash same count counts = reads number records crash same count counts
  reads_or (Err e) number records crash same count counts = tt

  -- the record behind those that stand in the book may be one of them
  counts_found : (number : ℕ) (records : List KeptRecord) (commit : List ℕ) → (HasCleanDisk (file_state new.held) → IsRecord number (Some commit) (file_state f.held).now.trees)
      → (HasCleanDisk (file_state new.held) → (file_state new.held).now ≡ (file_state f.held).now) → Counts g (Open new) number records → Counts g (Open new) (number + 1) (records ++ found_alone commit ∷ [])
  counts_found number records commit is same counts = λ clean.
      let step = counts clean in
      let there = subst (λ (d : Database). IsRecord number (Some commit) d.trees) (sym (same clean)) (is clean) in
      record {
        kept = step.kept;
        stands = step.stands;
        counted = step.counted;
        first = take_more step.kept.records number commit (sym (there step.kept step.stands)) ∙ ap (λ l. l ++ commit ∷ []) step.first ∙ sym (commits_more records (found_alone commit));
        beside = beside_found records step.kept.blocks commit step.beside;
        settled = step.settled;
      }

  -- what was read of all that are shown
  pub reads_at : {A E : Type 0} (bytes : A → List ℕ) (r : Result (Option A) E) (number : ℕ) (commits : List (List ℕ)) → (HasCleanDisk (file_state new.held) → IfOk r (λ x. IsRecord number (option_map bytes x) (file_state f.held).now.trees))
      → (HasCleanDisk (file_state new.held) → HasCleanDisk (file_state f.held)) → HasCleanDisk (file_state new.held) → Shows g (Open f) commits → IfOk r (λ found. option_map bytes found ≡ slice_get commits number)
  reads_at bytes (Ok x) number commits is was clean shown =
      let has = (shown (was clean)).has in
      is clean has.kept has.stands ∙ ap (λ l. slice_get l number) has.same
  reads_at bytes (Err e) number commits is was clean shown = tt

  reads_shown : (commits : List (List ℕ)) → Survives (file_state f.held) (file_state new.held) (λ _. ⊥) → (HasCleanDisk (file_state new.held) → (file_state new.held).now ≡ (file_state f.held).now) → new.count ≡ f.count
      → Shows g (Open f) commits → Shows g (Open new) commits
  reads_shown commits crash same count shown = λ clean.
      let is = shown (omega (arith, clean, crash.clean)) in
      let one : (file_state new.held).now.trees ≡ (file_state f.held).now.trees = ap (λ (d : Database). d.trees) (same clean) in
      record {
        has = subst (HasRecords commits) (sym one) is.has;
        counted = is.counted ∙ sym count;
        settled = λ db may. elim (crash.crash clean db may) [
          | inl before ↦ is.settled db before ∙ sym one
          | inr none ↦ absurd none
        ];
      }

  pub reads_shown_or : {A E : Type 0} (r : Result A E) (place : Place D g) → place ≡ Open f → Survives (file_state f.held) (file_state new.held) (λ _. ⊥) → (HasCleanDisk (file_state new.held) → OnOk r ((file_state new.held).now ≡ (file_state f.held).now))
      → new.count ≡ f.count → OnOk r ((commits : List (List ℕ)) → Shows g place commits → Shows g (Open new) commits)
  reads_shown_or (Ok x) place is crash same count = λ commits shown. reads_shown commits crash same count (subst (λ p. Shows g p commits) is shown)
  reads_shown_or (Err e) place is crash same count = tt

  -- a call that put a record behind the others shows it
  pub appends_shown : (commits : List (List ℕ)) (record_ : List ℕ) (blocks : List (List ℕ)) → (HasCleanDisk (file_state new.held) → Keeps (Extends record_ blocks) (file_state f.held) (file_state new.held))
      → Survives (file_state f.held) (file_state new.held) (Extends record_ blocks (file_state f.held).now.trees)
      → ((db : Trees) → IsTrue (file_state new.held).is_open → (file_state new.held).may_leave db → db ≡ (file_state new.held).committed.trees)
      → new.count ≡ f.count + 1 → Shows g (Open f) commits → Shows g (Open new) (commits ++ record_ ∷ [])
  appends_shown commits record_ blocks keeps crash settled count shown = λ clean.
      let is = shown (omega (arith, clean, crash.clean)) in
      let how = keeps clean in
      let more = with_record is.has.kept record_ blocks in
      let one : (file_state new.held).now.trees ≡ (file_state new.held).committed.trees = ap (λ (d : Database). d.trees) how.same in
      record {
        has = record { kept = more; stands = subst (Stands more) (sym one) (how.kept is.has.kept is.has.stands); same = ap (λ l. l ++ record_ ∷ []) is.has.same };
        counted = length_more commits record_ ∙ (omega (arith, is.counted, count));
        settled = λ db may. settled db how.is_open may ∙ sym one;
      }

  pub found_or : {A E : Type 0} (bytes : A → List ℕ) (r : Result (Option A) E) (number : ℕ) → (HasCleanDisk (file_state new.held) → IfOk r (λ x. IsRecord number (option_map bytes x) (file_state f.held).now.trees))
      → (HasCleanDisk (file_state new.held) → OnOk r ((file_state new.held).now ≡ (file_state f.held).now))
      → IfOk r (λ found. IfSome found (λ b. (records : List KeptRecord) → Counts g (Open new) number records → Counts g (Open new) (number + 1) (records ++ found_alone (bytes b) ∷ [])))
  found_or bytes (Ok None) number is same = tt
  found_or bytes (Ok (Some b)) number is same = λ records counts. counts_found number records (bytes b) is same counts
  found_or bytes (Err e) number is same = tt

  -- a call that held a block, whether it failed or not
  pub holds_begin : (records : List KeptRecord) (block : List ℕ) → Survives (file_state f.held) (file_state new.held) (LeavesBlock block (file_state f.held)) → Begins g (Open f) records → Begins g (Open new) records
  holds_begin records block crash begins = λ clean db may.
      let was : HasCleanDisk (file_state f.held) = omega (arith, clean, crash.clean) in
      elim (crash.crash clean db may) [
        | inl before ↦ begins was db before
        | inr left ↦
            let shown = begins was (file_state f.held).now.trees left.shown in
            record { kept = record shown.kept { blocks = with_block shown.kept.blocks block }; stands = left.held shown.kept shown.stands; more = shown.more; first = shown.first; beside = beside_block records shown.kept.blocks block shown.beside }
      ]

  -- a call that held it
  holds : (number : ℕ) (records : List KeptRecord) (block : List ℕ) → (HasCleanDisk (file_state new.held) → Keeps (HoldsBlock block) (file_state f.held) (file_state new.held))
      → Survives (file_state f.held) (file_state new.held) (LeavesBlock block (file_state f.held))
      → ((db : Trees) → IsTrue (file_state new.held).is_open → (file_state new.held).may_leave db → db ≡ (file_state new.held).committed.trees)
      → new.count ≡ f.count → Counts g (Open f) number records → Counts g (Open new) number records
  holds number records block keeps crash settled count counts = λ clean.
      let step = counts (omega (arith, clean, crash.clean)) in
      let how = keeps clean in
      let more : Kept = record step.kept { blocks = with_block step.kept.blocks block } in
      let one : (file_state new.held).now.trees ≡ (file_state new.held).committed.trees = ap (λ (d : Database). d.trees) how.same in
      record {
        kept = more;
        stands = subst (Stands more) (sym one) (how.kept step.kept step.stands);
        counted = step.counted ∙ sym count;
        first = step.first;
        beside = beside_block records step.kept.blocks block step.beside;
        settled = λ db may. settled db how.is_open may ∙ sym one;
      }

  pub puts : (number : ℕ) (records : List KeptRecord) (block : List ℕ) → (HasCleanDisk (file_state new.held) → Keeps (HoldsBlock block) (file_state f.held) (file_state new.held))
      → Survives (file_state f.held) (file_state new.held) (LeavesBlock block (file_state f.held))
      → ((db : Trees) → IsTrue (file_state new.held).is_open → (file_state new.held).may_leave db → db ≡ (file_state new.held).committed.trees)
      → new.count ≡ f.count → Counts g (Open f) number records → Counts g (Open new) number (with_item block records)
  puts number records block keeps crash settled count counts = λ clean.
      let step = counts (omega (arith, clean, crash.clean)) in
      let how = keeps clean in
      let more : Kept = record step.kept { blocks = with_block step.kept.blocks block } in
      let one : (file_state new.held).now.trees ≡ (file_state new.held).committed.trees = ap (λ (d : Database). d.trees) how.same in
      record {
        kept = more;
        stands = subst (Stands more) (sym one) (how.kept step.kept step.stands);
        counted = step.counted ∙ sym count;
        first = step.first ∙ sym (commits_with block records);
        beside = beside_with block records step.kept.blocks step.beside;
        settled = λ db may. settled db how.is_open may ∙ sym one;
      }

  pub puts_or : {A E : Type 0} (r : Result A E) (number : ℕ) (records : List KeptRecord) (block : List ℕ) → (HasCleanDisk (file_state new.held) → OnOk r (Keeps (HoldsBlock block) (file_state f.held) (file_state new.held)))
      → Survives (file_state f.held) (file_state new.held) (LeavesBlock block (file_state f.held))
      → ((db : Trees) → IsTrue (file_state new.held).is_open → (file_state new.held).may_leave db → db ≡ (file_state new.held).committed.trees)
      → new.count ≡ f.count → Counts g (Open f) number records → OnOk r (Counts g (Open new) number (with_item block records))
  puts_or (Ok x) number records block keeps crash settled count counts = puts number records block keeps crash settled count counts
  puts_or (Err e) number records block keeps crash settled count counts = tt

  pub holds_or : {A E : Type 0} (r : Result A E) (number : ℕ) (records : List KeptRecord) (block : List ℕ) → (HasCleanDisk (file_state new.held) → OnOk r (Keeps (HoldsBlock block) (file_state f.held) (file_state new.held)))
      → Survives (file_state f.held) (file_state new.held) (LeavesBlock block (file_state f.held))
      → ((db : Trees) → IsTrue (file_state new.held).is_open → (file_state new.held).may_leave db → db ≡ (file_state new.held).committed.trees)
      → new.count ≡ f.count → Counts g (Open f) number records → OnOk r (Counts g (Open new) number records)
  holds_or (Ok x) number records block keeps crash settled count counts = holds number records block keeps crash settled count counts
  holds_or (Err e) number records block keeps crash settled count counts = tt

  -- a call that put a record behind the others
  pub appends : (number : ℕ) (records : List KeptRecord) (record_ : List ℕ) (items : List (Vec ℕ)) → (HasCleanDisk (file_state new.held) → Keeps (Extends record_ (map (λ b. b.items) items)) (file_state f.held) (file_state new.held))
      → Survives (file_state f.held) (file_state new.held) (Extends record_ (map (λ b. b.items) items) (file_state f.held).now.trees)
      → ((db : Trees) → IsTrue (file_state new.held).is_open → (file_state new.held).may_leave db → db ≡ (file_state new.held).committed.trees)
      → new.count ≡ f.count + 1 → f.count ≤ number → Counts g (Open f) number records → Counts g (Open new) new.count (records ++ kept_with record_ items ∷ [])
  appends number records record_ items keeps crash settled count through counts = λ clean.
      let blocks = map (λ (b : Vec ℕ). b.items) items in
      let step = counts (omega (arith, clean, crash.clean)) in
      let how = keeps clean in
      let all : length step.kept.records ≤ number = omega (arith, step.counted, through) in
      let own : step.kept.records ≡ commits_of records = sym (take_whole step.kept.records number all) ∙ step.first in
      let more = with_record step.kept record_ blocks in
      let one : (file_state new.held).now.trees ≡ (file_state new.held).committed.trees = ap (λ (d : Database). d.trees) how.same in
      let same : more.records ≡ commits_of (records ++ kept_with record_ items ∷ []) = ap (λ l. l ++ record_ ∷ []) own ∙ sym (commits_more records (kept_with record_ items)) in
      let long : length more.records ≡ new.count = length_more step.kept.records record_ ∙ (omega (arith, step.counted, count)) in
      record {
        kept = more;
        stands = subst (Stands more) (sym one) (how.kept step.kept step.stands);
        counted = long;
        first = take_whole more.records new.count (omega (arith, long)) ∙ same;
        beside = beside_more records step.kept.blocks record_ items step.beside;
        settled = λ db may. settled db how.is_open may ∙ sym one;
      }

  -- a call that failed to
  pub fails_to_append : (number : ℕ) (records : List KeptRecord) (record_ : List ℕ) (blocks : List (List ℕ)) → Survives (file_state f.held) (file_state new.held) (Extends record_ blocks (file_state f.held).now.trees)
      → f.count ≤ number → Counts g (Open f) number records → Begins g (Open new) records
  fails_to_append number records record_ blocks crash through counts = λ clean db may.
      let was : HasCleanDisk (file_state f.held) = omega (arith, clean, crash.clean) in
      let step = counts was in
      let all : length step.kept.records ≤ number = omega (arith, step.counted, through) in
      let own : step.kept.records ≡ commits_of records = sym (take_whole step.kept.records number all) ∙ step.first in
      elim (crash.crash clean db may) [
        | inl before ↦ counts_begin g (Open f) number records counts was db before
        | inr made ↦ record { kept = with_record step.kept record_ blocks; stands = made step.kept step.stands; more = record_ ∷ []; first = ap (λ l. l ++ record_ ∷ []) own; beside = beside_blocks records blocks step.kept.blocks step.beside }
      ]
