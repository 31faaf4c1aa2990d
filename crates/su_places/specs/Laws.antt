-- What a file counts is the first of what it keeps, and begins with none; and a file that was opened
-- shows what it was found with.
use Rattle.std.proofs.Common.{◌≡◌, ◌≤◌, ◌↔◌, ℕ, zero, suc, List, [], ◌∷◌, ◌++◌, length, take, drop, take-append-drop, refl, sym, ap, subst, ◌∙◌, arith}
use Rattle.sqlite_disk.specs.declared.Disk.{Ghosts}
use Rattle.sqlite.specs.declared.FileStore.{FileStore}
use Rattle.sqlite.specs.State.{HasCleanDisk}
use Rattle.sqlite.specs.Files.{file_state, over_files}
use Rattle.su_store.specs.Tables.{Stands}
use Rattle.su_store.specs.Files.{File, IsAtRest}
use Rattle.su_keeper.specs.Kept.{KeptRecord}
use Rattle.su_places.specs.Places.{KeepsAll}
use Rattle.su_places.specs.Current.{HasRecords, Begins, Counts, IsClean, RestsOpen, Shows, ShowsTables, count_of}
use Rattle.su_places.specs.declared.places.Place.{Place}
use Rattle.su_places.specs.declared.places.Place.TheVariants.{Open, Shut, Unopened, Unshut, Away}

pub take_whole : {X : Type 0} (xs : List X) (n : ℕ) → length xs ≤ n → take n xs ≡ xs
take_whole [] zero long = refl
take_whole [] (suc n) long = refl
take_whole (x ∷ xs) zero long = absurd (omega arith)
take_whole (x ∷ xs) (suc n) long = ap (λ l. x ∷ l) (take_whole xs n (omega arith))

module _ {D : Type 0} (g : Ghosts D) where
  pub counts_begin : (place : Place D g) (number : ℕ) (records : List KeptRecord) → Counts g place number records → Begins g place records
  counts_begin (Open f) number records counts = λ clean db may.
      let step = counts clean in
      record {
        kept = step.kept;
        stands = subst (Stands step.kept) (sym (step.settled db may)) step.stands;
        more = drop number step.kept.records;
        beside = step.beside;
        first = sym (take-append-drop number step.kept.records) ∙ ap (λ l. l ++ drop number step.kept.records) step.first;
      }
  counts_begin (Shut s) number records counts = counts
  counts_begin (Unopened left) number records counts = counts
  counts_begin (Unshut it) number records counts = counts
  counts_begin Away number records counts = counts

  pub counts_all : (place : Place D g) (number : ℕ) (records : List KeptRecord) → count_of place ≤ number → Counts g place number records → KeepsAll g place records
  counts_all (Open f) number records through counts = λ clean db may.
      let step = counts clean in
      let all : length step.kept.records ≤ number = omega (arith, step.counted, through) in
      record {
        kept = step.kept;
        stands = subst (Stands step.kept) (sym (step.settled db may)) step.stands;
        same = sym (take_whole step.kept.records number all) ∙ step.first;
        beside = step.beside;
      }
  counts_all (Shut s) number records through counts = counts
  counts_all (Unopened left) number records through counts = counts
  counts_all (Unshut it) number records through counts = counts
  counts_all Away number records through counts = counts

  -- an open file that no call has changed shows what its tables stand for
  pub tables_shown : (f : File (FileStore D g)) (commits : List (List ℕ)) → (HasCleanDisk (file_state f.held) → IsAtRest over_files f) → (HasCleanDisk (file_state f.held) → HasRecords commits (file_state f.held).now.trees) → Shows g (Open f) commits
  tables_shown f commits rest tables = λ clean.
      let has = tables clean in
      record { has = has; counted = ap length (sym has.same) ∙ (rest clean).counted has.kept has.stands; settled = (rest clean).settled }

  pub rests_shown : (place : Place D g) (commits : List (List ℕ)) → RestsOpen g place → ShowsTables g place commits ↔ Shows g place commits
  rests_shown (Open f) commits rests = (tables_shown f commits rests, λ shown clean. (shown clean).has)
  rests_shown (Shut s) commits rests = absurd rests
  rests_shown (Unopened left) commits rests = absurd rests
  rests_shown (Unshut it) commits rests = absurd rests
  rests_shown Away commits rests = absurd rests

  -- of an open file none of the records need stand in the book
  pub shown_counts : (place : Place D g) (commits : List (List ℕ)) → Shows g place commits → Counts g place 0 []
  shown_counts (Open f) commits shown = λ clean.
      let is = shown clean in
      record { kept = is.has.kept; stands = is.has.stands; counted = ap length is.has.same ∙ is.counted; first = refl; beside = tt; settled = is.settled }
  shown_counts (Shut s) commits shown = absurd shown
  shown_counts (Unopened left) commits shown = absurd shown
  shown_counts (Unshut it) commits shown = absurd shown
  shown_counts Away commits shown = absurd shown

  pub shows_counted : (place : Place D g) (commits : List (List ℕ)) → IsClean g place → Shows g place commits → length commits ≡ count_of place
  shows_counted (Open f) commits clean shown = (shown clean).counted
  shows_counted (Shut s) commits clean shown = absurd shown
  shows_counted (Unopened left) commits clean shown = absurd shown
  shows_counted (Unshut it) commits clean shown = absurd shown
  shows_counted Away commits clean shown = absurd shown
