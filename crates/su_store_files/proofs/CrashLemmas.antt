-- What a crash leaves of files, one after another, the last one first.
use Rattle.std.proofs.Common.{◌≡◌, ◌≤◌, ◌<◌, ℕ, suc, false, arith, List, [], ◌∷◌, ◌++◌, Option, Some, None, IfSome, option_to_list, refl, sym, ap, subst, ◌∙◌, append_assoc}
use Rattle.std.proofs.lemmas.List.{append-nil}
use Rattle.std.specs.List.{All, AllZip}
use Rattle.su_keeper.specs.Kept.{KeptRecord}
use Rattle.su_vault.specs.Records.{commits_of}
use Rattle.su_vault.specs.declared.volumes.Volume.{Ghosts}
use Rattle.su_store_files.specs.Volumes.{joined, in_turn, IsLeft, AreLeft, WereFound, HoldsInTurn, IsAtEnd}
use Rattle.su_store_files.specs.declared.volumes.Opened.{Opened}
use Rattle.su_store_files.specs.declared.volumes.Volumes.{Volumes}
use Rattle.su_store_files.proofs.FoundLemmas.{Last, all_zip_last, all_zip_none, in_turn_last}
use Rattle.su_store_files.proofs.PastLemmas.{all_zip_push}

-- the files that are still to crash kept the lists in front, and the others left what they kept
pub record AreLeftSoFar {F E : Type 0} (g : Ghosts F E) (files found : List F) (lists : List (List KeptRecord)) : Type 0 where
  pub front : List (List KeptRecord)
  pub commits : List (List (List ℕ))
  pub all : commits_of (joined lists) ≡ commits_of (joined front) ++ in_turn commits
  pub kept : AllZip g.keeps files front
  pub each : AllZip (IsLeft g) found commits

commits_append : (xs ys : List KeptRecord) → commits_of (xs ++ ys) ≡ commits_of xs ++ commits_of ys
commits_append [] ys = refl
commits_append (x ∷ xs) ys = ap (λ l. x.commit ∷ l) (commits_append xs ys)

joined_last : (lists : List (List KeptRecord)) (list : List KeptRecord) → joined (lists ++ list ∷ []) ≡ joined lists ++ list
joined_last [] list = append-nil list
joined_last (x ∷ lists) list = ap (λ l. x ++ l) (joined_last lists list) ∙ sym (append_assoc x (joined lists) list)

module _ {F E : Type 0} (g : Ghosts F E) where
  pub none_left : (files : List F) (lists : List (List KeptRecord)) → AllZip g.keeps files lists → AreLeftSoFar g files [] lists
  none_left files lists kept = record { front = lists; commits = []; all = sym (append-nil (commits_of (joined lists))); kept = kept; each = tt }

  pub one_left : (files others found more : List F) (file left : F) (lists : List (List KeptRecord)) → files ≡ others ++ file ∷ [] → more ≡ found ++ left ∷ []
      → (g.is_clean left → (records : List KeptRecord) → g.keeps file records → g.was_found left (commits_of records))
      → AreLeftSoFar g files found lists → AreLeftSoFar g others more lists
  one_left files others found more file left lists behind pushed crashes so_far =
      let it = all_zip_last g.keeps others file so_far.front (subst (λ l. AllZip g.keeps l so_far.front) behind so_far.kept) in
      let commits = commits_of it.last in
      record {
        front = it.others;
        commits = so_far.commits ++ commits ∷ [];
        all =
            so_far.all ∙ ap (λ l. commits_of (joined l) ++ in_turn so_far.commits) it.split ∙ ap (λ l. commits_of l ++ in_turn so_far.commits) (joined_last it.others it.last)
            ∙ ap (λ l. l ++ in_turn so_far.commits) (commits_append (joined it.others) it.last) ∙ append_assoc (commits_of (joined it.others)) commits (in_turn so_far.commits)
            ∙ ap (λ l. commits_of (joined it.others) ++ l) (sym (in_turn_last so_far.commits commits));
        kept = it.all;
        each = subst (λ l. AllZip (IsLeft g) l (so_far.commits ++ commits ∷ [])) (sym pushed) (all_zip_push (IsLeft g) found so_far.commits left commits so_far.each (λ clean. crashes clean it.last it.one));
      }

  pub all_left : (files found : List F) (lists : List (List KeptRecord)) → files ≡ [] → AreLeftSoFar g files found lists → AreLeft g found lists
  all_left files found lists none so_far =
      let empty : so_far.front ≡ [] = all_zip_none g.keeps so_far.front (subst (λ l. AllZip g.keeps l so_far.front) none so_far.kept) in
      record {
        commits = so_far.commits;
        all = sym (so_far.all ∙ ap (λ l. commits_of (joined l) ++ in_turn so_far.commits) empty);
        each = so_far.each;
      }

  clean_left : (found : List F) (lists : List (List (List ℕ))) → AllZip (IsLeft g) found lists → All g.is_clean found → AllZip g.was_found found lists
  clean_left [] lists each clean = each
  clean_left (f ∷ found) [] each clean = absurd each
  clean_left (f ∷ found) (l ∷ lists) each clean = (each.0 (clean 0 f (omega arith)), clean_left found lists each.1 (λ k d less. clean (suc k) d (omega (arith, less))))

  -- the first of the files that a crash left is opened
  pub were_found : (files : Opened F E) (left : List F) (first : F) (lists : List (List KeptRecord)) → left ≡ files.later.items ++ first ∷ [] → AreLeft g left lists
      → (g.is_clean files.first → g.is_clean first) → ((commits : List (List ℕ)) → g.was_found first commits → g.counts files.first 0 []) → ((commits : List (List ℕ)) → g.was_found first commits → g.shows files.first commits)
      → g.is_clean files.first → All g.is_clean files.later.items → WereFound g files (commits_of (joined lists))
  were_found files left first lists behind are_left before anew shown clean later =
      let it = all_zip_last (IsLeft g) files.later.items first are_left.commits (subst (λ l. AllZip (IsLeft g) l are_left.commits) behind are_left.each) in
      let own = it.one (before clean) in
      record {
        own = it.last;
        lists = it.others;
        all = sym are_left.all ∙ ap in_turn it.split ∙ in_turn_last it.others it.last;
        begun = anew it.last own;
        shown = shown it.last own;
        later = clean_left files.later.items it.others it.all later;
      }

  -- all files of a vault that goes on, of which all records stand in the book
  pub all_kept : (laws : (f : F) (n : ℕ) (records : List KeptRecord) → g.count f ≤ n → g.counts f n records → g.keeps f records) (v : Volumes F E) (records : List KeptRecord) (files : List F)
      → v.is_halted ≡ false → IsAtEnd g v → files ≡ v.past.places.items ++ v.current ∷ [] → HoldsInTurn g v records
      → (lists : List (List KeptRecord)) × (records ≡ joined lists) × AllZip g.keeps files lists
  all_kept laws v records files running end are held = (
    held.lists ++ held.own ∷ [],
    sym (append-nil records) ∙ ap (λ m. records ++ m) (sym (held.running running)) ∙ held.split ∙ sym (joined_last held.lists held.own),
    subst (λ l. AllZip g.keeps l (held.lists ++ held.own ∷ [])) (sym are)
        (all_zip_push g.keeps v.past.places.items held.lists v.current held.own held.past (laws v.current v.kept held.own end.0 (held.counted running))),
  )
