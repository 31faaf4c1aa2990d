-- What the files of a vault hold in turn, as the current one changes and as another takes its place.
use Rattle.std.proofs.Common.{◌≡◌, ◌≤◌, ◌<◌, ℕ, zero, suc, true, false, List, [], ◌∷◌, ◌++◌, Option, None, Result, Ok, Err, IfOk, refl, sym, ap, ◌∙◌, append_assoc, arith, length, drop, subst}
use Rattle.std.proofs.lemmas.List.{append-nil}
use Rattle.std.specs.List.{All, AllZip}
use Rattle.su_keeper.specs.Kept.{KeptRecord}
use Rattle.su_vault.specs.declared.volumes.Volume.{Ghosts}
use Rattle.su_store_files.specs.Past.{KeepInTurn}
use Rattle.su_store_files.specs.Volumes.{joined, in_turn, halted, HoldsInTurn, FindsInTurn, AreClean, WasSound}
use Rattle.su_store_files.specs.declared.past.PastFiles.{PastFiles}
use Rattle.su_store_files.specs.declared.volumes.Volumes.{Volumes}

pub joined_more : (lists : List (List KeptRecord)) (own : List KeptRecord) → joined (lists ++ own ∷ []) ++ [] ≡ joined lists ++ own
joined_more [] own = append-nil (own ++ []) ∙ append-nil own
joined_more (list ∷ lists) own = append_assoc list _ _ ∙ ap (λ l. list ++ l) (joined_more lists own) ∙ sym (append_assoc list _ _)

pub at_end : {A E : Type 0} {P Q : Type 0} (r : Result (Option A) E) → IfOk r (λ found. found ≡ None → P) → (P → Q) → IfOk r (λ found. found ≡ None → P × Q)
at_end (Ok x) end then = λ none. let p = end none in (p, then p)
at_end (Err e) end then = tt

-- each of the later files stood for the records of its list
pub all_sound : {F E : Type 0} (g : Ghosts F E) (files : List F) (lists : List (List (List ℕ))) → AllZip g.was_found files lists → All (WasSound g) files
all_sound g [] lists later k d lt = absurd (omega (arith, lt))
all_sound g (x ∷ xs) [] later k d lt = absurd later
all_sound g (x ∷ xs) (l ∷ ls) later zero d lt = (l, later.0)
all_sound g (x ∷ xs) (l ∷ ls) later (suc k) d lt = all_sound g xs ls later.1 k d (omega (arith, lt))

module _ {F E : Type 0} (g : Ghosts F E) (v : Volumes F E) (records : List KeptRecord) where
  pub with_current : (held : HoldsInTurn g v records) (place : F) → g.begins place held.own → (v.is_halted ≡ false → g.counts place v.kept held.own) → HoldsInTurn g (record v { current = place }) records
  with_current held place begun counted = record {
    lists = held.lists;
    own = held.own;
    more = held.more;
    split = held.split;
    running = held.running;
    past = held.past;
    begun = begun;
    counted = counted;
    later = held.later;
  }

  pub with_past : (held : HoldsInTurn g v records) (past : PastFiles F E) → KeepInTurn g past held.lists → HoldsInTurn g (record v { past = past }) records
  with_past held past all = record {
    lists = held.lists;
    own = held.own;
    more = held.more;
    split = held.split;
    running = held.running;
    past = all;
    begun = held.begun;
    counted = held.counted;
    later = held.later;
  }

  -- one more record of the current file stands in the book
  pub with_more : (held : HoldsInTurn g v records) → v.is_halted ≡ false → (place : F) (number : ℕ) (commit : KeptRecord) → g.begins place (held.own ++ commit ∷ []) → g.counts place number (held.own ++ commit ∷ [])
      → HoldsInTurn g (record v { current = place; kept = number }) (records ++ commit ∷ [])
  with_more held running place number commit begun counted = record {
    lists = held.lists;
    own = held.own ++ commit ∷ [];
    more = [];
    split =
        let whole : records ≡ joined held.lists ++ held.own = sym (append-nil records) ∙ ap (λ m. records ++ m) (sym (held.running running)) ∙ held.split in
        append-nil (records ++ commit ∷ []) ∙ ap (λ l. l ++ commit ∷ []) whole ∙ append_assoc (joined held.lists) held.own (commit ∷ []);
    running = λ _. refl;
    past = held.past;
    begun = begun;
    counted = λ _. counted;
    later = held.later;
  }

  -- no more are kept, after a call that came to this place
  pub halts_at : (held : HoldsInTurn g v records) (place : F) → g.begins place held.own → HoldsInTurn g (record v { current = place; is_halted = true }) records
  halts_at held place begun = record {
    lists = held.lists;
    own = held.own;
    more = held.more;
    split = held.split;
    running = λ r. absurd cc;
    past = held.past;
    begun = begun;
    counted = λ r. absurd cc;
    later = held.later;
  }

  pub halts : HoldsInTurn g v records → HoldsInTurn g (halted v) records
  halts held = halts_at held v.current held.begun

  pub halts_before : (last : KeptRecord) → HoldsInTurn g v (records ++ last ∷ []) → HoldsInTurn g (halted v) records
  halts_before last held = record {
    lists = held.lists;
    own = held.own;
    more = last ∷ held.more;
    split = sym (append_assoc records (last ∷ []) held.more) ∙ held.split;
    running = λ r. absurd cc;
    past = held.past;
    begun = held.begun;
    counted = λ r. absurd cc;
    later = held.later;
  }
