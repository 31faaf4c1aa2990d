-- One record more of a log is taken.
use Rattle.std.proofs.Common.{◌≡◌, ℕ, ◌+◌, ◌-◌, ◌≤◌, List, [], ◌∷◌, ◌++◌, map, length, Result, Ok, Err, OnOk, length-append, refl, sym, ap, ◌∙◌, subst, arith, append_assoc}
use Rattle.std.proofs.lemmas.List.{flat_map_more}
use Rattle.su_change.specs.Item.{item_bytes}
use Rattle.su_op.specs.declared.operations.Change.{Change}
use Rattle.su_version.specs.Commit.{Commit, commit_bytes}
use Rattle.su_legal.specs.Legal.{Committed}
use Rattle.su_view.specs.Viewed.{Grows, IsClear as IsClearView, ViewOn}
use Rattle.su_log.specs.Log.{LogRecord, record_bytes, log_bytes}
use Rattle.su_log.specs.Part.{part_bytes}
use Rattle.su_log.specs.Record.{spelled, BeginsWithRecord}
use Rattle.su_log_ahead.specs.Ahead.{AheadState, IsLeft}
use Rattle.su_log.specs.declared.records.Record.{Record}
use Rattle.su_client_work.specs.SavedLog.{saved_log, entry_bytes, saved_record}
use Rattle.su_client_work.specs.TakenLog.{TakesFront}
use Rattle.su_client_work.proofs.Taking.{grows_both, grows_nothing, grows_still}

-- ---- records

record_first : (input : List ℕ) (r : LogRecord) (others : List ℕ) → BeginsWithRecord input r others → input ≡ record_bytes r ++ others
record_first input r others b =
    b.commit.whole ∙ ap (λ l. part_bytes r.commit ++ l) b.item.whole ∙ sym (append_assoc (part_bytes r.commit) (part_bytes r.item) others)

-- what a log has of a commit stands first
entry_first : (input : List ℕ) (r : LogRecord) (c : Committed) (others : List ℕ) → r ≡ saved_record c → BeginsWithRecord input r others → input ≡ entry_bytes c ++ others
entry_first input r c others is b = record_first input r others b ∙ ap (λ (s : LogRecord). record_bytes s ++ others) is

-- a commit that was taken with the item that the log has
pub took_record : {R E : Type 0} (r : Result R E) (bytes item : List ℕ) (x : Commit) (Takes : Committed → Type 0) → bytes ≡ commit_bytes x
    → OnOk r ((change : Change) × (item ≡ item_bytes change) × Takes (record { commit = x; change = change }))
    → OnOk r ((c : Committed) × (record { commit = bytes; item = item } ≡ saved_record c) × Takes c)
took_record (Ok y) bytes item x Takes spelled (change, is, takes) = (record { commit = x; change = change }, λ i. record { commit = spelled i; item = is i }, takes)
took_record (Err e) bytes item x Takes spelled took = tt

-- ---- where the log is

-- this is left at a place of the log, and the front before it is so
pub record IsReadTo (Front : List ℕ → Type 0) (log : List ℕ) (s : AheadState) : Type 0 where
  pub place : ℕ
  pub rest : List ℕ
  pub left : IsLeft s place rest
  pub place_is : place + length rest ≡ length log
  pub front : Front rest

further : (place : ℕ) (log rest others : List ℕ) (r : LogRecord) → place + length rest ≡ length log → BeginsWithRecord rest r others
    → place + length (record_bytes r) + length others ≡ length log
further place log rest others r here begins =
    let long = ap length (record_first rest r others begins) in
    let sum = length-append (record_bytes r) others in
    omega (arith, here, long, sum)

module _ {S : Type 0} (may_give : S → List ℕ → Type 0) (w : ViewOn S) (log : List ℕ) where
  pub none_taken : (x : ViewOn S) → x.holding ≡ w.holding → TakesFront may_give w log x 0 log
  none_taken x same = record { commits = []; front = refl; number = refl; grows = grows_nothing may_give w x same }

  one_taken : (x y : ViewOn S) (rest others : List ℕ) (n : ℕ) (r : LogRecord) (c : Committed) → TakesFront may_give w log x n rest → BeginsWithRecord rest r others
      → r ≡ saved_record c → (IsClearView may_give y → IsClearView may_give x) → Grows may_give x (c ∷ []) y → TakesFront may_give w log y (n + 1) others
  one_taken x y rest others n r c f begins is back grows = record {
    commits = f.commits ++ c ∷ [];
    front = f.front ∙ ap (λ l. saved_log f.commits ++ l) (entry_first rest r c others is begins)
        ∙ sym (append_assoc (saved_log f.commits) (entry_bytes c) others)
        ∙ ap (λ l. l ++ others) (flat_map_more entry_bytes [] f.commits c);
    number = ap (λ n. n + 1) f.number ∙ sym (length-append f.commits (c ∷ []));
    grows = grows_both may_give w x y f.commits (c ∷ []) back f.grows grows;
  }

  -- the source was asked for more, and nothing was taken
  pub front_then : (x y : ViewOn S) (n : ℕ) (rest : List ℕ) → TakesFront may_give w log x n rest → y.holding ≡ x.holding → (IsClearView may_give y → IsClearView may_give x)
      → TakesFront may_give w log y n rest
  front_then x y n rest f same back = record { commits = f.commits; front = f.front; number = f.number; grows = grows_still may_give w x y f.commits back same f.grows }

  -- one record more was read, and taken
  pub read_on : (x y : ViewOn S) (k : ℕ) (a b : AheadState) (r : Record) (c : Committed)
      → 1 ≤ k → IsReadTo (λ rest. TakesFront may_give w log x (k - 1) rest) log a
      → ((place : ℕ) (input : List ℕ) → IsLeft a place input
      → (rest : List ℕ) × BeginsWithRecord input (spelled r) rest × IsLeft b (place + length (record_bytes (spelled r))) rest)
      → spelled r ≡ saved_record c → (IsClearView may_give y → IsClearView may_give x) → Grows may_give x (c ∷ []) y
      → IsReadTo (λ rest. TakesFront may_give w log y (k + 1 - 1) rest) log b
  read_on x y k a b r c some f reads is back grows =
      let (others, begins, left) = reads f.place f.rest f.left in
      let count : k - 1 + 1 ≡ k + 1 - 1 = omega (arith, some) in
      record {
        place = f.place + length (record_bytes (spelled r));
        rest = others;
        left = left;
        place_is = further f.place log f.rest others (spelled r) f.place_is begins;
        front = subst (λ n. TakesFront may_give w log y n others) count (one_taken x y f.rest others (k - 1) (spelled r) c f.front begins is back grows);
      }

-- ---- what is saved

pub saved_is : (cs : List Committed) → saved_log cs ≡ log_bytes (map saved_record cs)
saved_is [] = refl
saved_is (c ∷ cs) = ap (λ l. entry_bytes c ++ l) (saved_is cs)
