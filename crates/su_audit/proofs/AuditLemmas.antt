-- An audit, record by record.
use Rattle.std.proofs.Common.{◌≡◌, ℕ, ◌+◌, List, [], ◌∷◌, ◌++◌, length, length-append, refl, sym, ap, ◌∙◌, subst, arith, append_assoc, append-nil, inl, inr, Option, Some}
use Rattle.std.specs.Prelude.{◌⊎◌, Contains}
use Rattle.std.proofs.lemmas.Grind.{flat_map-append}
use Rattle.std.proofs.lemmas.List.Elements.{Contains-append_left, Contains-append_right, Contains-append_cases}
use Rattle.sha2.specs.Sha256.{sha256}
use Rattle.su_block.specs.Memory.{HasItemOf}
use Rattle.su_change.specs.Item.{item_bytes}
use Rattle.su_bytes.specs.Membership.{Membership}
use Rattle.su_version.specs.Commit.{commit_bytes}
use Rattle.su_legal.specs.Legal.{Committed, LegalAfter}
use Rattle.su_legal.proofs.Public.{after_both}
use Rattle.su_view.specs.Holding.{HoldingState, with_more}
use Rattle.su_view.specs.declared.refusals.ViewRefusal.{ViewRefusal}
use Rattle.su_log.specs.Log.{LogRecord, record_bytes, log_bytes}
use Rattle.su_audit.specs.Step.{Takes, IsRefusedRecord, IsRefusedNext}
use Rattle.su_audit.proofs.StepLemmas.{wider_source}
use Rattle.su_audit.specs.declared.audits.Ending.{Ending}
use Rattle.su_audit.specs.declared.audits.Ending.TheVariants.{Taken, Refused, Failed}
use Rattle.su_audit.specs.declared.audits.Fault.{Fault}
use Rattle.su_audit.specs.declared.audits.Fault.TheVariants.{Reading, Writing, NoView, NoMemory}
use Rattle.su_audit.specs.Audit.{AreBytesOf, AreItemsOf, items_of, BeginsLegally, IsLegalLog, IsRefusedAt, held_by_first, taken_text, refused_text, Tells, Prints, PrintsSome, WritesNothing}

-- So far the log begins with the records of what is held, and this is left; the next is the nth.
pub record Stands (ro : Membership) (log : List ℕ) (v : HoldingState) (has : List (List ℕ)) (Left : ℕ → List ℕ → Type 0) (n : ℕ) : Type 0 where
  pub commits : List Committed
  pub place : ℕ
  pub rest : List ℕ
  pub holds : v ≡ held_by_first ro commits
  pub begins : BeginsLegally ro log commits place rest
  -- the source has no other items than the log
  pub items : (item : List ℕ) → Contains has item → Contains (items_of begins.records) item
  -- and of each item of the log one with its digest
  pub each : (item : List ℕ) → Contains (items_of begins.records) item → HasItemOf has (sha256 item)
  pub left : Left place rest
  pub number : n ≡ length commits + 1

none_in : (item : List ℕ) → ¬ Contains [] item
none_in item (i, within, is) = absurd (omega (arith, within))

pub none_yet : (ro : Membership) (log : List ℕ) (v : HoldingState) (has : List (List ℕ)) (Left : ℕ → List ℕ → Type 0) → v ≡ held_by_first ro [] → has ≡ [] → Left 0 log → Stands ro log v has Left 1
none_yet ro log v has Left holds none left = record {
  commits = [];
  place = 0;
  rest = log;
  holds = holds;
  begins = record { records = []; front = refl; place_is = refl; bytes_are = tt; items_are = tt; legal = tt };
  items = λ item there. subst (λ xs. Contains xs item) none there;
  each = λ item there. absurd (none_in item there);
  left = left;
  number = refl;
}

-- ---- items

-- what is among these, or is that one, is among more
wider : (xs ys : List (List ℕ)) (y x : List ℕ) → ((item : List ℕ) → Contains xs item → Contains ys item) → Contains (xs ++ y ∷ []) x → Contains (ys ++ y ∷ []) x
wider xs ys y x within there = go (Contains-append_cases xs (y ∷ []) x there)
  where
    go : Contains xs x ⊎ Contains (y ∷ []) x → Contains (ys ++ y ∷ []) x
    go (inl here) = Contains-append_left ys (y ∷ []) x (within x here)
    go (inr here) = Contains-append_right ys (y ∷ []) x here

-- of each of these is one with its digest among those, and the same of one more
held_further : (xs has : List (List ℕ)) (y : List ℕ) (has' : List (List ℕ)) → ((item : List ℕ) → Contains xs item → HasItemOf has (sha256 item))
    → ((item : List ℕ) → Contains (has ++ y ∷ []) item → HasItemOf has' (sha256 item)) → (item : List ℕ) → Contains (xs ++ y ∷ []) item → HasItemOf has' (sha256 item)
held_further xs has y has' each kept item there = go (Contains-append_cases xs (y ∷ []) item there)
  where
    go : Contains xs item ⊎ Contains (y ∷ []) item → HasItemOf has' (sha256 item)
    go (inl here) = let (x, x_there, same) = each item here in subst (HasItemOf has') same (kept x (Contains-append_left has (y ∷ []) x x_there))
    go (inr here) = kept item (Contains-append_right has (y ∷ []) item here)

-- none of more has a digest that none of these has
none_further : (xs has : List (List ℕ)) (y digest : List ℕ) → ((item : List ℕ) → Contains xs item → HasItemOf has (sha256 item)) → ¬ HasItemOf (has ++ y ∷ []) digest → ¬ HasItemOf (xs ++ y ∷ []) digest
none_further xs has y digest each none (item, there, is) = go (Contains-append_cases xs (y ∷ []) item there)
  where
    go : Contains xs item ⊎ Contains (y ∷ []) item → ⊥
    go (inl here) = let (x, x_there, same) = each item here in none (x, Contains-append_left has (y ∷ []) x x_there, same ∙ is)
    go (inr here) = none (item, Contains-append_right has (y ∷ []) item here, is)

-- what is refused of the items that are held is refused of all that came
module _ (xs has : List (List ℕ)) (within : (item : List ℕ) → Contains has item → Contains xs item) (each : (item : List ℕ) → Contains xs item → HasItemOf has (sha256 item)) (v : HoldingState)
  where
    refused_of : (bytes item : List ℕ) (e : ViewRefusal) → IsRefusedRecord v has bytes item e → IsRefusedRecord v xs bytes item e
    refused_of bytes item e (inl memory) = inl memory
    refused_of bytes item e (inr (inl big)) = inr (inl big)
    refused_of bytes item e (inr (inr (inl none))) = inr (inr (inl none))
    refused_of bytes item e (inr (inr (inr (c, good, is, inl (missing, none))))) = inr (inr (inr (c, good, is, inl (missing, none_further xs has item c.version.change each none))))
    refused_of bytes item e (inr (inr (inr (c, good, is, inr refused)))) =
        inr (inr (inr (c, good, is, inr (wider_source (Contains (has ++ item ∷ [])) (Contains (xs ++ item ∷ [])) v c e (λ s there. wider has xs item s within there) refused))))

    refused_among : (place : ℕ) (input : List ℕ) (e : ViewRefusal) → IsRefusedNext v has place input e → IsRefusedNext v xs place input e
    refused_among place input e (inl cut) = inl cut
    refused_among place input e (inr (first, rest, begins, inl cut)) = inr (first, rest, begins, inl cut)
    refused_among place input e (inr (first, rest, begins, inr (item, others, next, why))) = inr (first, rest, begins, inr (item, others, next, refused_of first item e why))

items_more : (rs : List LogRecord) (r : LogRecord) → items_of (rs ++ r ∷ []) ≡ items_of rs ++ r.item ∷ []
items_more [] r = refl
items_more (x ∷ rs) r = ap (λ l. x.item ∷ l) (items_more rs r)

items_further : (before : List (List ℕ)) (rs : List LogRecord) (cs : List Committed) (r : LogRecord) (c : Committed)
    → AreItemsOf before rs cs → Contains (before ++ (items_of rs ++ r.item ∷ [])) (item_bytes c.change) → AreItemsOf before (rs ++ r ∷ []) (cs ++ c ∷ [])
items_further before [] [] r c are is = (is, tt)
items_further before (x ∷ rs) (y ∷ cs) r c (e, are) is =
    (e, items_further (before ++ x.item ∷ []) rs cs r c are (subst (λ l. Contains l (item_bytes c.change)) (sym (append_assoc before (x.item ∷ []) (items_of rs ++ r.item ∷ []))) is))
items_further before [] (y ∷ cs) r c are is = absurd are
items_further before (x ∷ rs) [] r c are is = absurd are

are_further : (rs : List LogRecord) (cs : List Committed) (r : LogRecord) (c : Committed)
    → AreBytesOf rs cs → r.commit ≡ commit_bytes c.commit → AreBytesOf (rs ++ r ∷ []) (cs ++ c ∷ [])
are_further [] [] r c are is = (is, tt)
are_further (x ∷ rs) (y ∷ cs) r c (e, are) is = (e, are_further rs cs r c are is)
are_further [] (y ∷ cs) r c are is = absurd are
are_further (x ∷ rs) [] r c are is = absurd are

further_log : (log : List ℕ) (rs : List LogRecord) (r : LogRecord) (rest rest' : List ℕ) → log ≡ log_bytes rs ++ rest → rest ≡ record_bytes r ++ rest' → log ≡ log_bytes (rs ++ r ∷ []) ++ rest'
further_log log rs r rest rest' is begins =
    is ∙ ap (λ x. log_bytes rs ++ x) begins ∙ sym (append_assoc (log_bytes rs) (record_bytes r) rest')
    ∙ ap (λ x. (log_bytes rs ++ x) ++ rest') (sym (append-nil (record_bytes r)))
    ∙ ap (λ x. x ++ rest') (sym (flat_map-append record_bytes rs (r ∷ [])))

further_place : (rs : List LogRecord) (r : LogRecord) (place : ℕ) → place ≡ length (log_bytes rs) → place + length (record_bytes r) ≡ length (log_bytes (rs ++ r ∷ []))
further_place rs r place is =
    let sum = length-append (log_bytes rs) (record_bytes r ++ []) in
    let one : length (record_bytes r ++ []) ≡ length (record_bytes r) = ap length (append-nil (record_bytes r)) in
    let all : length (log_bytes (rs ++ r ∷ [])) ≡ length (log_bytes rs ++ (record_bytes r ++ [])) = ap length (flat_map-append record_bytes rs (r ∷ [])) in
    omega (arith, sum, one, all, is)

module _ (ro : Membership) (log : List ℕ) (v : HoldingState) (has : List (List ℕ)) (Left : ℕ → List ℕ → Type 0) (n : ℕ) (s : Stands ro log v has Left n) where
  pub further : (v' : HoldingState) (has' : List (List ℕ)) (Left' : ℕ → List ℕ → Type 0) → ((place : ℕ) (input : List ℕ) → Left place input → Takes place v has input Left' v' has') → Stands ro log v' has' Left' (n + 1)
  further v' has' Left' takes =
      let k = takes s.place s.rest s.left in
      let t = k.takes in
      let may : LegalAfter ro s.commits (t.taken ∷ []) = subst (λ (u : HoldingState). LegalAfter u.roster u.held (t.taken ∷ [])) s.holds t.took.may in
      record {
        commits = s.commits ++ t.taken ∷ [];
        place = s.place + length (record_bytes k.first);
        rest = k.rest;
        holds = t.took.becomes ∙ ap (λ u. with_more u (t.taken ∷ [])) s.holds;
        begins = record {
          records = s.begins.records ++ k.first ∷ [];
          front = further_log log s.begins.records k.first s.rest k.rest s.begins.front k.begins;
          place_is = further_place s.begins.records k.first s.place s.begins.place_is;
          bytes_are = are_further s.begins.records s.commits k.first t.taken s.begins.bytes_are t.bytes_are;
          items_are = items_further [] s.begins.records s.commits k.first t.taken s.begins.items_are
              (wider has (items_of s.begins.records) k.first.item (item_bytes t.taken.change) s.items t.given);
          legal = after_both ro [] s.commits (t.taken ∷ []) s.begins.legal may;
        };
        items = λ item there. subst (λ l. Contains l item) (sym (items_more s.begins.records k.first))
            (wider has (items_of s.begins.records) k.first.item item s.items (t.no_more item there));
        each = λ item there. held_further (items_of s.begins.records) has k.first.item has' s.each t.kept item
            (subst (λ l. Contains l item) (items_more s.begins.records k.first) there);
        left = k.left;
        number = ap (λ k. k + 1) (s.number ∙ sym (length-append s.commits (t.taken ∷ [])));
      }

  pub at_end : (m : ℕ) → n ≡ m + 1 → ((place : ℕ) (input : List ℕ) → Left place input → input ≡ []) → IsLegalLog ro log m
  at_end m is ends =
      let none = ends s.place s.rest s.left in
      let front : log ≡ log_bytes s.begins.records ++ [] = subst (λ x. log ≡ log_bytes s.begins.records ++ x) none s.begins.front in
      let whole : log ≡ log_bytes s.begins.records = front ∙ append-nil (log_bytes s.begins.records) in
      record {
        commits = s.commits;
        number = omega (arith, is, s.number);
        begins = record {
          records = s.begins.records;
          front = front;
          place_is = ap length whole;
          bytes_are = s.begins.bytes_are;
          items_are = s.begins.items_are;
          legal = s.begins.legal;
        };
      }

  pub refused_next : (e : ViewRefusal) → ((place : ℕ) (input : List ℕ) → Left place input → IsRefusedNext v has place input e) → IsRefusedAt ro log n e
  refused_next e why = record {
    commits = s.commits;
    place = s.place;
    rest = s.rest;
    number = s.number;
    begins = s.begins;
    why = subst (λ u. IsRefusedNext u (items_of s.begins.records) s.place s.rest e) s.holds
        (refused_among (items_of s.begins.records) has s.items s.each v s.place s.rest e (why s.place s.rest s.left));
  }

-- ---- what is told

pub told_taken : (ro : Membership) (log before text : List ℕ) (after : Option (List ℕ)) (m : ℕ) (result : Ending)
    → IsLegalLog ro log m → text ≡ taken_text m → Tells Taken text before after result → Prints ro log before after result
told_taken ro log before text after m (Failed fault) legal is t = t
told_taken ro log before text after m Taken legal is t = (m, legal, t.1 ∙ ap (λ x. Some (before ++ x)) is)
told_taken ro log before text after m Refused legal is t = absurd (let bad : Refused ≡ Taken = t.0 in cc)

pub told_refused : (ro : Membership) (log before text : List ℕ) (after : Option (List ℕ)) (n : ℕ) (e : ViewRefusal) (result : Ending)
    → IsRefusedAt ro log n e → text ≡ refused_text n e → Tells Refused text before after result → Prints ro log before after result
told_refused ro log before text after n e (Failed fault) why is t = t
told_refused ro log before text after n e Refused why is t = (n, e, why, t.1 ∙ ap (λ x. Some (before ++ x)) is)
told_refused ro log before text after n e Taken why is t = absurd (let bad : Taken ≡ Refused = t.0 in cc)

-- what is told, of whatever log
pub some_taken : (n : ℕ) (before : List ℕ) (after : Option (List ℕ)) (r : Ending) → Tells Taken (taken_text n) before after r → PrintsSome before after r
some_taken n before after Taken (is, written) = (n, written)
some_taken n before after Refused (is, written) = absurd (let clash : Refused ≡ Taken = is in cc)
some_taken n before after (Failed fault) told = told

pub some_refused : (n : ℕ) (e : ViewRefusal) (before : List ℕ) (after : Option (List ℕ)) (r : Ending) → Tells Refused (refused_text n e) before after r → PrintsSome before after r
some_refused n e before after Taken (is, written) = absurd (let clash : Taken ≡ Refused = is in cc)
some_refused n e before after Refused (is, written) = (n, e, written)
some_refused n e before after (Failed fault) told = told

-- where nothing was written
pub wrote_nothing : (fault : Fault) (before : List ℕ) (after : Option (List ℕ)) → after ≡ Some before → WritesNothing fault before after
wrote_nothing (Writing error) before after same = tt
wrote_nothing (Reading error) before after same = same
wrote_nothing (NoView refusal) before after same = same
wrote_nothing NoMemory before after same = same
