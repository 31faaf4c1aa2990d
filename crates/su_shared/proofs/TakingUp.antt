-- Taking up what a keeper found.
use Rattle.std.proofs.Common.{◌≡◌, ℕ, ◌+◌, List, [], ◌∷◌, ◌++◌, length, map, Option, Some, None, IfSome, refl, ap, sym, subst, ◌∙◌, arith, inl, inr, append_assoc, length-append}
use Rattle.std.proofs.lemmas.List.{append-nil, map-append}
use Rattle.std.proofs.lemmas.Option.{none-some}
use Rattle.su_book.specs.declared.steps.Act.{Act}
use Rattle.su_book.specs.declared.steps.Act.TheVariants.{Granted, Stored, Given}
use Rattle.su_book.specs.declared.events.Event.{Event}
use Rattle.su_book.specs.declared.events.Event.TheVariants as event
use Rattle.su_book.specs.declared.events.BookReply.{BookReply}
use Rattle.su_book.specs.declared.events.BookReply.TheVariants as reply
use Rattle.su_book.specs.Machine.{BookState, AsksFor, MayAct, Stepped, Tells, stored_by, records_of, count_of}
use Rattle.su_book.proofs.Public.{records_push}
use Rattle.std.specs.Global.{Vec}
use Rattle.su_keeper.specs.Kept.{KeptRecord, LeavesFound, first_found}
use Rattle.su_shared.specs.Entry.{Entry, kept_as}
use Rattle.su_shared.specs.Seats.{known_at, Learns}
use Rattle.su_shared.specs.Shares.{IsFirstFound, IsOpened, KnowsFound, bare, found_as, kept_all, learned}
use Rattle.su_shared.proofs.Keeping.{slice_get_push, step_of}

-- the number of a commit that is stored
number_of : (b : BookState) (seat : ℕ) (bytes : Vec ℕ) (n : ℕ) (act : Act) → AsksFor (event.Commit bytes) act → MayAct b seat act → Tells (records_of b.journal) act (reply.Stored n) → n ≡ count_of b.journal + 1
number_of b seat bytes n (Granted m) asks may tells = absurd asks
number_of b seat bytes n (Stored m c) asks may tells = tells ∙ may.number
number_of b seat bytes n Given asks may tells = absurd asks

-- what was known stays so when the turn is taken
still : (before between : List (Option Entry)) (o : Option Entry) → between ≡ learned before o → IfSome o (λ r. Learns before r between) → (m : ℕ) (x : Entry) → known_at before m ≡ Some x → known_at between m ≡ Some x
still before between None seat granted m x was = subst (λ (l : List (Option Entry)). known_at l m ≡ Some x) (sym seat) was
still before between (Some r) seat granted m x was = granted.keeps m x was

-- how many records an event asks for
abbrev more_by : Event → ℕ
more_by event.Grant = 0
more_by (event.Commit bytes) = 1
more_by event.Give = 0

more_is : (e : Event) (act : Act) → AsksFor e act → length (stored_by act) ≡ more_by e
more_is event.Grant (Granted n) asks = refl
more_is event.Grant (Stored n c) asks = absurd asks
more_is event.Grant Given asks = absurd asks
more_is (event.Commit bytes) (Granted n) asks = absurd asks
more_is (event.Commit bytes) (Stored n c) asks = refl
more_is (event.Commit bytes) Given asks = absurd asks
more_is event.Give (Granted n) asks = absurd asks
more_is event.Give (Stored n c) asks = absurd asks
more_is event.Give Given asks = refl

count_step : (b : BookState) (seat : ℕ) (e : Event) (b' : BookState) (r : BookReply) → Stepped b seat e b' r → count_of b'.journal ≡ count_of b.journal + more_by e
count_step b seat e b' r s =
    let pushed = records_push b.journal (step_of seat s.act) in
    let more = more_is e s.act s.asked in
    let becomes = ap (λ (v : BookState). count_of v.journal) s.becomes in
    omega (arith, ap length pushed, length-append (records_of b.journal) (stored_by s.act))

-- a turn that is granted adds no record
pub count_granted : (b : BookState) (seat : ℕ) (b' : BookState) (r : BookReply) → Stepped b seat event.Grant b' r → count_of b'.journal ≡ count_of b.journal
count_granted b seat b' r s = count_step b seat event.Grant b' r s ∙ omega arith

-- a commit adds one
pub count_stored : (b : BookState) (seat : ℕ) (bytes : Vec ℕ) (b' : BookState) (r : BookReply) → Stepped b seat (event.Commit bytes) b' r → count_of b'.journal ≡ count_of b.journal + 1
count_stored b seat bytes b' r s = count_step b seat (event.Commit bytes) b' r s

-- and has the number of the last one
pub number_stored : (b : BookState) (seat : ℕ) (bytes : Vec ℕ) (b' : BookState) (n : ℕ) → Stepped b seat (event.Commit bytes) b' (reply.Stored n) → n ≡ count_of b.journal + 1
number_stored b seat bytes b' n s = number_of b seat bytes n s.act s.asked s.may s.told

-- ---- what was found

-- So many commits are taken up, which are known, and which these records are. If the keeper is
-- clean, it found the others behind them.
pub record Takes {K : Type 0} (found : K → List (List ℕ) → Type 0) (is_clean : K → Type 0) (first : K) (count : ℕ) (records : List Entry) (known : List (Option Entry)) (keeper : K) : Type 0 where
  pub commits : List (List ℕ)
  pub long : length commits ≡ count
  pub kept : kept_all records ≡ map bare commits
  pub knows : KnowsFound known commits
  pub left : (rest : List (List ℕ)) → found first rest → is_clean keeper → (more : List (List ℕ)) × (rest ≡ commits ++ more) × found keeper more

module _ {K : Type 0} (found : K → List (List ℕ) → Type 0) (is_clean : K → Type 0) (first : K) where
  pub takes_none : (records : List Entry) (known : List (Option Entry)) → records ≡ [] → Takes found is_clean first 0 records known first
  takes_none records known none = record {
    commits = [];
    long = refl;
    kept = ap kept_all none;
    knows = λ k bytes is. absurd (none-some bytes is);
    left = λ rest was _. (rest, refl, was);
  }

  knows_more : (commits : List (List ℕ)) (bytes : List ℕ) (n : ℕ) (before known : List (Option Entry)) → KnowsFound before commits → n ≡ length commits + 1 → Learns before (found_as n bytes) known → KnowsFound known (commits ++ bytes ∷ [])
  knows_more commits bytes n before known knows number learns k x is = elim (slice_get_push commits bytes k x is) [
    | inl was ↦ learns.keeps (k + 1) (found_as (k + 1) x) (knows k x was)
    | inr (place, same) ↦
        let at : n ≡ k + 1 = omega arith in
        subst (λ m. known_at known m ≡ Some (found_as m x)) at
        (subst (λ w. known_at known n ≡ Some (found_as n w)) (sym same) learns.knows)
  ]

  -- one more is taken up
  pub takes_more : (count n : ℕ) (records records' : List Entry) (bytes : List ℕ) (before known : List (Option Entry)) (old new : K) → Takes found is_clean first count records before old → n ≡ count + 1
      → records' ≡ records ++ found_as n bytes ∷ [] → Learns before (found_as n bytes) known → IsFirstFound found is_clean old bytes new → (is_clean new → is_clean old) → Takes found is_clean first (count + 1) records' known new
  takes_more count n records records' bytes before known old new was number more learns next clean = record {
    commits = was.commits ++ bytes ∷ [];
    long = omega (arith, length-append was.commits (bytes ∷ []), was.long);
    kept =
        ap kept_all more ∙ (map-append kept_as records (found_as n bytes ∷ [])
        ∙ (ap (λ (l : List KeptRecord). l ++ bare bytes ∷ []) was.kept ∙ sym (map-append bare was.commits (bytes ∷ []))));
    knows = knows_more was.commits bytes n before known was.knows (omega (arith, was.long)) learns;
    left = λ rest start is.
        let (behind, both, left) = was.left rest start (clean is) in
        let (after, one, end) = next behind left is in
        (after, both ∙ (ap (λ (l : List (List ℕ)). was.commits ++ l) one ∙ sym (append_assoc was.commits (bytes ∷ []) after)), end);
  }

  -- there is no more
  pub takes_all : {holds : K → List KeptRecord → Type 0} {is_at_end : K → Type 0} (count : ℕ) (records records' : List Entry) (before known : List (Option Entry)) (old new : K) → Takes found is_clean first count records before old
      → records' ≡ records → known ≡ before → ∥ holds new (kept_all records') ∥₁ → is_at_end new → ((rest : List (List ℕ)) → found old rest → is_clean new → rest ≡ []) → (is_clean new → is_clean old)
      → IsOpened holds found is_at_end is_clean first count known
  takes_all {holds = holds} count records records' before known old new was same still held at_end none clean = record {
    commits = was.commits;
    counted = sym was.long;
    knows = subst (λ (l : List (Option Entry)). KnowsFound l was.commits) (sym still) was.knows;
    last = new;
    held = subst (λ (l : List KeptRecord). ∥ holds new l ∥₁) (ap kept_all same ∙ was.kept) held;
    end_is = at_end;
    all_found = λ rest start is.
        let (behind, both, left) = was.left rest start (clean is) in
        sym (both ∙ (ap (λ (l : List (List ℕ)). was.commits ++ l) (none behind left is) ∙ append-nil was.commits));
  }

-- the keeper's next record is the first of those that it found
pub no_first : (rest : List (List ℕ)) → None ≡ first_found rest → rest ≡ []
no_first [] is = refl
no_first (bytes ∷ more) is = absurd (none-some bytes is)

pub first_is : {K : Type 0} (found : K → List (List ℕ) → Type 0) (rest : List (List ℕ)) (bytes : List ℕ) (keeper : K) → Some bytes ≡ first_found rest → LeavesFound found bytes rest keeper
    → (more : List (List ℕ)) × (rest ≡ bytes ∷ more) × found keeper more
first_is found [] bytes keeper is left = absurd (none-some bytes (sym is))
first_is found (first ∷ more) bytes keeper is left = (more, ap (λ (x : List ℕ). x ∷ more) (sym left.0), left.1)

-- A seat takes the turn, and learns one more record.
pub learns_both : (before between after : List (Option Entry)) (o : Option Entry) (r : Entry) → between ≡ learned before o → IfSome o (λ x. Learns before x between) → Learns between r after → Learns before r after
learns_both before between after o r seat granted stored =
    record { knows = stored.knows; keeps = λ m x was. stored.keeps m x (still before between o seat granted m x was) }
