-- A list of commits as bytes, record by record.
use Rattle.std.proofs.Common.{◌≡◌, ℕ, zero, suc, get_or, take, ◌+◌, ◌-◌, ◌<◌, ◌≤◌, ◌^◌, ◌⊎◌, List, [], ◌∷◌, ◌++◌, length, length-append, refl, sym, ap, ◌∙◌, subst, arith, append_assoc, append-nil, inl, inr}
use Rattle.std.specs.List.{AllByRecursion}
use Rattle.std.proofs.lemmas.List.{flat_map_more}
use Rattle.su_change.specs.Item.{item_bytes}
use Rattle.su_block.specs.declared.failures.Failures.{Failures}
use Rattle.su_format.specs.Part.{u32_bytes}
use Rattle.su_version.specs.Commit.{commit_bytes}
use Rattle.su_legal.specs.Legal.{Committed, LegalAfter}
use Rattle.su_legal.proofs.Public.{after_both}
use Rattle.su_view.specs.Holding.{HoldingState, with_more}
use Rattle.su_log.specs.Part.{part_bytes, BeginWith}
use Rattle.su_view.specs.Listing.{commits_bytes, HasTaken, IsRefusedBytes, IsRefusedFirst, RefusesNext}
use Rattle.su_view.specs.declared.refusals.ViewRefusal.{ViewRefusal}
use Rattle.su_view.specs.Listing.{HasTaken, RefusesNext}
use Rattle.su_view.specs.Viewed.{FailsToLoad, Grows, IsClear, ViewOn}

-- ---- records

-- the first of some bytes are bytes
pub bytes_in_front : (n : ℕ) (bytes : List ℕ) → ((i : ℕ) → get_or bytes i 0 < 256) → (i : ℕ) → get_or (take n bytes) i 0 < 256
bytes_in_front zero bytes are i = omega arith
bytes_in_front (suc n) [] are i = omega arith
bytes_in_front (suc n) (b ∷ bytes) are zero = are 0
bytes_in_front (suc n) (b ∷ bytes) are (suc i) = bytes_in_front n bytes (λ j. are (suc j)) i

-- what stands behind the number is one
pub record_there : (bytes number behind front back : List ℕ) (size : ℕ) → bytes ≡ number ++ behind → u32_bytes size ≡ number → size < 2 ^ 32
    → front ++ back ≡ behind → length front ≡ size → BeginWith bytes front back
record_there bytes number behind front back size is number_is small whole long = record {
  few = omega (arith, small, long);
  whole = is ∙ (λ i. sym number_is i ++ sym whole i) ∙ ap (λ n. u32_bytes n ++ (front ++ back)) (sym long) ∙ sym (append_assoc (u32_bytes (length front)) front back);
}

-- what is behind a record is shorter
pub shorter : (bytes first rest : List ℕ) → BeginWith bytes first rest → length rest < length bytes
shorter bytes first rest b =
    let long = ap length b.whole in
    let sum = length-append (u32_bytes (length first) ++ first) rest in
    let number = length-append (u32_bytes (length first)) first in
    let four : length (u32_bytes (length first)) ≡ 4 = refl in
    omega (arith, long, sum, number, four)

-- ---- what is refused

pub refused_of_more : (M N : List ℕ → Type 0) → ((item : List ℕ) → M item → N item) → (before after : Failures) (v : HoldingState) (bytes : List ℕ) (e : ViewRefusal)
    → IsRefusedBytes M before after v bytes e → IsRefusedBytes N before after v bytes e
refused_of_more M N within before after v bytes e (inl none) = inl none
refused_of_more M N within before after v bytes e (inr (c, is, bytes_are, inl failed)) = inr (c, is, bytes_are, inl failed)
refused_of_more M N within before after v bytes e (inr (c, is, bytes_are, inr (inl not_next))) = inr (c, is, bytes_are, inr (inl not_next))
refused_of_more M N within before after v bytes e (inr (c, is, bytes_are, inr (inr (item, may, named, next, why)))) =
    inr (c, is, bytes_are, inr (inr (item, within item may, named, next, why)))

module _ {S : Type 0} (M : S → List ℕ → Type 0) where
  pub none_taken : (w : ViewOn S) (bytes : List ℕ) → HasTaken M w bytes 0 w bytes
  none_taken w bytes = record {
    more = [];
    grows = record {
      becomes = ap (λ l. record { roster = w.holding.roster; user = w.holding.user; held = l; itemless = w.holding.itemless }) (sym (append-nil w.holding.held));
      may = λ clear. tt;
    };
    given = tt;
    number = refl;
    front = refl;
  }

  given_more : (P : List ℕ → Type 0) (cs : List Committed) (c : Committed) → AllByRecursion (λ (d : Committed). P (item_bytes d.change)) cs → P (item_bytes c.change) → AllByRecursion (λ (d : Committed). P (item_bytes d.change)) (cs ++ c ∷ [])
  given_more P [] c given here = (here, tt)
  given_more P (d ∷ cs) c (first, given) here = (first, given_more P cs c given here)

  pub one_taken : (v w x : ViewOn S) (bytes rest first others : List ℕ) (n : ℕ) (c : Committed)
      → HasTaken M v bytes n w rest → BeginWith rest first others → first ≡ commit_bytes c.commit → M v.source (item_bytes c.change) → Grows M w (c ∷ []) x
      → (IsClear M x → IsClear M w) → HasTaken M v bytes (n + 1) x others
  one_taken v w x bytes rest first others n c t b is given grows before = record {
    more = t.more ++ c ∷ [];
    grows = record {
      may = λ clear. after_both v.holding.roster v.holding.held t.more (c ∷ []) (t.grows.may (before clear))
          (subst (λ (u : HoldingState). LegalAfter u.roster u.held (c ∷ [])) t.grows.becomes (grows.may clear));
      becomes = grows.becomes ∙ ap (λ u. with_more u (c ∷ [])) t.grows.becomes
          ∙ ap (λ l. record { roster = v.holding.roster; user = v.holding.user; held = l; itemless = v.holding.itemless }) (append_assoc v.holding.held t.more (c ∷ []));
    };
    given = given_more (M v.source) t.more c t.given given;
    number = ap (λ n. n + 1) t.number ∙ sym (length-append t.more (c ∷ []));
    front = t.front ∙ ap (λ r. commits_bytes t.more ++ r) (b.whole ∙ ap (λ f. part_bytes f ++ others) is)
        ∙ sym (append_assoc (commits_bytes t.more) (part_bytes (commit_bytes c.commit)) others)
        ∙ ap (λ l. l ++ others) (flat_map_more (λ (c : Committed). part_bytes (commit_bytes c.commit)) [] t.more c);
  }

  -- the view is another, as its source was asked
  pub taken_still : (v w x : ViewOn S) (bytes rest : List ℕ) (n : ℕ) → HasTaken M v bytes n w rest → x.holding ≡ w.holding → (IsClear M x → IsClear M w) → HasTaken M v bytes n x rest
  taken_still v w x bytes rest n t same before = record {
    more = t.more;
    grows = record { becomes = same ∙ t.grows.becomes; may = λ clear. t.grows.may (before clear) };
    given = t.given;
    number = t.number;
    front = t.front;
  }

  -- ---- what is refused

  pub refuses_next : (failed : S → Failures) (comes : S → S → Type 0) (v w x : ViewOn S) (bytes rest first others : List ℕ) (n : ℕ) (e : ViewRefusal)
      → HasTaken M v bytes n w rest → ((i : List ℕ) → M w.source i → M v.source i) → comes v.source w.source → comes w.source x.source → x.holding ≡ w.holding → (IsClear M x → IsClear M w)
      → length rest ≤ length bytes → BeginWith rest first others
      → (IsClear M x → FailsToLoad e ⊎ IsRefusedBytes (M w.source) (failed w.source) (failed x.source) w.holding first e) → RefusesNext M failed comes v bytes n e x
  refuses_next failed comes v w x bytes rest first others n e t fewer came goes same before within begin why = record {
    rest = rest;
    taken = taken_still v w x bytes rest n t same before;
    goes_on = λ none. let short = ap length none in omega (arith, short, shorter rest first others begin);
    why = λ clear. go (why clear);
  }
    where
      go : FailsToLoad e ⊎ IsRefusedBytes (M w.source) (failed w.source) (failed x.source) w.holding first e
          → FailsToLoad e ⊎ ((place : ℕ) × (here : S) × (place + length rest ≡ length bytes) × comes v.source here × comes here x.source
          × IsRefusedFirst (M v.source) (failed here) (failed x.source) x.holding place rest e)
      go (inl load) = inl load
      go (inr refused) = inr (
        length bytes - length rest,
        w.source,
        omega (arith, within),
        came,
        goes,
        inr (
          first,
          others,
          begin,
          refused_of_more (M w.source) (M v.source) fewer (failed w.source) (failed x.source) x.holding first e
              (subst (λ y. IsRefusedBytes (M w.source) (failed w.source) (failed x.source) y first e) (sym same) refused),
        ),
      )
