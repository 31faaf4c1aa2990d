-- The seats of a book against what is kept for them.
use Rattle.std.proofs.Common.{◌≡◌, ℕ, ◌+◌, ◌<◌, ◌≤◌, List, [], ◌∷◌, ◌++◌, length, map, take, Some, get_or, refl, ap, sym, ◌∙◌, subst, arith, inl, inr, slice_get, IfErr, Result, Ok, Err}
use Rattle.std.specs.List.{sum_by}
use Rattle.std.specs.Option.{option_map}
use Rattle.std.proofs.lemmas.List.{take_more, map-append, length-map, same_lists, get_or_default}
use Rattle.std.proofs.lemmas.List.Sums.{sum_by-cons}
use Rattle.std.specs.List.Sorted.{IsNonDecreasingBy, IsPermutation}
use Rattle.std.specs.Global.{Vec}
use Rattle.std.proofs.lemmas.List.Sorted.{sum_by-IsPermutation}
use Rattle.std.proofs.lemmas.Bool.{cases_eq}
use Rattle.std.proofs.lemmas.Option.{slice_get_read, slice_get-map, slice_get-get_or, same_Some, get_or_from_slice_get}
use Rattle.su_book.specs.Machine.{BookState, count_of}
use Rattle.su_shared.specs.Entry.{Entry}
use Rattle.su_shared.specs.declared.seats.Kept.{Kept}
use Rattle.su_shared.specs.Seats.{SeatView}
use Rattle.su_shared.specs.Shares.{HeldView, IsHeld, IsOrderly, AreAll, AreInOrder, EachKnows, EachStands, nothing}

-- what holds below i and at i holds below i + 1
pub below_next : {X : Type 0} (P : ℕ → X → Type 0) (xs : List X) (i : ℕ) (x : X) → x ≡ get_or xs i x → i < length xs → P i x → ((k : ℕ) (s : X) → k < i → slice_get xs k ≡ Some s → P k s) → (k : ℕ) (s : X) → k < i + 1 → slice_get xs k ≡ Some s → P k s
below_next P xs i x at within here below k s lt is = elim (cases_eq k i) [
  | inl same ↦
      let found : slice_get xs i ≡ Some x = slice_get_read xs (length xs) i x refl within at in
      let e : x ≡ s = same_Some x s (sym found ∙ (ap (slice_get xs) (sym same) ∙ is)) in
      subst (λ n. P n s) (sym same) (subst (P i) e here)
  | inr apart ↦ below k s (omega (arith, apart)) is
]

pub kept_more : (seats : List SeatView) (kept : List Kept) (i : ℕ) (s : SeatView) → s ≡ get_or seats i s → i < length seats → i < length kept → s.kept ≡ get_or kept i nothing → map (λ (x : SeatView). x.kept) (take i seats) ≡ take i kept → map (λ (x : SeatView). x.kept) (take (i + 1) seats) ≡ take (i + 1) kept
kept_more seats kept i s at in_seats in_kept same was =
    ap (map (λ (x : SeatView). x.kept)) (take_more seats i s in_seats)
    ∙ (map-append (λ (x : SeatView). x.kept) (take i seats) (get_or seats i s ∷ [])
    ∙ (ap (λ (l : List Kept). l ++ (get_or seats i s).kept ∷ []) was
    ∙ (ap (λ (k : Kept). take i kept ++ k ∷ []) (ap (λ (x : SeatView). x.kept) (sym at) ∙ same)
    ∙ sym (take_more kept i nothing in_kept))))

-- what is kept for all of the book's seats is what they were told
pub kept_are : (cells : ℕ) (b : BookState) (receipts : List Entry) (kept : List Kept) (seats : List SeatView) → IsHeld cells b receipts kept → AreAll seats (record { book = b; seats = length kept; records = receipts }) → map (λ (s : SeatView). s.kept) seats ≡ kept
kept_are cells b receipts kept seats held all =
    same_lists (map (λ (s : SeatView). s.kept) seats) kept (length-map seats (λ (s : SeatView). s.kept) ∙ all.count)
    (λ k d within.
    let inside : k < length seats = omega (arith, length-map seats (λ (s : SeatView). s.kept)) in
    let s : SeatView = get_or seats k (record { number = 0; kept = d; known = [] }) in
    let there : slice_get seats k ≡ Some s = slice_get-get_or seats k (record { number = 0; kept = d; known = [] }) inside in
    let here : get_or (map (λ (x : SeatView). x.kept) seats) k d ≡ s.kept =
    get_or_from_slice_get (map (λ (x : SeatView). x.kept) seats) k s.kept d (slice_get-map (λ (x : SeatView). x.kept) seats k ∙ ap (option_map (λ (x : SeatView). x.kept)) there) in
    here ∙ ((all.each k s there).1 ∙ (sym (held.each k) ∙ get_or_default kept k nothing d (omega (arith, all.count)))))

pub in_order : (seats : List SeatView) (h : HeldView) → AreAll seats h → AreInOrder seats
in_order seats h all k s is = (all.each k s is).0

sum_by-map : (f : Kept → ℕ) (xs : List SeatView) → sum_by f (map (λ (x : SeatView). x.kept) xs) ≡ sum_by (λ (x : SeatView). f x.kept) xs
sum_by-map f [] = refl
sum_by-map f (x ∷ xs) =
    sum_by-cons f x.kept (map (λ (y : SeatView). y.kept) xs) ∙ (ap (λ (n : ℕ). f x.kept + n) (sum_by-map f xs) ∙ sym (sum_by-cons (λ (y : SeatView). f y.kept) x xs))

pub all_kept : (cells : ℕ) (b : BookState) (receipts : List Entry) (kept : List Kept) (seats : List SeatView) → IsHeld cells b receipts kept → map (λ (s : SeatView). s.kept) seats ≡ kept → ((k : ℕ) (s : SeatView) → slice_get seats k ≡ Some s → s.number ≡ k) → AreAll seats (record { book = b; seats = length kept; records = receipts })
all_kept cells b receipts kept seats held same numbers =
    record {
      count = sym (length-map seats (λ (s : SeatView). s.kept)) ∙ ap length same;
      each = λ k s is.
          let found : slice_get kept k ≡ Some s.kept =
          ap (λ (l : List Kept). slice_get l k) (sym same) ∙ (slice_get-map (λ (x : SeatView). x.kept) seats k ∙ ap (option_map (λ (x : SeatView). x.kept)) is) in
          (numbers k s is, sym (get_or_from_slice_get kept k s.kept nothing found) ∙ held.each k);
      stored = sym (sum_by-map (λ (k : Kept). k.stored) seats) ∙ (ap (sum_by (λ (k : Kept). k.stored)) same ∙ held.stored);
      steps = sym (sum_by-map (λ (k : Kept). k.steps) seats) ∙ (ap (sum_by (λ (k : Kept). k.steps)) same ∙ held.steps);
    }

pub same_sum : (f : SeatView → ℕ) (xs ys : List SeatView) → IsPermutation xs ys → sum_by f ys ≡ sum_by f xs
same_sum f xs ys p = sum_by-IsPermutation f xs ys p

pub stands : (h : HeldView) (book : BookState) (seats : List SeatView) → book ≡ h.book → IsOrderly h.book.journal → AreAll seats h → EachKnows seats h.records → EachStands seats book.journal h.records
stands h book seats same order all knows =
    subst (λ (v : BookState). EachStands seats v.journal h.records) (sym same) (λ k s is.
    let (number, kept) = all.each k s is in
    (number, kept, subst (λ (x : Kept). x.top ≤ count_of h.book.journal) (sym kept) (order.top k), knows k s is))

-- what is handed back are the seats, in the order of their numbers, which aren't all of the book's
pub handed_back : {B : Type 0} (result : Result B (HeldView × Vec SeatView)) (h : HeldView) (seats sorted : List SeatView) → IsPermutation seats sorted → IsNonDecreasingBy (λ (s : SeatView). s.number) sorted
    → IfErr result (λ r. (r.0 ≡ h) × (r.1.items ≡ sorted) × ¬ AreAll sorted h) → IfErr result (λ r. (r.0 ≡ h) × IsPermutation seats r.1.items × IsNonDecreasingBy (λ (s : SeatView). s.number) r.1.items × ¬ AreAll r.1.items h)
handed_back (Ok b) h seats sorted order up back = tt
handed_back (Err r) h seats sorted order up (same, items, none) = (
  same,
  subst (λ (l : List SeatView). IsPermutation seats l) (sym items) order,
  subst (λ (l : List SeatView). IsNonDecreasingBy (λ (s : SeatView). s.number) l) (sym items) up,
  λ all. none (subst (λ (l : List SeatView). AreAll l h) items all),
)
