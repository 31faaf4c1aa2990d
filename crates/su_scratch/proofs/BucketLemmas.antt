-- What a bucket finds, through what is written and noted.
use Rattle.std.proofs.Common.{◌≡◌, ℕ, ◌+◌, ◌<◌, ◌≤◌, ◌^◌, true, false, cond, List, [], ◌∷◌, ◌++◌, length, Option, Some, None, refl, sym, ap, ◌∙◌, subst, arith, append_assoc, append-nil, length-append}
use Rattle.std.specs.Prelude.{IfSome, is_some, Result, Ok, Err, OnErr}
use Rattle.std.specs.List.{AllByRecursion}
use Rattle.std.specs.Str.{bytes_eq}
use Rattle.su_scratch.specs.declared.notes.Place.{Place}
use Rattle.su_scratch.specs.declared.notes.Note.{Note}
use Rattle.su_scratch.specs.declared.pages.TheConstants.{NOTES_OF_A_PAGE}
use Rattle.su_scratch.specs.Written.{LiesAt}
use Rattle.su_scratch.specs.Page.{page_bytes, later, place_in, IsNote}
use Rattle.su_scratch.specs.Bucket.{bucket_of, InMemory, Pages, newest_of, IsPageAt, AreWritten, found_on, Finds, found_with, Grows}
use Rattle.su_scratch.proofs.Later.{later_some, later_none, later-append}

-- ---- what lies in a scratch stays there

pub lies_still : (w more : List ℕ) (place : ℕ) (s : List ℕ) → LiesAt w place s → LiesAt (w ++ more) place s
lies_still w more place s l = record {
  front = l.front;
  back = l.back ++ more;
  place_is = l.place_is;
  written_is = ap (λ x. x ++ more) l.written_is ∙ append_assoc l.front (s ++ l.back) more ∙ ap (λ x. l.front ++ x) (append_assoc s l.back more);
}

pub written_still : (w more : List ℕ) (pages : Pages) → AreWritten w pages → AreWritten (w ++ more) pages
written_still w more [] are = tt
written_still w more (page ∷ older) are = (
  record {
    lies = lies_still w more page.0 (page_bytes (newest_of older) page.1) are.0.lies;
    page = are.0.page;
    place_fits = are.0.place_fits;
    descends = are.0.descends;
  },
  written_still w more older are.1,
)

pub finds_still : (i : ℕ) (old new : List ℕ) (b : InMemory) (found : List ℕ → Option Place) → Grows old new → Finds i old b found → Finds i new b found
finds_still i old new b found grows f = record {
  pages = f.pages;
  newest = f.newest;
  are_written = subst (λ w. AreWritten w f.pages) (sym grows.1) (written_still old grows.0 f.pages f.are_written);
  notes = f.notes;
  each = f.each;
}

-- ---- a page is written

is_long : (older : Option ℕ) (notes : List Note) → 1 ≤ length (page_bytes older notes)
is_long None notes = omega arith
is_long (Some place) notes = omega arith

lies_before : (w : List ℕ) (place : ℕ) (s : List ℕ) → 1 ≤ length s → LiesAt w place s → place < length w
lies_before w place s long l =
    let e : length w ≡ length l.front + length (s ++ l.back) = ap length l.written_is ∙ length-append l.front (s ++ l.back) in
    let more = length-append s l.back in
    omega (arith, l.place_is, e, more, long)

newest_fits : (w : List ℕ) (pages : Pages) → AreWritten w pages → IfSome (newest_of pages) (λ place. place < 2 ^ 64)
newest_fits w [] are = tt
newest_fits w (page ∷ older) are = are.0.place_fits

newest_before : (w : List ℕ) (pages : Pages) → AreWritten w pages → IfSome (newest_of pages) (λ place. place < length w)
newest_before w [] are = tt
newest_before w (page ∷ older) are = lies_before w page.0 (page_bytes (newest_of older) page.1) (is_long (newest_of older) page.1) are.0.lies

pub page_lies : (w w' : List ℕ) (place : ℕ) (pages : Pages) (notes : List Note) → AreWritten w pages → AllByRecursion IsNote notes → length notes ≡ NOTES_OF_A_PAGE → place ≡ length w → place < 2 ^ 64 → w' ≡ w ++ page_bytes (newest_of pages) notes → IsPageAt w' place (newest_of pages) notes
page_lies w w' place pages notes are each full at fits grown = record {
  lies = record {
    front = w;
    back = [];
    place_is = sym at;
    written_is = grown ∙ ap (λ x. w ++ x) (sym (append-nil (page_bytes (newest_of pages) notes)));
  };
  page = record { older_fits = newest_fits w pages are; each = each; full = full };
  place_fits = fits;
  descends = subst (λ n. IfSome (newest_of pages) (λ before. before < n)) (sym at) (newest_before w pages are);
}

pub page_moved : (i : ℕ) (w w' : List ℕ) (b new : InMemory) (found : List ℕ → Option Place) (place : ℕ) → length b.notes ≡ NOTES_OF_A_PAGE → place ≡ length w → place < 2 ^ 64 → w' ≡ w ++ page_bytes b.page b.notes → new.notes ≡ [] → new.page ≡ Some place → Finds i w b found → Finds i w' new found
page_moved i w w' b new found place full at fits grown none page f =
    let grown_by : w' ≡ w ++ page_bytes (newest_of f.pages) b.notes = grown ∙ ap (λ o. w ++ page_bytes o b.notes) f.newest in
    record {
      pages = (place, b.notes) ∷ f.pages;
      newest = page;
      are_written = (
        page_lies w w' place f.pages b.notes f.are_written f.notes full at fits grown_by,
        subst (λ x. AreWritten x f.pages) (sym grown_by) (written_still w (page_bytes (newest_of f.pages) b.notes) f.pages f.are_written),
      );
      notes = subst (λ ns. AllByRecursion IsNote ns) (sym none) tt;
      each = λ d is. f.each d is ∙ sym (ap (λ ns. later d (later d (found_on d f.pages) b.notes) ns) none);
    }

-- ---- a note is added

each_more : (notes : List Note) (n : Note) → AllByRecursion IsNote notes → IsNote n → AllByRecursion IsNote (notes ++ n ∷ [])
each_more [] n all is = (is, tt)
each_more (m ∷ notes) n all is = (all.0, each_more notes n all.1 is)

pub note_added : (i : ℕ) (w : List ℕ) (b new : InMemory) (found : List ℕ → Option Place) (n : Note) → IsNote n → new.page ≡ b.page → new.notes ≡ b.notes ++ n ∷ [] → Finds i w b found → Finds i w new (found_with found n)
note_added i w b new found n is page notes f = record {
  pages = f.pages;
  newest = page ∙ f.newest;
  are_written = f.are_written;
  notes = subst (λ ns. AllByRecursion IsNote ns) (sym notes) (each_more b.notes n f.notes is);
  each = λ d of.
      ap (λ o. cond (bytes_eq d n.digest) (Some n.place) o) (f.each d of)
      ∙ sym (later-append d (found_on d f.pages) b.notes (n ∷ []))
      ∙ ap (λ ns. later d (found_on d f.pages) ns) (sym notes);
}

pub same_bucket : (i : ℕ) (w : List ℕ) (b new : InMemory) (found : List ℕ → Option Place) → new.page ≡ b.page → new.notes ≡ b.notes → Finds i w b found → Finds i w new found
same_bucket i w b new found page notes f = record {
  pages = f.pages;
  newest = page ∙ f.newest;
  are_written = f.are_written;
  notes = subst (λ ns. AllByRecursion IsNote ns) (sym notes) f.notes;
  each = λ d of. f.each d of ∙ ap (λ ns. later d (found_on d f.pages) ns) (sym notes);
}

-- ---- a bucket is asked

pub found_in_memory : (d w : List ℕ) (b : InMemory) (found : List ℕ → Option Place) (place : Place) → Finds (bucket_of d) w b found → place_in d b.notes ≡ Some place → Some place ≡ found d
found_in_memory d w b found place f is = sym (f.each d refl ∙ later_some d (found_on d f.pages) b.notes place is)

pub found_on_pages : (d w : List ℕ) (b : InMemory) (found : List ℕ → Option Place) (f : Finds (bucket_of d) w b found) → place_in d b.notes ≡ None → found_on d f.pages ≡ found d
found_on_pages d w b found f none = sym (f.each d refl ∙ later_none d (found_on d f.pages) b.notes none)

-- ---- page by page

-- the pages that are left tell what all do
pub record AreLeftOn (w : List ℕ) (next : Option ℕ) (d : List ℕ) (all : Option Place) : Type 0 where
  pub rest : Pages
  pub next_is : next ≡ newest_of rest
  pub are_written : AreWritten w rest
  pub tells : found_on d rest ≡ all

pub record IsNextPage (w : List ℕ) (place : ℕ) (d : List ℕ) (all : Option Place) : Type 0 where
  pub older : Pages
  pub notes : List Note
  pub page : IsPageAt w place (newest_of older) notes
  pub are_written : AreWritten w older
  pub tells : later d (found_on d older) notes ≡ all

next_page_of : (w : List ℕ) (place : ℕ) (d : List ℕ) (all : Option Place) (rest : Pages) → Some place ≡ newest_of rest → AreWritten w rest → found_on d rest ≡ all → IsNextPage w place d all
next_page_of w place d all [] is are tells = let no : ⊥ = cc in absurd no
next_page_of w place d all (page ∷ older) is are tells =
    let same : page.0 ≡ place = cc in
    record {
      older = older;
      notes = page.1;
      page = subst (λ p. IsPageAt w p (newest_of older) page.1) same are.0;
      are_written = are.1;
      tells = tells;
    }

pub next_page : (w : List ℕ) (place : ℕ) (d : List ℕ) (all : Option Place) → AreLeftOn w (Some place) d all → IsNextPage w place d all
next_page w place d all l = next_page_of w place d all l.rest l.next_is l.are_written l.tells

-- a note on the next page tells it
there : (w : List ℕ) (place : ℕ) (d : List ℕ) (all : Option Place) (p : IsNextPage w place d all) (o : Option Place) → place_in d p.notes ≡ o → is_some o ≡ true → o ≡ all
there w place d all p None is some = cc
there w place d all p (Some x) is some = sym (later_some d (found_on d p.older) p.notes x is) ∙ p.tells

pub told_there : (w : List ℕ) (place : ℕ) (d : List ℕ) (all : Option Place) (p : IsNextPage w place d all) (o : Option Place) → o ≡ place_in d p.notes → is_some o ≡ true → o ≡ all
told_there w place d all p o is some = there w place d all p o (sym is) some

-- none does, and the page before it is asked
before : (w : List ℕ) (place : ℕ) (d : List ℕ) (all : Option Place) (p : IsNextPage w place d all) (next : Option ℕ) (o : Option Place) → next ≡ newest_of p.older → place_in d p.notes ≡ o → is_some o ≡ false → AreLeftOn w next d all
before w place d all p next None is told none = record {
  rest = p.older;
  next_is = is;
  are_written = p.are_written;
  tells = sym (later_none d (found_on d p.older) p.notes told) ∙ p.tells;
}
before w place d all p next (Some x) is told none = let no : ⊥ = cc in absurd no

pub told_before : (w : List ℕ) (place : ℕ) (d : List ℕ) (all : Option Place) (p : IsNextPage w place d all) (next : Option ℕ) (o : Option Place) → next ≡ newest_of p.older → o ≡ place_in d p.notes → is_some o ≡ false → AreLeftOn w next d all
told_before w place d all p next o is told none = before w place d all p next o is (sym told) none

none_left_of : (d : List ℕ) (all : Option Place) (rest : Pages) → None ≡ newest_of rest → found_on d rest ≡ all → None ≡ all
none_left_of d all [] is tells = tells
none_left_of d all (page ∷ older) is tells = let no : ⊥ = cc in absurd no

pub none_left : (w : List ℕ) (d : List ℕ) (all : Option Place) → AreLeftOn w None d all → None ≡ all
none_left w d all l = none_left_of d all l.rest l.next_is l.tells

-- a fact that holds however a call ends
pub however : {T E : Type 0} (r : Result T E) (P : Type 0) → P → OnErr r P
however (Ok x) P p = tt
however (Err e) P p = p
