-- The line of a run, by what is read of its entries.
use Rattle.std.proofs.Common.{◌≡◌, ◌∙◌, ℕ, ◌+◌, ◌-◌, ◌^◌, ◌<◌, ◌≤◌, List, [], ◌∷◌, ◌++◌, length, map, take, get_or, slice_range, Option, None, Some, true, false, refl, sym, ap, arith}
use Rattle.std.specs.List.{sum_by}
use Rattle.std.proofs.lemmas.Bool.{true≢false}
use Rattle.std.proofs.lemmas.List.{take_more}
use Rattle.std.proofs.lemmas.List.Sums.{sum_by-append, sum_by-cons, sum_by-take-le}
use Rattle.su_op.specs.declared.operations.Change.{Change}
use Rattle.su_op.specs.declared.operations.Change.TheVariants.{Do, Undo, Rekey}
use Rattle.su_desk.specs.declared.entries.Entry.{Entry}
use Rattle.su_history.specs.declared.line.Line.{Line}
use Rattle.su_history.specs.declared.line.Deed.{Deed}
use Rattle.su_history.specs.declared.line.Fate.{Fate}
use Rattle.su_history.specs.declared.line.Fate.TheVariants.{Live, Undone, Lasting}
use Rattle.su_history.specs.Line.{AreUndoers, NumberedEntry, deed_of_run, fate_of, last_of, line_of, numbered}
use Rattle.su_desk.specs.KeptEntry.{is_operation, written}
use Rattle.su_history.proofs.NumberedEntries.{entries_between, entry_of_index, length_numbered, with_number}
use Rattle.su_history.proofs.RunLemmas.{first_between, last_between}

-- ---- what became of an entry

pub lasts : (c : Change) (o : Option ℕ) → is_operation c ≡ false → Lasting ≡ fate_of c o
lasts (Do ops) o lasting = absurd (true≢false lasting)
lasts (Undo n) None lasting = refl
lasts (Undo n) (Some m) lasting = refl
lasts (Rekey k) None lasting = refl
lasts (Rekey k) (Some m) lasting = refl

pub lives : (c : Change) (o : Option ℕ) → is_operation c ≡ true → o ≡ None → Live ≡ fate_of c o
lives (Do ops) o operation none = ap (fate_of (Do ops)) (sym none)
lives (Undo n) o operation none = absurd (true≢false (sym operation))
lives (Rekey k) o operation none = absurd (true≢false (sym operation))

pub was_undone : (c : Change) (o : Option ℕ) (n : ℕ) → is_operation c ≡ true → o ≡ Some n → Undone n ≡ fate_of c o
was_undone (Do ops) o n operation some = ap (fate_of (Do ops)) (sym some)
was_undone (Undo m) o n operation some = absurd (true≢false (sym operation))
was_undone (Rekey k) o n operation some = absurd (true≢false (sym operation))

-- ---- how many bytes are written

abbrev pub bytes_in : List Entry → ℕ
bytes_in es = sum_by (λ (e : Entry). written e.change) es

pub one_written_more : (es : List Entry) (i : ℕ) (e : Entry) → i < length es → e ≡ get_or es i e → bytes_in (take (i + 1) es) ≡ bytes_in (take i es) + written e.change
one_written_more es i e lt is =
    let one = sum_by-cons (λ (e : Entry). written e.change) e [] in
    ap bytes_in (take_more es i e lt ∙ ap (λ x. take i es ++ x ∷ []) (sym is))
    ∙ sum_by-append (λ (e : Entry). written e.change) (take i es) (e ∷ [])
    ∙ ap (λ n. bytes_in (take i es) + n) (one ∙ (omega arith))

-- where those so far are too many, all are
pub too_many : (es : List Entry) (i : ℕ) (e : Entry) → i < length es → e ≡ get_or es i e → 2 ^ 64 ≤ bytes_in (take i es) + written e.change → 2 ^ 64 ≤ bytes_in es
too_many es i e lt is many =
    let more = one_written_more es i e lt is in
    let most = sum_by-take-le (λ (e : Entry). written e.change) es (i + 1) in
    omega (arith, many, more, most)

by_entries : (es : List NumberedEntry) → sum_by (λ (e : NumberedEntry). written e.entry.change) es ≡ bytes_in (map (λ (e : NumberedEntry). e.entry) es)
by_entries [] = refl
by_entries (e ∷ es) =
    sum_by-cons (λ (e : NumberedEntry). written e.entry.change) e es
    ∙ ap (λ n. written e.entry.change + n) (by_entries es)
    ∙ sym (sum_by-cons (λ (e : Entry). written e.change) e.entry (map (λ (e : NumberedEntry). e.entry) es))

-- ---- the line

abbrev line_with : ℕ → ℕ → Entry → Entry → ℕ → Option ℕ → Line
line_with first last x y bytes undoer = record {
  first = first;
  last = last;
  author = x.author;
  deed = deed_of_run x.change y.change bytes;
  fate = fate_of y.change undoer;
}

-- by the author of x
abbrev with_deed : ℕ → ℕ → Entry → Deed → Fate → Line
with_deed first last x deed fate = record { first = first; last = last; author = x.author; deed = deed; fate = fate }

abbrev total : List NumberedEntry → ℕ
total es = sum_by (λ (e : NumberedEntry). written e.entry.change) es

-- of the run of those entries, of which x is the first and y the last
pub line_is : (h : List Entry) (undoers : List (Option ℕ)) (a b : ℕ) (x y : Entry) (bytes : ℕ) → AreUndoers h undoers → a < b → b ≤ length h
    → x ≡ get_or h a x → y ≡ get_or h (b - 1) y → bytes ≡ bytes_in (slice_range h a b)
    → (e : NumberedEntry) (es : List NumberedEntry) → slice_range (numbered h) a b ≡ e ∷ es
    → line_with (a + 1) b x y bytes (get_or undoers (b - 1) None) ≡ line_of (record { first = e; others = es })
line_is h undoers a b x y bytes are low high x_is y_is bytes_is e es is =
    ap (λ n. line_with (a + 1) n x y bytes (get_or undoers (b - 1) None)) last_number
    ∙ ap (λ p. line_with (a + 1) (b - 1 + 1) x y bytes p) (are.each (b - 1) (omega (arith, low, high)))
    ∙ ap (λ n. line_with (a + 1) (b - 1 + 1) x y n (with_number h y (b - 1 + 1)).undoer) told
    ∙ ap (λ (f : NumberedEntry). line_with f.number (b - 1 + 1) f.entry y (total (e ∷ es)) (with_number h y (b - 1 + 1)).undoer) first_is
    ∙ ap (λ (l : NumberedEntry). line_with e.number l.number e.entry l.entry (total (e ∷ es)) l.undoer) last_is
  where
    within : b ≤ length (numbered h)
    within = let c = length_numbered h in omega (arith, c, high)

    last_number : b ≡ b - 1 + 1
    last_number = omega (arith, low)

    first_is : with_number h x (a + 1) ≡ e
    first_is = sym (entry_of_index h a x e (omega (arith, low, high)) x_is) ∙ first_between (numbered h) a b e es e is low

    last_is : with_number h y (b - 1 + 1) ≡ last_of e es
    last_is = sym (entry_of_index h (b - 1) y e (omega (arith, low, high)) y_is) ∙ last_between (numbered h) a b e es e is low within

    told : bytes ≡ total (e ∷ es)
    told = bytes_is ∙ ap bytes_in (sym (entries_between h a b) ∙ ap (map (λ (e : NumberedEntry). e.entry)) is) ∙ sym (by_entries (e ∷ es))

-- the same with what was told of its deed and its fate
pub line_told : (first last : ℕ) (x y : Entry) (bytes : ℕ) (o : Option ℕ) (deed : Deed) (fate : Fate) (l : Line) → deed ≡ deed_of_run x.change y.change bytes → fate ≡ fate_of y.change o → line_with first last x y bytes o ≡ l
    → with_deed first last x deed fate ≡ l
line_told first last x y bytes o deed fate l deed_is fate_is is =
    ap (λ d. with_deed first last x d fate) deed_is ∙ ap (with_deed first last x (deed_of_run x.change y.change bytes)) fate_is ∙ is
