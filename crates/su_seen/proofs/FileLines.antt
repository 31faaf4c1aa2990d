-- Lines that tell of files, taken from the front of a text.
use Rattle.std.proofs.Common.{◌≡◌, ℕ, zero, suc, ◌+◌, ◌<◌, ◌≤◌, ◌^◌, true, Bool, not, List, [], ◌∷◌, ◌++◌, All, Option, Some, None, length, take, drop, append_assoc, refl, sym, ap, subst, ◌∙◌, arith}
use Rattle.std.specs.Prelude.{slice_index}
use Rattle.std.specs.Char.{is_ascii_digit}
use Rattle.std.specs.FinMap.{empty, insert}
use Rattle.std.specs.Fmt.{decimal}
use Rattle.std.specs.List.{list_all}
use Rattle.std.specs.Str.{all_ascii_digits}
use Rattle.std.proofs.lemmas.Bool.{and_parts}
use Rattle.std.proofs.lemmas.Bool.Decides.{nat_tests}
use Rattle.std.proofs.lemmas.Fmt.{digits_decimal}
use Rattle.std.proofs.lemmas.Grind.{flat_map-append}
use Rattle.std.proofs.lemmas.List.{length-append, append-nil}
use Rattle.std.proofs.lemmas.List.Folds.{list_all-append}
use Rattle.std.proofs.Math.Seq.{drop-append_seam, take-append_seam}
use Rattle.su_spelling.specs.Shown.{AreBytes, is_control, shown}
use Rattle.su_spelling.proofs.Public.{stays-shown_from}
use Rattle.su_seen.specs.Line.{seen_line}
use Rattle.su_seen.specs.Seen.{Seen, IsFile, IsTold, TakesLine, file_line, file_lines, told_by}
use Rattle.su_seen.proofs.Spaces.{own}
use Rattle.su_seen.proofs.Told.{told_by-append}

abbrev stays : ℕ → Bool
stays b = not (is_control b)

digit_stays : (c : ℕ) → is_ascii_digit c ≡ true → stays c ≡ true
digit_stays c digit = grind (arith, nat_tests, digit)

digits_stay : (ds : List ℕ) → all_ascii_digits ds ≡ true → list_all stays ds ≡ true
digits_stay [] digits = refl
digits_stay (c ∷ ds) digits =
    let parts = and_parts (is_ascii_digit c) (all_ascii_digits ds) digits in
    let first = digit_stays c parts.0 in
    rw first (digits_stay ds parts.1)

line_stays : (n : ℕ) (path : List ℕ) → n < 2 ^ 64 → AreBytes path → list_all stays (seen_line n path) ≡ true
line_stays n path small bytes =
    let digits = digits_stay (decimal n) (digits_decimal own n small) in
    rw (list_all-append stays (decimal n) (32 ∷ shown path), digits) (stays-shown_from 0 path tt bytes)

no_feed : (b : ℕ) → stays b ≡ true → b ≡ 10 → ⊥
no_feed b stay is = grind (arith, nat_tests, stay, is)

first_feed : (line rest : List ℕ) (p : ℕ) → list_all stays line ≡ true → p ≤ length (line ++ 10 ∷ rest)
    → ((k : ℕ) → k < p → slice_index (line ++ 10 ∷ rest) k ≡ 10 → ⊥) → (p < length (line ++ 10 ∷ rest) → slice_index (line ++ 10 ∷ rest) p ≡ 10) → p ≡ length line
first_feed [] rest zero stay within before at = refl
first_feed [] rest (suc p) stay within before at = absurd (before 0 (omega arith) refl)
first_feed (b ∷ line) rest zero stay within before at =
    absurd (no_feed b (and_parts (stays b) (list_all stays line) stay).0 (at (omega arith)))
first_feed (b ∷ line) rest (suc p) stay within before at =
    let same = first_feed line rest p (and_parts (stays b) (list_all stays line) stay).1 (omega arith) (λ k below. before (suc k) (omega arith)) (λ below. at (omega arith)) in
    omega (arith, same)

-- a text that was cut at its first line feed, and begins with the line of a file
pub record IsFront (text : List ℕ) (p : ℕ) (file : List ℕ × ℕ) : Type 0 where
  pub within : p < length text
  pub front : take p text ≡ seen_line file.1 file.0
  pub long : p + 1 ≡ length (file_line file)

pub front_line : (text rest : List ℕ) (p : ℕ) (file : List ℕ × ℕ) → IsFile file → text ≡ file_line file ++ rest → p ≤ length text
    → ((k : ℕ) → k < p → slice_index text k ≡ 10 → ⊥) → (p < length text → slice_index text p ≡ 10) → IsFront text p file
front_line text rest p file is_file is within before at =
    let line = seen_line file.1 file.0 in
    let cut : text ≡ line ++ 10 ∷ rest = is ∙ append_assoc line (10 ∷ []) rest in
    let place : p ≡ length line =
    first_feed line rest p (line_stays file.1 file.0 is_file.number is_file.path) (subst (λ (it : List ℕ). p ≤ length it) cut within)
    (subst (λ (it : List ℕ). (k : ℕ) → k < p → slice_index it k ≡ 10 → ⊥) cut before) (subst (λ (it : List ℕ). p < length it → slice_index it p ≡ 10) cut at) in
    let long = ap length cut ∙ length-append line (10 ∷ rest) in
    let one_more = length-append line (10 ∷ []) in
    record {
      within = omega (arith, place, long);
      front = ap (take p) cut ∙ ap (λ (it : ℕ). take it (line ++ 10 ∷ rest)) place ∙ take-append_seam line (10 ∷ rest);
      long = omega (arith, place, one_more);
    }

-- cut at a line feed
cut_at : (text : List ℕ) (p : ℕ) → p < length text → slice_index text p ≡ 10 → text ≡ (take p text ++ 10 ∷ []) ++ drop (suc p) text
cut_at [] p below at = absurd (omega arith)
cut_at (b ∷ text) zero below at = ap (λ (it : ℕ). it ∷ text) at
cut_at (b ∷ text) (suc p) below at = ap (λ (it : List ℕ). b ∷ it) (cut_at text p (omega arith) at)

next_place : (p : ℕ) → suc p ≡ p + 1
next_place p = omega arith

pub taken_line : (before after : Seen) (text : List ℕ) (p : ℕ) (file : List ℕ × ℕ) → p < length text → slice_index text p ≡ 10
    → take p text ≡ seen_line file.1 file.0 → after ≡ insert before file.0 file.1 → TakesLine before after text (p + 1)
taken_line before after text p file below at front noted = record {
  file = file;
  line = cut_at text p below at ∙ ap (λ (it : List ℕ). (it ++ 10 ∷ []) ++ drop (suc p) text) front
      ∙ ap (λ (it : ℕ). file_line file ++ drop it text) (next_place p);
  noted = noted;
  some_byte = omega arith;
  within = omega (arith, below);
}

pub noted_of : (before after : Seen) (path bytes : List ℕ) (m n : ℕ) → after ≡ insert before path m → path ≡ bytes → m ≡ n → after ≡ insert before bytes n
noted_of before after path bytes m n noted same number = noted ∙ ap (λ it. insert before it m) same ∙ ap (insert before bytes) number

-- ---- the lines of a text, taken one after another

-- lines stand before what is left, and this is what they tell
pub record IsToldBefore (text : List ℕ) (seen : Seen) (left : List ℕ) : Type 0 where
  pub files : List (List ℕ × ℕ)
  pub lines : text ≡ file_lines files ++ left
  pub told : seen ≡ told_by empty files

-- what is left are lines of files, which tell behind what was told the same as all of them
pub record IsRest (seen : Seen) (left : List ℕ) (files : List (List ℕ × ℕ)) : Type 0 where
  pub rest : List (List ℕ × ℕ)
  pub are_files : All IsFile rest
  pub lines : left ≡ file_lines rest
  pub told : told_by seen rest ≡ told_by empty files

-- where the text is lines of files, what is left are the last of them
abbrev pub GoesOn : List ℕ → Seen → List ℕ → Type 0
GoesOn text seen left = (files : List (List ℕ × ℕ)) → All IsFile files → text ≡ file_lines files → IsRest seen left files

pub told_first : (text : List ℕ) → IsToldBefore text empty text
told_first text = record { files = []; lines = refl; told = refl }

pub goes_on_first : (text : List ℕ) → GoesOn text empty text
goes_on_first text files are lines = record { rest = files; are_files = are; lines = lines; told = refl }

pub told_next : (text left : List ℕ) (seen after : Seen) (taken : ℕ) → IsToldBefore text seen left → TakesLine seen after left taken
    → IsToldBefore text after (drop taken left)
told_next text left seen after taken before takes =
    let more : file_lines (before.files ++ takes.file ∷ []) ≡ file_lines before.files ++ file_line takes.file =
    flat_map-append file_line before.files (takes.file ∷ []) ∙ ap (λ it. file_lines before.files ++ it) (append-nil (file_line takes.file)) in
    record {
      files = before.files ++ takes.file ∷ [];
      lines = before.lines ∙ ap (λ it. file_lines before.files ++ it) takes.line
          ∙ sym (append_assoc (file_lines before.files) (file_line takes.file) (drop taken left)) ∙ ap (λ it. it ++ drop taken left) (sym more);
      told = takes.noted ∙ ap (λ it. insert it takes.file.0 takes.file.1) before.told ∙ sym (told_by-append empty before.files takes.file);
    }

first_file : (file : List ℕ × ℕ) (files : List (List ℕ × ℕ)) → All IsFile (file ∷ files) → IsFile file
first_file file files are = are 0 ([], 0) (omega arith)

behind_file : (file : List ℕ × ℕ) (files : List (List ℕ × ℕ)) → All IsFile (file ∷ files) → All IsFile files
behind_file file files are = λ k d below. are (suc k) d (omega arith)

-- what the first line tells, where that is one of a file
abbrev pub ReadsFirst : Seen → Seen → List ℕ → Option ℕ → Type 0
ReadsFirst seen after left taken =
    (file : List ℕ × ℕ) (rest : List ℕ) → IsFile file → left ≡ file_line file ++ rest
    → (taken ≡ Some (length (file_line file))) × (after ≡ insert seen file.0 file.1)

no_line_left : (left : List ℕ) (files : List (List ℕ × ℕ)) → 0 < length left → left ≡ file_lines files → files ≡ [] → ⊥
no_line_left left files some lines none = let same = ap length (lines ∙ ap file_lines none) in omega (arith, same)

next_rest : (left : List ℕ) (seen after : Seen) (taken : Option ℕ) (all rest : List (List ℕ × ℕ)) → 0 < length left → All IsFile rest
    → left ≡ file_lines rest → told_by seen rest ≡ told_by empty all → ReadsFirst seen after left taken
    → (n : ℕ) × (taken ≡ Some n) × IsRest after (drop n left) all
next_rest left seen after taken all [] some are lines told reads = absurd (no_line_left left [] some lines refl)
next_rest left seen after taken all (file ∷ rest) some are lines told reads =
    let read = reads file (file_lines rest) (first_file file rest are) lines in (
      length (file_line file),
      read.0,
      record {
        rest = rest;
        are_files = behind_file file rest are;
        lines = ap (drop (length (file_line file))) lines ∙ drop-append_seam (file_line file) (file_lines rest);
        told = ap (λ it. told_by it rest) read.1 ∙ told;
      },
    )

same_some : (m n : ℕ) → Some m ≡ Some n → m ≡ n
same_some m n e = cc e

pub goes_on_next : (text left : List ℕ) (seen after : Seen) (taken : Option ℕ) (n : ℕ) → 0 < length left → GoesOn text seen left
    → ReadsFirst seen after left taken → taken ≡ Some n → GoesOn text after (drop n left)
goes_on_next text left seen after taken n some goes reads is files are lines =
    let on = goes files are lines in
    let next = next_rest left seen after taken files on.rest some on.are_files on.lines on.told reads in
    subst (λ (it : ℕ). IsRest after (drop it left) files) (same_some next.0 n (sym next.1 ∙ is)) next.2

pub not_read : (text left : List ℕ) (seen after : Seen) (taken : Option ℕ) (files : List (List ℕ × ℕ)) → 0 < length left → GoesOn text seen left
    → ReadsFirst seen after left taken → taken ≡ None → All IsFile files → text ≡ file_lines files → ⊥
not_read text left seen after taken files some goes reads is are lines =
    let on = goes files are lines in
    let next = next_rest left seen after taken files on.rest some on.are_files on.lines on.told reads in
    none_or_some (next.0) (sym is ∙ next.1) where
      none_or_some : (n : ℕ) → None ≡ Some n → ⊥
      none_or_some n e = cc e

line_has_bytes : (file : List ℕ × ℕ) (rest : List ℕ) → 0 < length (file_line file ++ rest)
line_has_bytes file rest =
    let long = length-append (file_line file) rest in
    let one_more = length-append (seen_line file.1 file.0) (10 ∷ []) in
    omega (arith, long, one_more)

pub told_at_end : (text left : List ℕ) (seen : Seen) → length left ≡ 0 → IsToldBefore text seen left → IsTold text seen
told_at_end text [] seen none before = record { files = before.files; lines = before.lines ∙ append-nil (file_lines before.files); told = before.told }
told_at_end text (b ∷ left) seen none before = absurd (omega arith)

pub read_at_end : (text left : List ℕ) (seen : Seen) (files : List (List ℕ × ℕ)) → length left ≡ 0 → GoesOn text seen left → All IsFile files → text ≡ file_lines files
    → Some seen ≡ Some (told_by empty files)
read_at_end text left seen files none goes are lines =
    let on = goes files are lines in ap Some (at_end on.rest on.lines on.told) where
      at_end : (rest : List (List ℕ × ℕ)) → left ≡ file_lines rest → told_by seen rest ≡ told_by empty files → seen ≡ told_by empty files
      at_end [] lines told = told
      at_end (file ∷ rest) lines told = let some = line_has_bytes file (file_lines rest) in let same = ap length lines in absurd (omega (arith, some, same, none))
