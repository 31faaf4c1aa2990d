-- The lines that are told so far.
use Rattle.std.proofs.Common.{◌≡◌, ◌∙◌, ℕ, ◌+◌, ◌<◌, true, false, cond, List, [], ◌∷◌, ◌++◌, length, take, get_or, refl, sym, ap, zero-add, arith}
use Rattle.std.specs.Prelude.{◌&&◌, ◌||◌, ◌==◌, not}
use Rattle.std.proofs.lemmas.Bool.{and_parts}
use Rattle.std.proofs.lemmas.Bool.Decides.{nat_tests}
use Rattle.std.proofs.lemmas.List.{append_assoc, append-nil, length-append, take_more}
use Rattle.std.proofs.lemmas.List.Concat.{flat_map-append}
use Rattle.std.proofs.lemmas.List.Folds.{list_all-append}
use Rattle.std.proofs.lemmas.List.Sums.{sum_by-append, sum_by-cons}
use Rattle.su_spelling.specs.Shown.{is_control}
use Rattle.su_history.specs.declared.line.Line.{Line}
use Rattle.su_history_text.specs.FileNames.{Names}
use Rattle.su_history_text.specs.Parts.{line_feeds, stays_on_line, stays_on_lines}
use Rattle.su_history_text.specs.Text.{history_text, line_text}

-- a text is that of these lines, with a line feed behind each and no other byte that ends one
pub record IsToldOf (team : List (List ℕ × List ℕ)) (names : Names) (ls : List Line) (text : List ℕ) : Type 0 where
  pub value : text ≡ history_text team names ls
  pub lines : stays_on_lines text ≡ true
  pub count : line_feeds text ≡ length ls

pub none_told : (team : List (List ℕ × List ℕ)) (names : Names) → IsToldOf team names [] []
none_told team names = record { value = refl; lines = refl; count = refl }

-- ---- a line has no line feed

no_line_feed : (b : ℕ) → not (is_control b) ≡ true → (b == 10) ≡ false
no_line_feed b plain = grind (arith, nat_tests, plain)

plain_stays : (b : ℕ) → not (is_control b) ≡ true → (b == 10 || not (is_control b)) ≡ true
plain_stays b plain = grind (arith, nat_tests, plain)

stays_on_some : (text : List ℕ) → stays_on_line text ≡ true → stays_on_lines text ≡ true
stays_on_some [] stays = refl
stays_on_some (b ∷ text) stays =
    let parts = and_parts (not (is_control b)) (stays_on_line text) stays in
    ap (λ s. s && stays_on_lines text) (plain_stays b parts.0) ∙ stays_on_some text parts.1

none_inside : (text : List ℕ) → stays_on_line text ≡ true → line_feeds text ≡ 0
none_inside [] stays = refl
none_inside (b ∷ text) stays =
    let parts = and_parts (not (is_control b)) (stays_on_line text) stays in
    sum_by-cons (λ (x : ℕ). cond (x == 10) 1 0) b text
    ∙ ap (λ s. cond s 1 0 + line_feeds text) (no_line_feed b parts.0) ∙ zero-add (line_feeds text) ∙ none_inside text parts.1

-- ---- one line more

pub next_line : (ls : List Line) (i : ℕ) (l : Line) → i < length ls → l ≡ get_or ls i l → take (i + 1) ls ≡ take i ls ++ l ∷ []
next_line ls i l within is = take_more ls i l within ∙ ap (λ x. take i ls ++ x ∷ []) (sym is)

stays_with : (text told : List ℕ) → stays_on_lines text ≡ true → stays_on_line told ≡ true → stays_on_lines (text ++ (told ++ 10 ∷ [])) ≡ true
stays_with text told stays line =
    let p = λ (b : ℕ). b == 10 || not (is_control b) in
    list_all-append p text (told ++ 10 ∷ [])
    ∙ ap (λ s. s && stays_on_lines (told ++ 10 ∷ [])) stays
    ∙ list_all-append p told (10 ∷ [])
    ∙ ap (λ s. s && true) (stays_on_some told line)

feeds_with : (text told : List ℕ) (n : ℕ) → line_feeds text ≡ n → stays_on_line told ≡ true → line_feeds (text ++ (told ++ 10 ∷ [])) ≡ n + 1
feeds_with text told n is line =
    let f = λ (b : ℕ). cond (b == 10) 1 0 in
    sum_by-append f text (told ++ 10 ∷ [])
    ∙ ap (λ k. k + line_feeds (told ++ 10 ∷ [])) is
    ∙ ap (λ k. n + k) (sum_by-append f told (10 ∷ []) ∙ ap (λ k. k + 1) (none_inside told line))

pub one_told_more : (team : List (List ℕ × List ℕ)) (names : Names) (ls : List Line) (l : Line) (text told new : List ℕ) → IsToldOf team names ls text
    → told ≡ line_text team names l → stays_on_line told ≡ true → new ≡ (text ++ told) ++ 10 ∷ [] → IsToldOf team names (ls ++ l ∷ []) new
one_told_more team names ls l text told new before is line next =
    let joined : new ≡ text ++ (told ++ 10 ∷ []) = next ∙ append_assoc text told (10 ∷ []) in
    record {
      value = joined
          ∙ (λ i. before.value i ++ (is i ++ 10 ∷ []))
          ∙ ap (λ t. history_text team names ls ++ t) (sym (append-nil (line_text team names l ++ 10 ∷ [])))
          ∙ sym (flat_map-append (λ (x : Line). line_text team names x ++ 10 ∷ []) ls (l ∷ []));
      lines = ap stays_on_lines joined ∙ stays_with text told before.lines line;
      count = ap line_feeds joined ∙ feeds_with text told (length ls) before.count line ∙ sym (length-append ls (l ∷ []));
    }
