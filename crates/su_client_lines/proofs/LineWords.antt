-- A line with an empty word is no command, and one with none is what its words say.
use Rattle.std.proofs.Common.{◌≡◌, ◌∙◌, ℕ, ◌≤◌, Bool, true, false, cond, List, length, nat_eq, nat_lt, sym, ap, arith}
use Rattle.std.specs.List.{list_any}
use Rattle.std.specs.Borrow.{Bor}
use Rattle.std.proofs.lemmas.Bool.Decides.{nat_tests}
use Rattle.su_bytes.proofs.Public.{list_any-map}
use Rattle.su_desk_lines.specs.Raw.{texts}
use Rattle.su_desk_lines.specs.Script.{has_empty_word, longest_line, words_of}
use Rattle.su_client_lines.specs.Said.{Said.Bad}
use Rattle.su_client_lines.specs.ClientScript.{line_said, read_words, words_said}

empty_word : (ws : List (Bor (List ℕ))) (b : Bool) → b ≡ list_any (λ w. nat_eq (length w.now) 0) ws → has_empty_word (texts ws) ≡ b
empty_word ws b e = list_any-map (λ w. nat_eq (length w) 0) (λ w. w.now) ws ∙ sym e

short : (line : List ℕ) → length line ≤ longest_line → line_said line ≡ words_said (words_of line)
short line s = let fits : nat_lt longest_line (length line) ≡ false = grind (arith, nat_tests) in ap (λ b. cond b Bad (words_said (words_of line))) fits

said_by : (line : List ℕ) (ws : List (Bor (List ℕ))) (b : Bool) → length line ≤ longest_line → texts ws ≡ words_of line → b ≡ list_any (λ w. nat_eq (length w.now) 0) ws → line_said line ≡ cond b Bad (read_words (texts ws))
said_by line ws b s split e = short line s ∙ ap words_said (sym split) ∙ ap (λ c. cond c Bad (read_words (texts ws))) (empty_word ws b e)

pub line_said-empty_word : (line : List ℕ) (ws : List (Bor (List ℕ))) (b : Bool) → length line ≤ longest_line → texts ws ≡ words_of line → b ≡ list_any (λ w. nat_eq (length w.now) 0) ws → b ≡ true → Bad ≡ line_said line
line_said-empty_word line ws b s split e t = sym (said_by line ws b s split e ∙ ap (λ c. cond c Bad (read_words (texts ws))) t)

pub line_said-words : (line : List ℕ) (ws : List (Bor (List ℕ))) (b : Bool) → length line ≤ longest_line → texts ws ≡ words_of line → b ≡ list_any (λ w. nat_eq (length w.now) 0) ws → b ≡ false → read_words (texts ws) ≡ line_said line
line_said-words line ws b s split e t = sym (said_by line ws b s split e ∙ ap (λ c. cond c Bad (read_words (texts ws))) t)
