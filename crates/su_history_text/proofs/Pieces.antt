-- Pieces of a text, as a format joins them and as definitions do.
use Rattle.std.proofs.Common.{◌≡◌, ◌∙◌, ℕ, true, false, cond, List, ◌++◌, sym, ap, Result, IfOk}
use Rattle.std.specs.Prelude.{codes}
use Rattle.std.specs.Fmt.{decimal}
use Rattle.std.proofs.lemmas.Bool.{ne_eqb}
use Rattle.std.proofs.lemmas.List.{append_assoc}
use Rattle.std.proofs.lemmas.Result.{IfOk-weaker}
use Rattle.su_bytes.specs.Place.{file_eq}
use Rattle.su_op.specs.declared.rename.Rename as renames
use Rattle.su_spelling.specs.Shown.{shown}
use Rattle.su_history_text.specs.FileNames.{Names}
use Rattle.su_history_text.specs.Parts.{file_text, numbers_text}
use Rattle.su_history_text.specs.Text.{renamed_text}

-- what is spelled is another text, where that is the same
pub told-as : {X E : Type 0} (bytes_of : X → List ℕ) (r : Result X E) (told text : List ℕ) → IfOk r (λ t. bytes_of t ≡ told) → told ≡ text → IfOk r (λ t. bytes_of t ≡ text)
told-as bytes_of r told text is same = IfOk-weaker r (λ t. bytes_of t ≡ told) (λ t. bytes_of t ≡ text) (λ t first. first ∙ same) is

pub of_three : (a b c : List ℕ) → a ++ (b ++ c) ≡ a ++ b ++ c
of_three a b c = sym (append_assoc a b c)

pub of_four : (a b c d : List ℕ) → a ++ (b ++ (c ++ d)) ≡ a ++ b ++ c ++ d
of_four a b c d = of_three a b (c ++ d) ∙ of_three (a ++ b) c d

pub of_five : (a b c d e : List ℕ) → a ++ (b ++ (c ++ (d ++ e))) ≡ a ++ b ++ c ++ d ++ e
of_five a b c d e = of_four a b c (d ++ e) ∙ of_three (a ++ b ++ c) d e

pub of_six : (a b c d e f : List ℕ) → a ++ (b ++ (c ++ (d ++ (e ++ f)))) ≡ a ++ b ++ c ++ d ++ e ++ f
of_six a b c d e f = of_five a b c d (e ++ f) ∙ of_three (a ++ b ++ c ++ d) e f

pub of_eight : (a b c d e f g h : List ℕ) → a ++ (b ++ (c ++ (d ++ (e ++ (f ++ (g ++ h)))))) ≡ a ++ b ++ c ++ d ++ e ++ f ++ g ++ h
of_eight a b c d e f g h = of_six a b c d e (f ++ (g ++ h)) ∙ of_four (a ++ b ++ c ++ d ++ e) f g h

pub renaming : (names : Names) (r : renames.Rename) → file_eq r.from_ r.to_ ≡ true
    → codes "renamed " ++ shown r.old_ ++ codes " in " ++ file_text names r.from_ ++ codes " to " ++ shown r.new_ ≡ renamed_text names r
renaming names r same =
    sym (ap (λ b. cond b (codes "renamed " ++ shown r.old_ ++ codes " in " ++ file_text names r.from_ ++ codes " to " ++ shown r.new_)
    (codes "moved " ++ shown r.old_ ++ codes " in " ++ file_text names r.from_ ++ codes " to " ++ shown r.new_ ++ codes " in " ++ file_text names r.to_)) same)

pub moving : (names : Names) (r : renames.Rename) → file_eq r.from_ r.to_ ≡ false
    → codes "moved " ++ shown r.old_ ++ codes " in " ++ file_text names r.from_ ++ codes " to " ++ shown r.new_ ++ codes " in " ++ file_text names r.to_ ≡ renamed_text names r
moving names r other =
    sym (ap (λ b. cond b (codes "renamed " ++ shown r.old_ ++ codes " in " ++ file_text names r.from_ ++ codes " to " ++ shown r.new_)
    (codes "moved " ++ shown r.old_ ++ codes " in " ++ file_text names r.from_ ++ codes " to " ++ shown r.new_ ++ codes " in " ++ file_text names r.to_)) other)

pub two_numbers : (first last : ℕ) → (first ≡ last → ⊥) → decimal first ++ (codes ".." ++ decimal last) ≡ numbers_text first last
two_numbers first last differ =
    of_three (decimal first) (codes "..") (decimal last)
    ∙ sym (ap (λ b. cond b (decimal first) (decimal first ++ codes ".." ++ decimal last)) (ne_eqb first last differ))
