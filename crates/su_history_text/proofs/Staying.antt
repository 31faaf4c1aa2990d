-- Which texts stay on their line.
use Rattle.std.proofs.Common.{◌≡◌, ◌∙◌, ℕ, zero, suc, ◌/◌, ◌%◌, ◌<◌, ◌&&◌, Bool, true, false, cond, List, [], ◌∷◌, ◌++◌, get_or, refl, ap, Fits, w8, Result, IfOk, arith}
use Rattle.std.specs.Prelude.{not, ◌==◌}
use Rattle.std.specs.Fmt.{decimal, digit_glyph, digits, digits_onto}
use Rattle.std.proofs.lemmas.Bool.Decides.{nat_tests}
use Rattle.std.proofs.lemmas.Grind.{get_or_default_zero}
use Rattle.std.proofs.lemmas.List.Folds.{list_all-append}
use Rattle.std.proofs.lemmas.Result.{IfOk-weaker}
use Rattle.su_bytes.specs.declared.file_ids.FileId.{FileId}
use Rattle.su_bytes.specs.declared.file_ids.FileId.TheVariants.{User, Group}
use Rattle.su_bytes.specs.FileId.{file_id_text}
use Rattle.su_spelling.specs.Shown.{AreBytes, is_control, shown}
use Rattle.su_spelling.proofs.Public.{stays-shown}
use Rattle.su_history_text.specs.Parts.{stays_on_line}

pub stays-append : (a b : List ℕ) → stays_on_line a ≡ true → stays_on_line b ≡ true → stays_on_line (a ++ b) ≡ true
stays-append a b first second =
    list_all-append (λ b. not (is_control b)) a b
    ∙ ap (λ s. s && stays_on_line b) first ∙ second

-- so does what is spelled, if anything is, where it is a text that does
pub stays-told : {X E : Type 0} (bytes_of : X → List ℕ) (r : Result X E) (told : List ℕ) → IfOk r (λ t. bytes_of t ≡ told) → stays_on_line told ≡ true
    → IfOk r (λ t. stays_on_line (bytes_of t) ≡ true)
stays-told bytes_of r told is stays =
    IfOk-weaker r (λ t. bytes_of t ≡ told) (λ t. stays_on_line (bytes_of t) ≡ true) (λ t same. ap stays_on_line same ∙ stays) is

-- ---- numbers

glyph_stays : (d : ℕ) → d < 10 → not (is_control (digit_glyph false d)) ≡ true
glyph_stays d below = grind (arith, nat_tests, below)

digits_stay : (k n : ℕ) (behind : List ℕ) → stays_on_line behind ≡ true → stays_on_line (digits_onto k 10 false n behind) ≡ true
digits_stay zero n behind stays = stays
digits_stay (suc k) n behind stays = go (n / 10 == 0) (λ longer. digits_stay k (n / 10) (digit_glyph false (n % 10) ∷ behind) longer)
  where
    longer : stays_on_line (digit_glyph false (n % 10) ∷ behind) ≡ true
    longer = ap (λ s. s && stays_on_line behind) (glyph_stays (n % 10) (omega arith)) ∙ stays

    go : (b : Bool) → (stays_on_line (digit_glyph false (n % 10) ∷ behind) ≡ true → stays_on_line (digits_onto k 10 false (n / 10) (digit_glyph false (n % 10) ∷ behind)) ≡ true)
        → stays_on_line (cond b (digit_glyph false (n % 10) ∷ behind) (digits_onto k 10 false (n / 10) (digit_glyph false (n % 10) ∷ behind))) ≡ true
    go true on = longer
    go false on = on longer

pub stays-decimal : (n : ℕ) → stays_on_line (decimal n) ≡ true
unfolding digits
stays-decimal n = digits_stay 64 n [] refl

pub stays-file_id : (f : FileId) → stays_on_line (file_id_text f) ≡ true
stays-file_id (User u i) = stays-append (decimal u) (58 ∷ decimal i) (stays-decimal u) (stays-decimal i)
stays-file_id (Group g k) = stays-append (decimal g) (58 ∷ decimal k) (stays-decimal g) (stays-decimal k)

-- ---- names

pub bytes_from_fits : (bs : List ℕ) → ((i : ℕ) → Fits w8 (get_or bs i 0)) → AreBytes bs
bytes_from_fits bs fits = λ k d within. let same = get_or_default_zero bs k d within in let fit = fits k in grind (arith, same, fit)

pub stays-name : (name : List ℕ) → ((i : ℕ) → Fits w8 (get_or name i 0)) → stays_on_line (shown name) ≡ true
stays-name name fits = stays-shown name (bytes_from_fits name fits)
