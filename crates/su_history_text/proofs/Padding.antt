-- Spaces behind a text.
use Rattle.std.proofs.Common.{◌≡◌, ◌∙◌, ℕ, zero, suc, ◌+◌, ◌-◌, true, List, [], ◌∷◌, ◌++◌, replicate, length, refl, ap}
use Rattle.std.proofs.lemmas.List.{append_assoc, replicate-append-replicate}
use Rattle.su_history_text.specs.Parts.{padded, stays_on_line}
use Rattle.su_history_text.proofs.Staying.{stays-append}

pub one_space_more : (text now new : List ℕ) (n : ℕ) → now ≡ text ++ replicate n 32 → new ≡ now ++ 32 ∷ [] → new ≡ text ++ replicate (n + 1) 32
one_space_more text now new n is next =
    next ∙ ap (λ (t : List ℕ). t ++ 32 ∷ []) is ∙ append_assoc text (replicate n 32) (32 ∷ []) ∙ ap (λ (t : List ℕ). text ++ t) (replicate-append-replicate n 1 32)

spaces_stay : (n : ℕ) → stays_on_line (replicate n 32) ≡ true
spaces_stay zero = refl
spaces_stay (suc n) = spaces_stay n

pub stays-padded : (width : ℕ) (text : List ℕ) → stays_on_line text ≡ true → stays_on_line (padded width text) ≡ true
stays-padded width text stays = stays-append text (replicate (width - length text) 32) stays (spaces_stay (width - length text))
