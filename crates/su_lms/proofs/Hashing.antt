-- A hasher that takes in strings one after another.
use Rattle.std.proofs.Common.{◌≡◌, ℕ, ◌+◌, List, ◌++◌, ap, sym, ◌∙◌, subst}
use Rattle.std.proofs.lemmas.List.{append_assoc, append-nil}
use Rattle.sha2.specs.Hashers.{Holds256}
use Rattle.sha2.specs.declared.Sha256.{Sha256}
use Rattle.su_lms.specs.Strings.{joined}
use Rattle.su_lms.proofs.Joining.{joined_none, joined_more}

pub holds_joined_none : (h : Sha256) (front : List ℕ) (string : ℕ → List ℕ) → Holds256 h front → Holds256 h (front ++ joined 0 string)
holds_joined_none h front string held =
    let nothing : front ≡ front ++ joined 0 string = sym (ap (λ s. front ++ s) (joined_none string) ∙ append-nil front) in
    subst (λ (m : List ℕ). Holds256 h m) nothing held

pub holds_joined_more : (h : Sha256) (front : List ℕ) (string : ℕ → List ℕ) (n : ℕ) (next : List ℕ) → next ≡ string n → Holds256 h (front ++ joined n string ++ next) → Holds256 h (front ++ joined (n + 1) string)
holds_joined_more h front string n next is held =
    let more : front ++ joined n string ++ next ≡ front ++ joined (n + 1) string =
    append_assoc front (joined n string) next ∙ ap (λ s. front ++ s) (ap (λ s. joined n string ++ s) is ∙ sym (joined_more n string)) in
    subst (λ (m : List ℕ). Holds256 h m) more held
