-- The operations of a batch are read one after the other.
use Rattle.std.proofs.Common.{◌≡◌, ◌∙◌, refl, ap, sym, ℕ, suc, ◌+◌, ◌<◌, Bool, true, false, cond, List, [], ◌∷◌, ◌++◌, length, get_or, drop, map, codes, append_assoc, arith, Option, Some, None, option_map, Bor}
use Rattle.std.proofs.lemmas.List.{drop_more, get_or-map, map-append}
use Rattle.std.specs.List.{flat_map, onto_first, slice_split}
use Rattle.su_desk_lines.specs.declared.verbs.Verb.{Verb}
use Rattle.su_desk_lines.specs.declared.values.Value.{Value as Held}
use Rattle.su_desk_lines.specs.Form.{Value}
use Rattle.su_desk_lines.specs.Raw.{texts}
use Rattle.su_desk_lines.specs.Value.{value_of}
use Rattle.su_desk_lines.specs.Script.{each_given, given, is_word}
use Rattle.su_desk_lines.specs.Desk.{Spoken, operations_of, read_operation}

-- ---- splitting

mapped_onto : {X Y : Type 0} (f : X → Y) (x : X) (parts : List (List X)) → map (map f) (onto_first x parts) ≡ onto_first (f x) (map (map f) parts)
mapped_onto f x [] = refl
mapped_onto f x (part ∷ parts) = refl

split_or : {X Y : Type 0} (f : X → Y) (b : Bool) (x : X) (parts : List (List X)) → map (map f) (cond b ([] ∷ parts) (onto_first x parts)) ≡ cond b ([] ∷ map (map f) parts) (onto_first (f x) (map (map f) parts))
split_or f true x parts = refl
split_or f false x parts = mapped_onto f x parts

-- the parts of the images are the images of the parts
slice_split-map : {X Y : Type 0} (p : Y → Bool) (f : X → Y) (xs : List X) → map (map f) (slice_split (λ x. p (f x)) xs) ≡ slice_split p (map f xs)
slice_split-map p f [] = refl
slice_split-map p f (x ∷ xs) =
    split_or f (p (f x)) x (slice_split (λ y. p (f y)) xs) ∙ ap (λ parts. cond (p (f x)) ([] ∷ parts) (onto_first (f x) parts)) (slice_split-map p f xs)

-- the words of each part
abbrev pub all_texts : List (Bor (List (Bor (List ℕ)))) → List (List (List ℕ))
all_texts parts = map (λ part. texts part.now) parts

all_texts-parts : (parts : List (Bor (List (Bor (List ℕ))))) → all_texts parts ≡ map texts (map (λ part. part.now) parts)
all_texts-parts [] = refl
all_texts-parts (part ∷ parts) = ap (λ others. texts part.now ∷ others) (all_texts-parts parts)

pub split_texts : (words : List (Bor (List ℕ))) (parts : List (Bor (List (Bor (List ℕ))))) → map (λ part. part.now) parts ≡ slice_split (λ (w : Bor (List ℕ)). is_word (codes "+") w.now) words → all_texts parts ≡ operations_of (texts words)
split_texts words parts split = all_texts-parts parts ∙ ap (map texts) split ∙ slice_split-map (is_word (codes "+")) (λ (w : Bor (List ℕ)). w.now) words

-- ---- reading

abbrev pub made : List Verb → List Value → Spoken Verb
made verbs values = record { verbs = verbs; values = values }

-- what more is said, behind what was
abbrev pub behind : List Verb → List Value → List (Verb × List Value) → Spoken Verb
behind verbs values more = made (verbs ++ map (λ said. said.0) more) (values ++ flat_map (λ said. said.1) more)

-- some operations were read, and the rest is still to be
abbrev pub read_on : List Verb → List Value → List (List (List ℕ)) → Option (Spoken Verb)
read_on verbs values parts = option_map (behind verbs values) (each_given read_operation parts)

moved : (verbs : List Verb) (values : List Value) (said : Verb × List Value) (r : Option (List (Verb × List Value))) → option_map (behind (verbs ++ said.0 ∷ []) (values ++ said.1)) r ≡ option_map (behind verbs values) (option_map (λ more. said ∷ more) r)
moved verbs values said None = refl
moved verbs values said (Some more) =
    ap (λ vs. Some (made vs ((values ++ said.1) ++ flat_map (λ s. s.1) more))) (append_assoc verbs (said.0 ∷ []) (map (λ s. s.0) more))
    ∙ ap (λ vs. Some (made (verbs ++ said.0 ∷ map (λ s. s.0) more) vs)) (append_assoc values said.1 (flat_map (λ s. s.1) more))

-- reading goes on behind what this operation says
abbrev reads_by : List Verb → List Value → List (List (List ℕ)) → Option (Verb × List Value) → Option (Spoken Verb)
reads_by verbs values parts first = option_map (behind verbs values) (given first (λ said. option_map (λ more. said ∷ more) (each_given read_operation parts)))

-- the part at a place, and those behind it
at_part : (parts : List (Bor (List (Bor (List ℕ))))) (i : ℕ) (none : Bor (List (Bor (List ℕ)))) → i < length (all_texts parts) → i < length parts → drop i (all_texts parts) ≡ texts (get_or parts i none).now ∷ drop (i + 1) (all_texts parts)
at_part parts i none within inside =
    drop_more (all_texts parts) i (texts none.now) within
    ∙ ap (λ words. words ∷ drop (i + 1) (all_texts parts)) (get_or-map (λ (part : Bor (List (Bor (List ℕ)))). texts part.now) parts i none (texts none.now) inside)

length_texts : (parts : List (Bor (List (Bor (List ℕ))))) → length (all_texts parts) ≡ length parts
length_texts [] = refl
length_texts (part ∷ parts) = ap (λ n. suc n) (length_texts parts)

-- one operation more
pub read_more : (parts : List (Bor (List (Bor (List ℕ))))) (i : ℕ) (none : Bor (List (Bor (List ℕ)))) (verbs new_verbs : List Verb) (verb : Verb) (values new_values said : List Held) (whole : Option (Spoken Verb)) → i < length parts → new_verbs ≡ verbs ++ verb ∷ [] → new_values ≡ values ++ said
    → Some (verb, map value_of said) ≡ read_operation (texts (get_or parts i none).now) → read_on verbs (map value_of values) (drop i (all_texts parts)) ≡ whole → read_on new_verbs (map value_of new_values) (drop (i + 1) (all_texts parts)) ≡ whole
read_more parts i none verbs new_verbs verb values new_values said whole within are hold one read =
    let same = length_texts parts in
    let others = drop (i + 1) (all_texts parts) in
    ap (λ vs. read_on vs (map value_of new_values) others) are
    ∙ ap (λ vs. read_on (verbs ++ verb ∷ []) vs others) (ap (map value_of) hold ∙ map-append value_of values said)
    ∙ moved verbs (map value_of values) (verb, map value_of said) (each_given read_operation others)
    ∙ ap (reads_by verbs (map value_of values) others) one
    ∙ ap (read_on verbs (map value_of values)) (sym (at_part parts i none (omega (arith, same, within)) within))
    ∙ read

-- no operation
pub read_none : (parts : List (Bor (List (Bor (List ℕ))))) (i : ℕ) (none : Bor (List (Bor (List ℕ)))) (verbs : List Verb) (values : List Value) (whole : Option (Spoken Verb)) → i < length parts → None ≡ read_operation (texts (get_or parts i none).now) → read_on verbs values (drop i (all_texts parts)) ≡ whole
    → None ≡ whole
read_none parts i none verbs values whole within ends read =
    let same = length_texts parts in
    ap (reads_by verbs values (drop (i + 1) (all_texts parts))) ends
    ∙ ap (read_on verbs values) (sym (at_part parts i none (omega (arith, same, within)) within))
    ∙ read
