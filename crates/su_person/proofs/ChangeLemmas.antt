-- The last change of a file's bytes, entry by entry.
use Rattle.std.proofs.Common.{◌≡◌, ℕ, ◌+◌, ◌-◌, ◌<◌, ◌≤◌, Bool, true, cond, List, [], ◌∷◌, ◌++◌, length, take, drop, get_or, Option, None, Some, refl, sym, ap, ◌∙◌, arith, map, ◌||◌}
use Rattle.std.specs.Option.{option_or}
use Rattle.std.specs.List.{list_any}
use Rattle.std.proofs.lemmas.List.{drop_more, length-take-le, take-append-drop}
use Rattle.su_bytes.specs.declared.file_ids.FileId.{FileId}
use Rattle.su_op.specs.Action.{op_without_bytes}
use Rattle.su_op.specs.declared.operations.Op.{Op}
use Rattle.su_op.specs.declared.operations.Op.TheVariants.{Create, Unlink, Write, Truncate, Take, Link, Rename, Drop}
use Rattle.su_op.specs.declared.operations.Change.{Change}
use Rattle.su_op.specs.declared.operations.Change.TheVariants.{Do, Undo, Rekey}
use Rattle.su_desk.specs.declared.entries.Entry.{Entry}
use Rattle.su_desk.specs.History.{entry_at}
use Rattle.su_desk.specs.KeptEntry.{undone, without_bytes}
use Rattle.su_person.specs.LastChange.{changes_bytes, does_change, does_change_at, last_change, last_from, touches}

-- ---- from the newest entry

-- behind the entries before that index, and with it
pub one_entry_before : (h : List Entry) (f : FileId) (i : ℕ) (e : Entry) (t : Bool) → 0 < i → i ≤ length h → e ≡ get_or h (i - 1) e → touches h f e.change ≡ t
    → last_from (i - 1 + 1) h f (drop (i - 1) h) ≡ option_or (last_from (i + 1) h f (drop i h)) (cond t (Some (i - 1 + 1, e.author)) None)
one_entry_before h f i e t some within is told =
    let next : i - 1 + 1 ≡ i = omega (arith, some) in
    ap (last_from (i - 1 + 1) h f) (drop_more h (i - 1) e (omega (arith, some, within)) ∙ ap (λ (x : Entry). x ∷ drop (i - 1 + 1) h) (sym is))
    ∙ ap (λ (k : ℕ). option_or (last_from (k + 1) h f (drop k h)) (cond (touches h f e.change) (Some (i - 1 + 1, e.author)) None)) next
    ∙ ap (λ (b : Bool). option_or (last_from (i + 1) h f (drop i h)) (cond b (Some (i - 1 + 1, e.author)) None)) told

or_none : (o : Option (ℕ × ℕ)) → o ≡ option_or o None
or_none None = refl
or_none (Some last) = refl

or_assoc : (o p q : Option (ℕ × ℕ)) → option_or (option_or o p) q ≡ option_or o (option_or p q)
or_assoc None p q = refl
or_assoc (Some last) p q = refl

last_split : (n : ℕ) (h : List Entry) (f : FileId) (xs ys : List Entry) → last_from n h f (xs ++ ys) ≡ option_or (last_from (n + length xs) h f ys) (last_from n h f xs)
last_split n h f [] ys =
    let same : n ≡ n + 0 = omega arith in
    or_none (last_from n h f ys) ∙ ap (λ (k : ℕ). option_or (last_from k h f ys) None) same
last_split n h f (x ∷ xs) ys =
    let same : n + 1 + length xs ≡ n + length (x ∷ xs) = omega arith in
    let own : Option (ℕ × ℕ) = cond (touches h f x.change) (Some (n, x.author)) None in
    ap (λ (o : Option (ℕ × ℕ)). option_or o own) (last_split (n + 1) h f xs ys)
    ∙ or_assoc (last_from (n + 1 + length xs) h f ys) (last_from (n + 1) h f xs) own
    ∙ ap (λ (k : ℕ). option_or (last_from k h f ys) (last_from n h f (x ∷ xs))) same

-- an entry is the last one where none behind it is
pub last_found : (h : List Entry) (f : FileId) (i : ℕ) (e : Entry) (a : ℕ) → 0 < i → i ≤ length h → e ≡ get_or h (i - 1) e → touches h f e.change ≡ true → a ≡ e.author
    → last_from (i + 1) h f (drop i h) ≡ None → Some (i - 1 + 1, a) ≡ last_change h f
last_found h f i e a some within is told a_is none =
    let before = take (i - 1) h in
    let count : length before ≡ i - 1 = length-take-le (i - 1) h (omega (arith, within)) in
    let number : 1 + length before ≡ i - 1 + 1 = omega (arith, count) in
    ap (λ (b : ℕ). Some (i - 1 + 1, b)) a_is
    ∙ sym (
    ap (last_from 1 h f) (sym (take-append-drop (i - 1) h))
    ∙ last_split 1 h f before (drop (i - 1) h)
    ∙ ap (λ (k : ℕ). option_or (last_from k h f (drop (i - 1) h)) (last_from 1 h f before)) number
    ∙ ap (λ (o : Option (ℕ × ℕ)). option_or o (last_from 1 h f before)) (one_entry_before h f i e true some within is told)
    ∙ ap (λ (o : Option (ℕ × ℕ)). option_or (option_or o (Some (i - 1 + 1, e.author))) (last_from 1 h f before)) none)

-- ---- without their bytes

-- an operation changes the bytes of a file as it does without its own
changes_so : (f : FileId) (op : Op) → changes_bytes f (op_without_bytes op) ≡ changes_bytes f op
changes_so f (Create x) = refl
changes_so f (Unlink x) = refl
changes_so f (Write x) = refl
changes_so f (Truncate x) = refl
changes_so f (Take x) = refl
changes_so f (Link x) = refl
changes_so f (Rename x) = refl
changes_so f (Drop x) = refl

any_changes_so : (f : FileId) (ops : List Op)
    → list_any (changes_bytes f) (map op_without_bytes ops) ≡ list_any (changes_bytes f) ops
any_changes_so f [] = refl
any_changes_so f (op ∷ ops) =
    ap (λ (b : Bool). b || list_any (changes_bytes f) (map op_without_bytes ops)) (changes_so f op)
    ∙ ap (λ (b : Bool). changes_bytes f op || b) (any_changes_so f ops)

-- so does a change
pub does_so : (f : FileId) (c : Change) → does_change f (without_bytes c) ≡ does_change f c
does_so f (Do ops) = any_changes_so f ops
does_so f (Undo n) = refl
does_so f (Rekey k) = refl

-- a change that is no undo touches the bytes of a file where it changes them
pub no_undo_touches : (h : List Entry) (f : FileId) (c : Change) → undone c ≡ None → touches h f c ≡ does_change f c
no_undo_touches h f (Do ops) none = refl
no_undo_touches h f (Undo n) none = absurd cc
no_undo_touches h f (Rekey k) none = refl

-- an undo touches those that the undone one changed
pub undo_touches : (h : List Entry) (f : FileId) (c : Change) (n : ℕ) → undone c ≡ Some n → touches h f c ≡ does_change_at f (entry_at h n)
undo_touches h f (Do ops) n some = absurd cc
undo_touches h f (Undo m) n some = let same : m ≡ n = cc in ap (λ (k : ℕ). does_change_at f (entry_at h k)) same
undo_touches h f (Rekey k) n some = absurd cc
