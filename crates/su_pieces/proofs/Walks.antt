-- What a path leads to, by the inodes that stand for files.
use Rattle.std.proofs.Common.{◌≡◌, ℕ, Bool, true, false, cond, List, [], ◌∷◌, Option, Some, None, Result, Ok, Err, refl, ap, ◌∙◌, ◌⊎◌, ⊎_elim, sym}
use Rattle.std.specs.Option.{ok_or}
use Rattle.std.specs.FinMap.{get}
use Rattle.su_bytes.specs.declared.file_ids.FileId.{FileId}
use Rattle.su_bytes.specs.declared.refusals.Refusal.{Refusal}
use Rattle.su_bytes.specs.declared.refusals.Refusal.TheVariants.{NoName, WrongKind}
use Rattle.su_bytes.specs.Place.{Place}
use Rattle.su_node.specs.Name.{Name}
use Rattle.su_node.specs.Inode.{Inode, Content, Content.Bytes, Content.Names, bytes_of, kind_of}
use Rattle.su_node.specs.Field.{Field.KindOf, Field.NameOf, Value.AKind, field_value, file_value}
use Rattle.su_table.specs.Tree.{Tree}
use Rattle.su_table.specs.Cell.{val}
use Rattle.su_table.specs.Query.{body, is_dir_kind, standing_at, standing, part, contents}
use Rattle.su_draft.specs.Refusable.{◌>>=◌}
use Rattle.su_draft.specs.Path.{path_names, last_named}
use Rattle.su_draft.specs.Walk.{root, file_held, led_to, directory_at, directory_place, entry, walk, at, found}

-- ---- steps that may be refused

pub bind_is : {A B : Type 0} (r : Result A Refusal) (k : A → Result B Refusal) (y : B) → (r >>= k) ≡ Ok y → (x : A) × (r ≡ Ok x) × (k x ≡ Ok y)
bind_is (Ok x) k y e = (x, refl, e)
bind_is (Err r) k y e = absurd cc

pub ok_same : {X : Type 0} {x y : X} → ◌≡◌ {A = Result X Refusal} (Ok x) (Ok y) → x ≡ y
ok_same e = cc

-- ---- a step from a directory

-- from what stands for it
abbrev pub entry_in : FileId → Name → Content → Result FileId Refusal
entry_in f x (Bytes bs) = Err (WrongKind f)
entry_in f x (Names m) = ok_or (get m x) NoName

abbrev pub entry_of : FileId → Name → Result Inode Refusal → Result FileId Refusal
entry_of f x (Ok i) = entry_in f x i.content
entry_of f x (Err e) = Err (WrongKind f)

chosen : (b : Bool) (p : Place) (e : Refusal) (k : Place → Result FileId Refusal) → (cond b (Ok p) (Err e) >>= k) ≡ cond b (k p) (Err e)
chosen true p e k = refl
chosen false p e k = refl

entry_at : (f : FileId) (x : Name) (o : Option Inode)
    → cond (is_dir_kind (field_value o KindOf)) (ok_or (file_held (field_value o (NameOf x))) NoName) (Err (WrongKind f)) ≡ entry_of f x (ok_or o (WrongKind f))
entry_at f x None = refl
entry_at f x (Some i) = go i.content
  where
    held : (o : Option FileId) → file_held (file_value o) ≡ o
    held None = refl
    held (Some g) = refl

    go : (c : Content) → cond (is_dir_kind (AKind (kind_of c) i.home)) (ok_or (file_held (field_value (Some (record i { content = c })) (NameOf x))) NoName) (Err (WrongKind f)) ≡ entry_in f x c
    go (Bytes bs) = refl
    go (Names m) = ap (λ o. ok_or o NoName) (held (get m x))

pub entry_is : (T : Tree) (f : FileId) (x : Name) → entry T f x ≡ entry_of f x (standing T f)
unfolding entry directory_place led_to standing val
entry_is T f x = go (body T f)
  where
    step : Place → Result FileId Refusal
    step d = ok_or (file_held (field_value (get T.inodes d) (NameOf x))) NoName

    go : (o : Option Place) → (directory_at T f o >>= step) ≡ entry_of f x (standing_at T f o)
    go None = refl
    go (Some p) = chosen (is_dir_kind (field_value (get T.inodes p) KindOf)) p (WrongKind f) step ∙ entry_at f x (get T.inodes p)

-- ---- a walk

-- each step that was made can still be made
abbrev pub KeepsEntries : Tree → Tree → Type 0
KeepsEntries T T' = (g : FileId) (y : Name) (h : FileId) → entry T g y ≡ Ok h → entry T' g y ≡ Ok h

pub walk_kept : (T T' : Tree) → KeepsEntries T T' → (f : FileId) (names : List Name) (h : FileId) → walk T f names ≡ Ok h → walk T' f names ≡ Ok h
walk_kept T T' keeps f [] h e = e
walk_kept T T' keeps f (x ∷ names) h e =
    let (next, first, rest) = bind_is (entry T f x) (λ g. walk T g names) h e in
    ap (λ r. r >>= (λ g. walk T' g names)) (keeps f x next first) ∙ walk_kept T T' keeps next names h rest

pub found_kept : (T T' : Tree) (path : List ℕ) (h : FileId) → KeepsEntries T T' → found T path ≡ Ok h → found T' path ≡ Ok h
unfolding found at
found_kept T T' path h keeps e =
    let (names, is, rest) = bind_is (path_names path) (λ names. walk T root names) h e in
    ap (λ r. r >>= (λ names. walk T' root names)) is ∙ walk_kept T T' keeps root names h rest

-- each step that can be made could be made before, or leads to the file, from which there is none
pub record NewEntries (T T' : Tree) (f : FileId) : Type 0 where
  pub before : (g : FileId) (y : Name) (h : FileId) → entry T' g y ≡ Ok h → (entry T g y ≡ Ok h) ⊎ (h ≡ f)
  pub ends : (y : Name) (h : FileId) → entry T' f y ≡ Ok h → ⊥

no_walk : (T T' : Tree) (f : FileId) → NewEntries T T' f → (names : List Name) (h : FileId) → (h ≡ f → ⊥) → walk T' f names ≡ Ok h → ⊥
no_walk T T' f new [] h other e = other (ok_same (sym e))
no_walk T T' f new (x ∷ names) h other e =
    let (next, first, rest) = bind_is (entry T' f x) (λ g. walk T' g names) h e in
    new.ends x next first

walk_before : (T T' : Tree) (f : FileId) → NewEntries T T' f → (g : FileId) (names : List Name) (h : FileId) → (h ≡ f → ⊥) → walk T' g names ≡ Ok h → walk T g names ≡ Ok h
walk_before T T' f new g [] h other e = e
walk_before T T' f new g (x ∷ names) h other e =
    let (next, first, rest) = bind_is (entry T' g x) (λ k. walk T' k names) h e in
    let later = walk_before T T' f new next names h other rest in
    ⊎_elim (λ was. ap (λ r. r >>= (λ k. walk T k names)) was ∙ later)
    (λ same. absurd (no_walk T T' f new names h other (ap (λ k. walk T' k names) (sym same) ∙ rest)))
    (new.before g x next first)

pub found_before : (T T' : Tree) (f : FileId) (path : List ℕ) (h : FileId) → NewEntries T T' f → (h ≡ f → ⊥) → found T' path ≡ Ok h → found T path ≡ Ok h
unfolding found at
found_before T T' f path h new other e =
    let (names, is, rest) = bind_is (path_names path) (λ names. walk T' root names) h e in
    ap (λ r. r >>= (λ names. walk T root names)) is ∙ walk_before T T' f new root names h other rest

-- the last step of a walk
pub walk_last : (T : Tree) (f : FileId) (x : Name) (names : List Name) (d h : FileId) → walk T f (last_named x names).directory ≡ Ok d
    → entry T d (last_named x names).name ≡ Ok h → walk T f (x ∷ names) ≡ Ok h
walk_last T f x [] d h walked last =
    let same : f ≡ d = cc in
    ap (λ r. r >>= (λ (g : FileId). Ok g)) (ap (λ g. entry T g x) same ∙ last)
walk_last T f x (y ∷ names) d h walked last =
    let (next, first, rest) = bind_is (entry T f x) (λ g. walk T g (last_named y names).directory) d walked in
    ap (λ r. r >>= (λ g. walk T g (y ∷ names))) first ∙ walk_last T next y names d h rest last

-- ---- the contents of a file

pub contents_is : (T : Tree) (f : FileId) (i : Inode) (bs : List ℕ) → standing T f ≡ Ok i → i.content ≡ Bytes bs → contents T f ≡ Ok bs
contents_is T f i bs stands is =
    ap (part (λ i. bytes_of (Some i)) f) stands ∙ ap (λ c. ok_or (bytes_of (Some (record i { content = c }))) (WrongKind f)) is

pub contents_stand : (T : Tree) (f : FileId) (bs : List ℕ) → contents T f ≡ Ok bs → (i : Inode) × (standing T f ≡ Ok i) × (i.content ≡ Bytes bs)
contents_stand T f bs e = go (standing T f) refl e
  where
    in_ : (i : Inode) (c : Content) → i.content ≡ c → ok_or (bytes_of (Some (record i { content = c }))) (WrongKind f) ≡ Ok bs → i.content ≡ Bytes bs
    in_ i (Bytes cs) is e = let same : cs ≡ bs = cc in is ∙ ap Bytes same
    in_ i (Names m) is e = absurd cc

    go : (r : Result Inode Refusal) → standing T f ≡ r → part (λ i. bytes_of (Some i)) f r ≡ Ok bs → (i : Inode) × (standing T f ≡ Ok i) × (i.content ≡ Bytes bs)
    go (Ok i) is e = (i, is, in_ i i.content refl e)
    go (Err r) is e = absurd cc

pub contents_same : (T T' : Tree) (g : FileId) → standing T' g ≡ standing T g → contents T' g ≡ contents T g
contents_same T T' g e = ap (part (λ i. bytes_of (Some i)) g) e
