-- What accepted writes, truncates, takes and creates do to the inodes that stand for files.
use Rattle.std.proofs.Common.{◌≡◌, ℕ, ◌⊎◌, inl, inr, Bool, true, false, cond, not, nat_eq, List, ◌∷◌, Option, Some, None, Ok, Err, refl, sym, ap, subst, ◌∙◌}
use Rattle.std.proofs.lemmas.Bool.{true≢false, and_parts, eqb-true}
use Rattle.std.specs.Option.{ok_or}
use Rattle.std.specs.FinMap.{FinMap, get}
use Rattle.su_bytes.specs.declared.file_ids.FileId.{FileId}
use Rattle.su_bytes.specs.declared.file_ids.FileId.TheVariants.{User, Group}
use Rattle.su_bytes.specs.declared.file_ids.Kind.{Kind}
use Rattle.su_bytes.specs.declared.file_ids.Kind.TheVariants.{File}
use Rattle.su_bytes.specs.declared.formats.Format.{Format}
use Rattle.su_bytes.specs.declared.refusals.Refusal.{Refusal}
use Rattle.su_bytes.specs.declared.refusals.Refusal.TheVariants.{NoName, NoFile, WrongKind}
use Rattle.su_bytes.specs.Membership.{Membership}
use Rattle.su_bytes.specs.Place.{Place, file_eq}
use Rattle.su_node.specs.Name.{Name, name_cmp, name_eq}
use Rattle.su_node.specs.Inode.{Inode, Content, Content.Bytes, Content.Names, bytes_of, kind_of, new_inode}
use Rattle.su_node.specs.Field.{Field.KindOf, Field.NameOf, Value, Value.Nothing, Value.AKind, Value.ANumber, Value.ABlock, Value.AFile, Value.APlace, field_value, file_value}
use Rattle.su_node.specs.InodeChange.{InodeChange, InodeChange.Written, InodeChange.Resized, InodeChange.Named, InodeChange.Made, inode_after, map_bytes, set_key, with_name, with_bytes_at, with_size}
use Rattle.su_table.specs.Tree.{Tree}
use Rattle.su_table.specs.Cell.{Cell.At, Cell.Pointer, val}
use Rattle.su_table.specs.Query.{is_nothing, is_dir_kind, is_free_at, is_pointer_free, home_body, pointer_body, size_at, body, part, standing_at, standing, contents}
use Rattle.su_table.specs.Edit.{Edit.Inodes, edit, edits}
use Rattle.su_op.specs.declared.create.Create.{Create}
use Rattle.su_op.specs.declared.take.Take.{Take}
use Rattle.su_op.specs.declared.truncate.Truncate.{Truncate}
use Rattle.su_op.specs.declared.operations.Op.TheVariants as op
use Rattle.su_op.specs.Writing.{Writing}
use Rattle.su_op.specs.Action.{action_by}
use Rattle.su_op.specs.Create.{is_own_number}
use Rattle.su_op.specs.Take.{is_group_file, copy_of}
use Rattle.su_op.specs.Rule.{Plan, pointer_edits}
use Rattle.su_op.specs.Operation.{rule_of, why, effect}
use Rattle.su_op.specs.Soundness.{Sound}
use Rattle.su_op.proofs.Public.{gives_of, get-set_name, name_eq-itself, name_eq-same}
use Rattle.su_draft.specs.Walk.{entry}
use Rattle.su_pieces.proofs.Standing.{Changed, added, altered, altered_body, altered_free, body_home, body_taken, file_eq-itself, file_eq-same}
use Rattle.su_pieces.proofs.Walks.{KeepsEntries, NewEntries, ok_same, contents_same, entry_in, entry_is, entry_of}

-- ---- which file it is

pub file_cases : (g f : FileId) → (g ≡ f) ⊎ (g ≡ f → ⊥)
file_cases g f = go (file_eq g f) refl
  where
    go : (b : Bool) → file_eq g f ≡ b → (g ≡ f) ⊎ (g ≡ f → ⊥)
    go true same = inl (file_eq-same g f same)
    go false same = inr (λ e. true≢false (sym (file_eq-itself f) ∙ ap (λ h. file_eq h f) (sym e) ∙ same))

-- ---- the inode at a body

ok_some : {X : Type 0} (o : Option X) (e : Refusal) (x : X) → ok_or o e ≡ Ok x → o ≡ Some x
ok_some None e x is = absurd cc
ok_some (Some y) e x is = cc

at_body : (T : Tree) (f : FileId) (p : Place) (i : Inode) → standing T f ≡ Ok i → body T f ≡ Some p → get T.inodes p ≡ Some i
unfolding standing
at_body T f p i stands at = ok_some (get T.inodes p) (WrongKind f) i (sym (ap (standing_at T f) at) ∙ stands)

stands_by : (T : Tree) (f : FileId) (p : Place) (i : Inode) → body T f ≡ Some p → get T.inodes p ≡ Some i → standing T f ≡ Ok i
unfolding standing
stands_by T f p i at is = ap (standing_at T f) at ∙ ap (λ o. ok_or o (WrongKind f)) is

-- of a kind that is known
of_kind : (o : Option Inode) (k : Kind) (f : FileId) → field_value o KindOf ≡ AKind k f → (i : Inode) × (o ≡ Some i) × (i.home ≡ f)
of_kind None k f e = absurd cc
of_kind (Some i) k f e = (i, refl, cc)

inode_of_kind : (T : Tree) (p : Place) (k : Kind) (f : FileId) → val T (At p KindOf) ≡ AKind k f → (i : Inode) × (get T.inodes p ≡ Some i) × (i.home ≡ f)
unfolding val
inode_of_kind T p k f e = of_kind (get T.inodes p) k f e

-- a directory has names
abbrev Entries : Type 0
Entries = FinMap name_cmp FileId

with_names : (o : Option Inode) → is_dir_kind (field_value o KindOf) ≡ true → (i : Inode) × (m : Entries) × (o ≡ Some i) × (i.content ≡ Names m)
with_names None e = absurd cc
with_names (Some i) e = go i.content refl e
  where
    go : (c : Content) → i.content ≡ c → is_dir_kind (AKind (kind_of c) i.home) ≡ true → (j : Inode) × (m : Entries) × (Some i ≡ Some j) × (j.content ≡ Names m)
    go (Bytes bs) is e = absurd cc
    go (Names m) is e = (i, m, refl, is)

directory_inode : (T : Tree) (p : Place) → is_dir_kind (val T (At p KindOf)) ≡ true → (i : Inode) × (m : Entries) × (get T.inodes p ≡ Some i) × (i.content ≡ Names m)
unfolding val
directory_inode T p e = with_names (get T.inodes p) e

-- ---- a write, and a truncate

module _ (ro : Membership) (T : Tree) (a : ℕ) (format : Format) (sound : Sound T) where
  -- a file with these bytes, of which others are made
  bytes_changed : (f : FileId) (i : Inode) (bs cs : List ℕ) (p : Place) (ch : InodeChange) → standing T f ≡ Ok i → i.content ≡ Bytes bs → body T f ≡ Some p
      → inode_after ch (Some i) ≡ Some (record i { content = Bytes cs }) → Changed T (edit T (Inodes p ch)) f (record i { content = Bytes cs })
  bytes_changed f i bs cs p ch stands is at after =
      altered T p ch f i (record i { content = Bytes cs }) sound at (at_body T f p i stands at) after (ap (λ c. AKind (kind_of c) i.home) (sym is))

  pub write_changes : (w : Writing) (i : Inode) (bs : List ℕ) → standing T w.file ≡ Ok i → i.content ≡ Bytes bs → why ro T (action_by a format (op.Write w)) ≡ None
      → Changed T (effect ro T (action_by a format (op.Write w))) w.file (record i { content = Bytes (with_bytes_at w.off w.bytes bs) })
  unfolding why effect
  write_changes w i bs stands is none =
      let (user, (some, (touch, (p, at, (isfile, (holder, (fits, plan))))))) = gives_of (rule_of ro T (action_by a format (op.Write w))) none in
      let j : Inode = record i { content = Bytes (with_bytes_at w.off w.bytes bs) } in
      subst (λ (q : Plan). Changed T (edits T q.edits) w.file j) plan
      (bytes_changed w.file i bs (with_bytes_at w.off w.bytes bs) p (Written (size_at T p) w.off w.bytes) stands is at
      (ap (λ c. Some (record i { content = map_bytes (with_bytes_at w.off w.bytes) c })) is))

  pub truncate_changes : (t : Truncate) (i : Inode) (bs : List ℕ) → standing T t.file ≡ Ok i → i.content ≡ Bytes bs → why ro T (action_by a format (op.Truncate t)) ≡ None
      → Changed T (effect ro T (action_by a format (op.Truncate t))) t.file (record i { content = Bytes (with_size t.size bs) })
  unfolding why effect
  truncate_changes t i bs stands is none =
      let (user, (touch, (p, at, (isfile, (holder, (fits, plan)))))) = gives_of (rule_of ro T (action_by a format (op.Truncate t))) none in
      let j : Inode = record i { content = Bytes (with_size t.size bs) } in
      subst (λ (q : Plan). Changed T (edits T q.edits) t.file j) plan
      (bytes_changed t.file i bs (with_size t.size bs) p (Resized (size_at T p) t.size) stands is at
      (ap (λ c. Some (record i { content = map_bytes (with_size t.size) c })) is))

  -- ---- a take

  -- the same inode stands for each file
  pub take_keeps : (t : Take) → why ro T (action_by a format (op.Take t)) ≡ None → (g : FileId) → standing (effect ro T (action_by a format (op.Take t))) g ≡ standing T g
  unfolding why effect
  take_keeps t none g =
      let (user, (group, (touch, (p, at, (free, plan))))) = gives_of (rule_of ro T (action_by a format (op.Take t))) none in
      let q : Place = (a, t.body) in
      let nothing : is_free_at T q ≡ true = (and_parts (not (nat_eq p.0 a)) (is_free_at T q) free).1 in
      let (k, kind) = body_home T t.file p sound at in
      let (i, is, home) = inode_of_kind T p k t.file kind in
      let changed : Changed T (edits T (Inodes q (copy_of (get T.inodes p)) ∷ pointer_edits t.file (Some q))) t.file i =
      added T q (copy_of (get T.inodes p)) t.file i nothing (λ h b. body_taken T h q sound b nothing)
      (ap (λ o. inode_after (copy_of o) (get T.inodes q)) is) home
      (λ u n e. absurd (true≢false (sym group ∙ ap is_group_file e))) in
      subst (λ (r : Plan). standing (edits T r.edits) g ≡ standing T g) plan
      (elim (file_cases g t.file) [
        | inl e ↦ ap (standing (edits T (Inodes q (copy_of (get T.inodes p)) ∷ pointer_edits t.file (Some q)))) e ∙ changed.here ∙ sym (stands_by T t.file p i at is) ∙ ap (standing T) (sym e)
        | inr other ↦ changed.others g other
      ])

-- ---- a create

-- nothing stands for a file that can be made
nothing_at : (v : Value) → is_nothing v ≡ true → v ≡ Nothing
nothing_at Nothing e = refl
nothing_at (AKind k h) e = absurd cc
nothing_at (ANumber n) e = absurd cc
nothing_at (ABlock l) e = absurd cc
nothing_at (AFile f) e = absurd cc
nothing_at (APlace p) e = absurd cc

none_stands : (T : Tree) (f : FileId) (q : Place) → is_pointer_free T f ≡ true → is_free_at T q ≡ true → ((u n : ℕ) → f ≡ User u n → q ≡ (u, n)) → body T f ≡ None
unfolding body
none_stands T (User u n) q pointer free own =
    ap (λ v. home_body v (User u n) (u, n)) (ap (λ r. val T (At r KindOf)) (sym (own u n refl)) ∙ nothing_at (val T (At q KindOf)) free)
none_stands T (Group g k) q pointer free own = ap pointer_body (nothing_at (val T (Pointer (g, k))) pointer)

own_place : (a n : ℕ) (f : FileId) → is_own_number a n f ≡ true → (u k : ℕ) → f ≡ User u k → ◌≡◌ {A = Place} (a, n) (u, k)
own_place a n f own u k e =
    let both = and_parts (nat_eq u a) (nat_eq k n) (ap (is_own_number a n) (sym e) ∙ own) in
    λ i. (sym (eqb-true u a both.0) i, sym (eqb-true k n both.1) i)

-- a name that is free leads nowhere
free_name : (o : Option FileId) → is_nothing (file_value o) ≡ true → o ≡ None
free_name None e = refl
free_name (Some f) e = absurd cc

name_in_directory : (T : Tree) (p : Place) (x : Name) (i : Inode) (m : Entries) → get T.inodes p ≡ Some i → i.content ≡ Names m → val T (At p (NameOf x)) ≡ file_value (get m x)
unfolding val
name_in_directory T p x i m stands is = ap (λ o. field_value o (NameOf x)) stands ∙ ap (λ c. field_value (Some (record i { content = c })) (NameOf x)) is

some_none : {A : Type 0} {x : A} → Some x ≡ None → ⊥
some_none e = absurd cc

pub no_entry : {X : Type 0} {e : Refusal} {x : X} → Err e ≡ Ok x → ⊥
no_entry e = absurd cc

none_stand_for : (T : Tree) (f : FileId) → body T f ≡ None → standing T f ≡ Err (NoFile f)
unfolding standing
none_stand_for T f none = ap (standing_at T f) none

-- a directory has no contents
no_contents : (T : Tree) (f : FileId) (i : Inode) (m : Entries) → standing T f ≡ Ok i → i.content ≡ Names m → contents T f ≡ Err (WrongKind f)
no_contents T f i m stands is = ap (part (λ i. bytes_of (Some i)) f) stands ∙ ap (λ k. ok_or (bytes_of (Some (record i { content = k }))) (WrongKind f)) is

-- a new file stands for the file id, and the name leads there
pub record MakesFile (T T' : Tree) (c : Create) : Type 0 where
  pub file : standing T' c.file ≡ Ok (new_inode c.file c.kind)
  pub named : entry T' c.dir c.name ≡ Ok c.file
  pub keeps : KeepsEntries T T'
  pub new : NewEntries T T' c.file
  pub others : (g : FileId) → (g ≡ c.file → ⊥) → contents T' g ≡ contents T g

module _ (ro : Membership) (T : Tree) (a : ℕ) (format : Format) (sound : Sound T) (c : Create) (kind : c.kind ≡ File) where
  -- by the plan: the directory, its inode, and what was free
  module _ (d : Place) (i : Inode) (m : Entries) (at : body T c.dir ≡ Some d) (stands : get T.inodes d ≡ Some i) (is : i.content ≡ Names m)
      (own : is_own_number a c.body c.file ≡ true) (pointer : is_pointer_free T c.file ≡ true) (free : is_free_at T (a, c.body) ≡ true) (name : get m c.name ≡ None) where
    abbrev named_change : InodeChange
    named_change = Named c.name (Some c.file)

    abbrev Under : Tree
    Under = edit T (Inodes d named_change)

    abbrev After : Tree
    After = edits Under (Inodes (a, c.body) (Made c.file c.kind) ∷ pointer_edits c.file (Some (a, c.body)))

    abbrev with_entry : Inode
    with_entry = record i { content = Names (set_key m c.name (Some c.file)) }

    after_name : inode_after named_change (Some i) ≡ Some with_entry
    after_name = ap (λ k. Some (record i { content = with_name c.name (Some c.file) k })) is

    kind_kept : field_value (Some with_entry) KindOf ≡ field_value (Some i) KindOf
    kind_kept = ap (λ k. AKind (kind_of k) i.home) (sym is)

    own_at : (u n : ℕ) → c.file ≡ User u n → ◌≡◌ {A = Place} (a, c.body) (u, n)
    own_at = own_place a c.body c.file own

    first : Changed T Under c.dir with_entry
    first = altered T d named_change c.dir i with_entry sound at stands after_name kind_kept

    second : Changed Under After c.file (new_inode c.file c.kind)
    second = added Under (a, c.body) (Made c.file c.kind) c.file (new_inode c.file c.kind)
        (altered_free T d named_change c.dir i with_entry sound at stands after_name kind_kept (a, c.body) ∙ free)
        (λ g b. body_taken T g (a, c.body) sound (sym (altered_body T d named_change c.dir i with_entry sound at stands after_name kind_kept g) ∙ b) free)
        refl refl own_at

    none_before : body T c.file ≡ None
    none_before = none_stands T c.file (a, c.body) pointer free own_at

    other_than : c.dir ≡ c.file → ⊥
    other_than e = some_none (sym at ∙ ap (body T) e ∙ none_before)

    directory_after : standing After c.dir ≡ Ok with_entry
    directory_after = second.others c.dir other_than ∙ first.here

    named_after : entry After c.dir c.name ≡ Ok c.file
    named_after =
        entry_is After c.dir c.name ∙ ap (entry_of c.dir c.name) directory_after
        ∙ ap (λ o. ok_or o NoName) (get-set_name m c.name (Some c.file) c.name ∙ ap (λ b. cond b (Some c.file) (get m c.name)) (name_eq-itself c.name))

    elsewhere : (g : FileId) → (g ≡ c.dir → ⊥) → (g ≡ c.file → ⊥) → standing After g ≡ standing T g
    elsewhere g other new = second.others g new ∙ first.others g other

    directory_before : standing T c.dir ≡ Ok i
    directory_before = stands_by T c.dir d i at stands

    -- a name that led somewhere still does
    in_directory : (y : Name) (h : FileId) → entry T c.dir y ≡ Ok h → entry After c.dir y ≡ Ok h
    in_directory y h e =
        entry_is After c.dir y ∙ ap (entry_of c.dir y) directory_after
        ∙ ap (λ o. ok_or o NoName) (get-set_name m c.name (Some c.file) y) ∙ go (name_eq y c.name) refl
      where
        was : ok_or (get m y) NoName ≡ Ok h
        was = ap (entry_in c.dir y) (sym is) ∙ sym (entry_is T c.dir y ∙ ap (entry_of c.dir y) directory_before) ∙ e

        go : (b : Bool) → name_eq y c.name ≡ b → ok_or (cond b (Some c.file) (get m y)) NoName ≡ Ok h
        go true same = absurd (some_none (sym (ok_some (get m y) NoName h was) ∙ ap (get m) (name_eq-same y c.name same) ∙ name))
        go false same = was

    no_directory : (y : Name) (h : FileId) → entry T c.file y ≡ Ok h → ⊥
    no_directory y h e = no_entry (sym (entry_is T c.file y ∙ ap (entry_of c.file y) (none_stand_for T c.file none_before)) ∙ e)

    entries_kept : KeepsEntries T After
    entries_kept g y h e = go (file_cases g c.dir) (file_cases g c.file)
      where
        go : (g ≡ c.dir) ⊎ (g ≡ c.dir → ⊥) → (g ≡ c.file) ⊎ (g ≡ c.file → ⊥) → entry After g y ≡ Ok h
        go (inl same) new = ap (λ k. entry After k y) same ∙ in_directory y h (ap (λ k. entry T k y) (sym same) ∙ e)
        go (inr other) (inl new) = absurd (no_directory y h (ap (λ k. entry T k y) (sym new) ∙ e))
        go (inr other) (inr new) = entry_is After g y ∙ ap (entry_of g y) (elsewhere g other new) ∙ sym (entry_is T g y) ∙ e

    no_more_in_directory : (y : Name) (h : FileId) → entry After c.dir y ≡ Ok h → (entry T c.dir y ≡ Ok h) ⊎ (h ≡ c.file)
    no_more_in_directory y h e = go (name_eq y c.name)
        (ap (λ o. ok_or o NoName) (sym (get-set_name m c.name (Some c.file) y)) ∙ sym (entry_is After c.dir y ∙ ap (entry_of c.dir y) directory_after) ∙ e)
      where
        go : (b : Bool) → ok_or (cond b (Some c.file) (get m y)) NoName ≡ Ok h → (entry T c.dir y ≡ Ok h) ⊎ (h ≡ c.file)
        go true is_new = inr (sym (ok_same is_new))
        go false was = inl (entry_is T c.dir y ∙ ap (entry_of c.dir y) directory_before ∙ ap (entry_in c.dir y) is ∙ was)

    no_entry_after : (y : Name) (h : FileId) → entry After c.file y ≡ Ok h → ⊥
    no_entry_after y h e =
        no_entry (sym (entry_is After c.file y ∙ ap (entry_of c.file y) (second.here ∙ ap (λ k. Ok (new_inode c.file k)) kind)) ∙ e)

    entries_before : (g : FileId) (y : Name) (h : FileId) → entry After g y ≡ Ok h → (entry T g y ≡ Ok h) ⊎ (h ≡ c.file)
    entries_before g y h e = go (file_cases g c.dir) (file_cases g c.file)
      where
        go : (g ≡ c.dir) ⊎ (g ≡ c.dir → ⊥) → (g ≡ c.file) ⊎ (g ≡ c.file → ⊥) → (entry T g y ≡ Ok h) ⊎ (h ≡ c.file)
        go (inl same) new =
            subst (λ k. (entry T k y ≡ Ok h) ⊎ (h ≡ c.file)) (sym same) (no_more_in_directory y h (ap (λ k. entry After k y) (sym same) ∙ e))
        go (inr other) (inl new) = absurd (no_entry_after y h (ap (λ k. entry After k y) (sym new) ∙ e))
        go (inr other) (inr new) = inl (entry_is T g y ∙ ap (entry_of g y) (sym (elsewhere g other new)) ∙ sym (entry_is After g y) ∙ e)

    contents_kept : (g : FileId) → (g ≡ c.file → ⊥) → contents After g ≡ contents T g
    contents_kept g new = go (file_cases g c.dir)
      where
        go : (g ≡ c.dir) ⊎ (g ≡ c.dir → ⊥) → contents After g ≡ contents T g
        go (inl same) =
            ap (contents After) same ∙ no_contents After c.dir with_entry (set_key m c.name (Some c.file)) directory_after refl
            ∙ sym (no_contents T c.dir i m directory_before is) ∙ ap (contents T) (sym same)
        go (inr other) = contents_same T After g (elsewhere g other new)

    made_all : MakesFile T After c
    made_all = record { file = second.here; named = named_after; keeps = entries_kept; new = record { before = entries_before; ends = no_entry_after }; others = contents_kept }

  pub create_makes : why ro T (action_by a format (op.Create c)) ≡ None → MakesFile T (effect ro T (action_by a format (op.Create c))) c
  unfolding why effect
  create_makes none =
      let (user, (own, (touch, (touches, (d, at, (isdir, (holder, (free, (name, plan))))))))) = gives_of (rule_of ro T (action_by a format (op.Create c))) none in
      let (i, m, stands, is) = directory_inode T d isdir in
      let both = and_parts (is_pointer_free T c.file) (is_free_at T (a, c.body)) free in
      subst (λ (q : Plan). MakesFile T (edits T q.edits) c) plan
      (made_all d i m at stands is own both.0 both.1 (free_name (get m c.name) (ap is_nothing (sym (name_in_directory T d c.name i m stands is)) ∙ name)))
