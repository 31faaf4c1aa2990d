-- Commands of a put, carried out one after another.
use Rattle.std.proofs.Common.{◌≡◌, ℕ, ◌⊎◌, inl, inr, ⊎_elim, Bool, true, false, cond, nat_lt, List, [], ◌∷◌, ◌++◌, map, length, Option, Some, None, Ok, Err, refl, sym, ap, subst, ◌∙◌, arith}
use Rattle.std.specs.List.{AllZip}
use Rattle.std.specs.Option.{is_none, option_or}
use Rattle.std.proofs.lemmas.List.{append-nil}
use Rattle.std.proofs.lemmas.Bool.{le-ltb, cond-false}
use Rattle.su_bytes.specs.declared.file_ids.FileId.{FileId}
use Rattle.su_bytes.specs.declared.file_ids.Kind.TheVariants.{File}
use Rattle.su_bytes.specs.declared.formats.TheConstants.{NEWEST_FORMAT}
use Rattle.su_bytes.specs.declared.refusals.Refusal.{Refusal}
use Rattle.su_bytes.specs.declared.refusals.Refusal.TheVariants.{NoUser}
use Rattle.su_bytes.specs.Membership.{Membership, has_user}
use Rattle.su_node.specs.Name.{Name}
use Rattle.su_node.specs.Inode.{Inode, Content.Bytes, new_inode, within}
use Rattle.su_node.specs.InodeChange.{with_bytes_at, with_size}
use Rattle.su_table.specs.Tree.{Tree}
use Rattle.su_table.specs.Query.{contents, standing}
use Rattle.su_op.specs.declared.operations.Op.{Op}
use Rattle.su_op.specs.declared.operations.Op.TheVariants as op
use Rattle.su_op.specs.Action.{Action, action_by}
use Rattle.su_op.specs.Operation.{why, effect}
use Rattle.su_op.specs.Soundness.{Sound}
use Rattle.su_op.specs.Writing.{Writing}
use Rattle.su_op.specs.declared.create.Create.{Create as CreateOp}
use Rattle.su_op.specs.declared.truncate.Truncate.{Truncate as TruncateOp}
use Rattle.su_op.proofs.Public.{store_lawful}
use Rattle.su_op.specs.Batch.{first_refusal}
use Rattle.su_draft.specs.declared.commands.Command.{Command}
use Rattle.su_draft.specs.declared.commands.Command.TheVariants.{Mkdir, Create, Write, Truncate, Link, Rename, Remove, Tidy}
use Rattle.su_draft.specs.Command.{draft, draft_of}
use Rattle.su_draft.specs.Draft.{DraftState, empty_draft, needs_take, next_body, taken_at, with_take}
use Rattle.su_draft.specs.Make.{make_draft, new_file}
use Rattle.su_draft.specs.Path.{NamedPath, named_path, path_names, with_name, last_named}
use Rattle.su_draft.specs.Refusable.{◌>>=◌}
use Rattle.su_draft.specs.Truncate.{truncate_draft}
use Rattle.su_draft.specs.Walk.{root, at, directory_of, directory_place, entry, found, walk}
use Rattle.su_draft.specs.Write.{write_draft}
use Rattle.su_plan.specs.Plan.{plan, unless_refused}
use Rattle.su_pieces.specs.declared.pieces.Piece.{Piece}
use Rattle.su_pieces.specs.Piece.{with_pieces, put_over}
use Rattle.su_pieces.specs.Put.{Does, Put, Step, Step.Makes, Step.Writes, Step.Cuts, cut_of, write_of}
use Rattle.su_pieces.specs.CarriedOut.{effects, carried_out, LeadsTo, Leaves, PutsAreCarriedOut}
use Rattle.su_pieces.proofs.PieceLemmas.{put_over_is}
use Rattle.su_pieces.proofs.Standing.{Changed}
use Rattle.su_pieces.proofs.Walks.{KeepsEntries, found_before, ok_same, bind_is, contents_is, contents_same, contents_stand, entry_in, entry_is, entry_of, found_kept, walk_kept, walk_last}
use Rattle.su_pieces.proofs.Operations.{MakesFile, create_makes, file_cases, no_entry, take_keeps, truncate_changes, write_changes}

-- ---- plans

accepted : (os ops : List Op) (r : Option Refusal) → unless_refused os r ≡ Ok ops → (os ≡ ops) × (r ≡ None)
accepted os ops None e = (ok_same e, refl)
accepted os ops (Some r) e = absurd cc

drafted : (ro : Membership) (T : Tree) (a : ℕ) (command : Command) (ops : List Op) → draft ro T a command ≡ Ok ops → draft_of T a command ≡ Ok ops
unfolding draft
drafted ro T a command ops e = go (has_user ro a) e
  where
    go : (b : Bool) → cond b (draft_of T a command) (Err (NoUser a)) ≡ Ok ops → draft_of T a command ≡ Ok ops
    go true e = e
    go false e = absurd cc

-- a plan is the draft, each operation of which is accepted in turn
planned : (ro : Membership) (T : Tree) (a : ℕ) (command : Command) (ops : List Op) → plan ro T a command ≡ Ok ops
    → (draft_of T a command ≡ Ok ops) × (first_refusal ro T a NEWEST_FORMAT ops ≡ None)
unfolding plan
planned ro T a command ops e =
    let (os, is, checked) = bind_is (draft ro T a command) (λ os. unless_refused os (first_refusal ro T a NEWEST_FORMAT os)) ops e in
    let (same, none) = accepted os ops (first_refusal ro T a NEWEST_FORMAT os) checked in
    (drafted ro T a command ops (is ∙ ap Ok same), ap (first_refusal ro T a NEWEST_FORMAT) (sym same) ∙ none)

-- ---- behind the take

both_none : (o p : Option Refusal) → option_or o p ≡ None → (o ≡ None) × (p ≡ None)
both_none None p e = (refl, e)
both_none (Some r) p e = absurd cc

sound_after : (ro : Membership) (T : Tree) (x : Action) → Sound T → why ro T x ≡ None → Sound (effect ro T x)
sound_after ro T x sound none = (store_lawful ro).stays_sound T x sound (ap is_none none)

-- the tree on which the last operation of a command is made, where the same stands for each file
record Ready (ro : Membership) (a : ℕ) (T : Tree) (ops : List Op) (last : Op) : Type 0 where
  tree : Tree
  sound : Sound tree
  same : (g : FileId) → standing tree g ≡ standing T g
  accepted : why ro tree (action_by a NEWEST_FORMAT last) ≡ None
  after : effects ro a T ops ≡ effect ro tree (action_by a NEWEST_FORMAT last)

module _ (ro : Membership) (a : ℕ) (T : Tree) (sound : Sound T) where
  at_once : (last : Op) → first_refusal ro T a NEWEST_FORMAT (last ∷ []) ≡ None → Ready ro a T (last ∷ []) last
  at_once last none = record {
    tree = T;
    sound = sound;
    same = λ g. refl;
    accepted = (both_none (why ro T (action_by a NEWEST_FORMAT last)) None none).0;
    after = refl;
  }

  behind_take : (f : FileId) (n : ℕ) (last : Op) → first_refusal ro T a NEWEST_FORMAT (op.Take (record { file = f; body = n }) ∷ last ∷ []) ≡ None
      → Ready ro a T (op.Take (record { file = f; body = n }) ∷ last ∷ []) last
  behind_take f n last none =
      let take = action_by a NEWEST_FORMAT (op.Take (record { file = f; body = n })) in
      let U = effect ro T take in
      let (taken, rest) = both_none (why ro T take) (option_or (why ro U (action_by a NEWEST_FORMAT last)) None) none in
      record {
        tree = U;
        sound = sound_after ro T take sound taken;
        same = take_keeps ro T a NEWEST_FORMAT sound (record { file = f; body = n }) taken;
        accepted = (both_none (why ro U (action_by a NEWEST_FORMAT last)) None rest).0;
        after = refl;
      }

  taking : (f : FileId) (d : DraftState) → with_take T (empty_draft a) f ≡ Ok d
      → (d.operations ≡ []) ⊎ ((n : ℕ) × (d.operations ≡ op.Take (record { file = f; body = n }) ∷ []))
  unfolding with_take
  taking f d e = go (needs_take T (empty_draft a) f) e
    where
      go : (b : Bool) → cond b (next_body T (empty_draft a) >>= (λ n. Ok (taken_at (empty_draft a) f n))) (Ok (empty_draft a)) ≡ Ok d
          → (d.operations ≡ []) ⊎ ((n : ℕ) × (d.operations ≡ op.Take (record { file = f; body = n }) ∷ []))
      go true e =
          let (n, number, is) = bind_is (next_body T (empty_draft a)) (λ n. Ok (taken_at (empty_draft a) f n)) d e in
          inr (n, ap (λ (x : DraftState). x.operations) (sym (ok_same is)))
      go false e = inl (ap (λ (x : DraftState). x.operations) (sym (ok_same e)))

  ready : (f : FileId) (d : DraftState) (last : Op) → with_take T (empty_draft a) f ≡ Ok d → first_refusal ro T a NEWEST_FORMAT (d.operations ++ last ∷ []) ≡ None
      → Ready ro a T (d.operations ++ last ∷ []) last
  ready f d last take none =
      ⊎_elim
      (λ e. subst (λ os. first_refusal ro T a NEWEST_FORMAT (os ++ last ∷ []) ≡ None → Ready ro a T (os ++ last ∷ []) last) (sym e) (at_once last) none)
      (λ (n, e). subst (λ os. first_refusal ro T a NEWEST_FORMAT (os ++ last ∷ []) ≡ None → Ready ro a T (os ++ last ∷ []) last) (sym e) (behind_take f n last) none)
      (taking f d take)

-- ---- what a command leaves

-- the path leads to the file with these contents, and every other file is as before
record Left (T T' : Tree) (path : List ℕ) (f : FileId) (bs : List ℕ) : Type 0 where
  sound : Sound T'
  there : LeadsTo T' path f bs
  others : (g : FileId) → (g ≡ f → ⊥) → contents T' g ≡ contents T g
  keeps : KeepsEntries T T'
  no_more : (path : List ℕ) (g : FileId) → (g ≡ f → ⊥) → found T' path ≡ Ok g → found T path ≡ Ok g

left_then : (T U V : Tree) (path : List ℕ) (f : FileId) (bs cs : List ℕ) → Left T U path f bs → Left U V path f cs → Left T V path f cs
left_then T U V path f bs cs one two = record {
  sound = two.sound;
  there = two.there;
  others = λ g other. two.others g other ∙ one.others g other;
  keeps = λ g y h e. two.keeps g y h (one.keeps g y h e);
  no_more = λ q g other e. one.no_more q g other (two.no_more q g other e);
}

-- another inode with bytes stands for the file
left_by : (T U T' : Tree) (path : List ℕ) (f : FileId) (i j : Inode) (bs cs : List ℕ) → Sound T' → LeadsTo T path f bs → ((g : FileId) → standing U g ≡ standing T g)
    → standing T f ≡ Ok i → i.content ≡ Bytes bs → Changed U T' f j → j.content ≡ Bytes cs → Left T T' path f cs
left_by T U T' path f i j bs cs sound there same stands is changed content = record {
  sound = sound;
  there = record { found = found_kept T T' path f keeps there.found; contents = contents_is T' f j cs changed.here content };
  others = λ g other. contents_same T T' g (changed.others g other ∙ same g);
  keeps = keeps;
  no_more = λ q g other e. found_kept T' T q g back e;
}
  where
    back : KeepsEntries T' T
    back g y h e = ⊎_elim
        (λ here. absurd (no_entry (sym (entry_is T' f y ∙ ap (entry_of f y) changed.here ∙ ap (entry_in f y) content) ∙ ap (λ k. entry T' k y) (sym here) ∙ e)))
        (λ other. entry_is T g y ∙ ap (entry_of g y) (sym (changed.others g other ∙ same g)) ∙ sym (entry_is T' g y) ∙ e)
        (file_cases g f)

    keeps : KeepsEntries T T'
    keeps g y h e = ⊎_elim
        (λ here. absurd (no_entry (sym (entry_is T f y ∙ ap (entry_of f y) stands ∙ ap (entry_in f y) is) ∙ ap (λ k. entry T k y) (sym here) ∙ e)))
        (λ other. entry_is T' g y ∙ ap (entry_of g y) (changed.others g other ∙ same g) ∙ sym (entry_is T g y) ∙ e)
        (file_cases g f)

leaves : (T T' : Tree) (path : List ℕ) (f : FileId) (bs : List ℕ) → Left T T' path f bs → Leaves T T' path f bs
leaves T T' path f bs left = record { there = left.there; others = left.others; paths = λ q g e. found_kept T T' q g left.keeps e; no_more = left.no_more }

leaves_file : (T T' : Tree) (path : List ℕ) (f : FileId) (bs cs : List ℕ) → bs ≡ cs → Left T T' path f bs → (file : FileId) × Leaves T T' path file cs
leaves_file T T' path f bs cs same left = (f, subst (Leaves T T' path f) same (leaves T T' path f bs left))

-- ---- a write

write_drafted : (T : Tree) (a : ℕ) (path : List ℕ) (off : ℕ) (xs : List ℕ) (ops : List Op) → write_draft T a path off xs ≡ Ok ops
    → (f : FileId) × (d : DraftState) × (found T path ≡ Ok f) × (with_take T (empty_draft a) f ≡ Ok d)
    × (ops ≡ d.operations ++ op.Write (record { file = f; off = off; bytes = xs }) ∷ [])
unfolding write_draft found
write_drafted T a path off xs ops e =
    let (names, named, rest) = bind_is (path_names path) _ ops e in
    let (f, is, more) = bind_is (at T names) _ ops rest in
    let (d, take, last) = bind_is (with_take T (empty_draft a) f) _ ops more in
    (f, d, ap (λ r. r >>= (λ names. at T names)) named ∙ is, take, sym (ok_same last))

truncate_drafted : (T : Tree) (a : ℕ) (path : List ℕ) (size : ℕ) (ops : List Op) → truncate_draft T a path size ≡ Ok ops
    → (f : FileId) × (d : DraftState) × (found T path ≡ Ok f) × (with_take T (empty_draft a) f ≡ Ok d)
    × (ops ≡ d.operations ++ op.Truncate (record { file = f; size = size }) ∷ [])
unfolding truncate_draft found
truncate_drafted T a path size ops e =
    let (names, named, rest) = bind_is (path_names path) _ ops e in
    let (f, is, more) = bind_is (at T names) _ ops rest in
    let (d, take, last) = bind_is (with_take T (empty_draft a) f) _ ops more in
    (f, d, ap (λ r. r >>= (λ names. at T names)) named ∙ is, take, sym (ok_same last))

module _ (ro : Membership) (a : ℕ) (T : Tree) (sound : Sound T) (path : List ℕ) (f : FileId) (bs : List ℕ) (there : LeadsTo T path f bs) where
  -- an operation behind a take, of which the file has other bytes afterwards
  last_done : (ops : List Op) (last : Op) (cs : List ℕ) → Ready ro a T ops last
      → ((U : Tree) (i : Inode) → Sound U → standing U f ≡ Ok i → i.content ≡ Bytes bs → why ro U (action_by a NEWEST_FORMAT last) ≡ None
      → Changed U (effect ro U (action_by a NEWEST_FORMAT last)) f (record i { content = Bytes cs }))
      → Left T (effects ro a T ops) path f cs
  last_done ops last cs ready changes =
      let (i, stands, is) = contents_stand T f bs there.contents in
      subst (λ V. Left T V path f cs) (sym ready.after)
      (left_by T ready.tree (effect ro ready.tree (action_by a NEWEST_FORMAT last)) path f i (record i { content = Bytes cs }) bs cs
      (sound_after ro ready.tree (action_by a NEWEST_FORMAT last) ready.sound ready.accepted) there ready.same stands is
      (changes ready.tree i ready.sound (ready.same f ∙ stands) is ready.accepted) refl)

  write_done : (off : ℕ) (xs : List ℕ) (ops : List Op) → write_draft T a path off xs ≡ Ok ops → first_refusal ro T a NEWEST_FORMAT ops ≡ None
      → Left T (effects ro a T ops) path f (with_bytes_at off xs bs)
  write_done off xs ops drafted none =
      let (g, d, found, take, is) = write_drafted T a path off xs ops drafted in
      let same : g ≡ f = ok_same (sym found ∙ there.found) in
      let w : Writing = record { file = f; off = off; bytes = xs } in
      let is_f : ops ≡ d.operations ++ op.Write w ∷ [] = is ∙ ap (λ (h : FileId). d.operations ++ op.Write (record { file = h; off = off; bytes = xs }) ∷ []) same in
      let take_f : with_take T (empty_draft a) f ≡ Ok d = ap (with_take T (empty_draft a)) (sym same) ∙ take in
      subst (λ os. Left T (effects ro a T os) path f (with_bytes_at off xs bs)) (sym is_f)
      (last_done (d.operations ++ op.Write w ∷ []) (op.Write w) (with_bytes_at off xs bs)
      (ready ro a T sound f d (op.Write w) take_f (ap (first_refusal ro T a NEWEST_FORMAT) (sym is_f) ∙ none))
      (λ U i sound_u stands content why_none. write_changes ro U a NEWEST_FORMAT sound_u w i bs stands content why_none))

  truncate_done : (size : ℕ) (ops : List Op) → truncate_draft T a path size ≡ Ok ops → first_refusal ro T a NEWEST_FORMAT ops ≡ None
      → Left T (effects ro a T ops) path f (with_size size bs)
  truncate_done size ops drafted none =
      let (g, d, found, take, is) = truncate_drafted T a path size ops drafted in
      let same : g ≡ f = ok_same (sym found ∙ there.found) in
      let t : TruncateOp = record { file = f; size = size } in
      let is_f : ops ≡ d.operations ++ op.Truncate t ∷ [] = is ∙ ap (λ (h : FileId). d.operations ++ op.Truncate (record { file = h; size = size }) ∷ []) same in
      let take_f : with_take T (empty_draft a) f ≡ Ok d = ap (with_take T (empty_draft a)) (sym same) ∙ take in
      subst (λ os. Left T (effects ro a T os) path f (with_size size bs)) (sym is_f)
      (last_done (d.operations ++ op.Truncate t ∷ []) (op.Truncate t) (with_size size bs)
      (ready ro a T sound f d (op.Truncate t) take_f (ap (first_refusal ro T a NEWEST_FORMAT) (sym is_f) ∙ none))
      (λ U i sound_u stands content why_none. truncate_changes ro U a NEWEST_FORMAT sound_u t i bs stands content why_none))

-- ---- a create

-- what a create is drafted of: the last name of the path, and its directory
record CreateDraft (T : Tree) (a : ℕ) (path : List ℕ) (ops : List Op) : Type 0 where
  first : Name
  names : List Name
  draft : DraftState
  make : CreateOp
  read : path_names path ≡ Ok (first ∷ names)
  walked : walk T root (last_named first names).directory ≡ Ok make.dir
  name : make.name ≡ (last_named first names).name
  kind : make.kind ≡ File
  take : with_take T (empty_draft a) make.dir ≡ Ok draft
  operations : ops ≡ draft.operations ++ op.Create make ∷ []

last_of : (names : List Name) (named : NamedPath) → with_name names ≡ Ok named → (x : Name) × (rest : List Name) × (names ≡ x ∷ rest) × (last_named x rest ≡ named)
unfolding with_name
last_of [] named e = absurd cc
last_of (x ∷ names) named e = (x, names, refl, ok_same e)

directory_walked : (T : Tree) (named : NamedPath) (d : FileId) → directory_of T named ≡ Ok d → walk T root named.directory ≡ Ok d
unfolding directory_of at
directory_walked T named d e =
    let (g, walked, rest) = bind_is (walk T root named.directory) _ d e in
    let (place, stands, last) = bind_is (directory_place T g) _ d rest in
    walked ∙ last

create_drafted : (T : Tree) (a : ℕ) (path : List ℕ) (ops : List Op) → make_draft T a File path ≡ Ok ops → CreateDraft T a path ops
unfolding make_draft named_path
create_drafted T a path ops e =
    let (named, is, more) = bind_is (path_names path >>= with_name) _ ops e in
    let (names, read, last) = bind_is (path_names path) with_name named is in
    let (x, rest, names_are, named_is) = last_of names named last in
    let (directory, found, more_2) = bind_is (directory_of T named) _ ops more in
    let (d, take, more_3) = bind_is (with_take T (empty_draft a) directory) _ ops more_2 in
    let (n, number, more_4) = bind_is (next_body T d) _ ops more_3 in
    let (file, new, all) = bind_is (new_file T a directory n) _ ops more_4 in
    record {
      first = x;
      names = rest;
      draft = d;
      make = record { dir = directory; name = named.name; file = file; body = n; kind = File };
      read = read ∙ ap Ok names_are;
      walked = ap (λ (p : NamedPath). walk T root p.directory) named_is ∙ directory_walked T named directory found;
      name = ap (λ (p : NamedPath). p.name) (sym named_is);
      kind = refl;
      take = take;
      operations = sym (ok_same all);
    }

same_entries : (T U : Tree) → ((g : FileId) → standing U g ≡ standing T g) → KeepsEntries T U
same_entries T U same g y h e = entry_is U g y ∙ ap (entry_of g y) (same g) ∙ sym (entry_is T g y) ∙ e

found_by : (T : Tree) (path : List ℕ) (x : Name) (names : List Name) (f : FileId) → path_names path ≡ Ok (x ∷ names) → walk T root (x ∷ names) ≡ Ok f → found T path ≡ Ok f
unfolding found at
found_by T path x names f read walked = ap (λ r. r >>= (λ names. walk T root names)) read ∙ walked

-- the path then leads to a new file without contents
create_done : (ro : Membership) (a : ℕ) (T : Tree) (path : List ℕ) (ops : List Op) → Sound T → make_draft T a File path ≡ Ok ops → first_refusal ro T a NEWEST_FORMAT ops ≡ None
    → (f : FileId) × Left T (effects ro a T ops) path f []
create_done ro a T path ops sound drafted none =
    let c = create_drafted T a path ops drafted in
    let r : Ready ro a T (c.draft.operations ++ op.Create c.make ∷ []) (op.Create c.make) =
    ready ro a T sound c.make.dir c.draft (op.Create c.make) c.take (ap (first_refusal ro T a NEWEST_FORMAT) (sym c.operations) ∙ none) in
    let after = effect ro r.tree (action_by a NEWEST_FORMAT (op.Create c.make)) in
    let made : MakesFile r.tree after c.make = create_makes ro r.tree a NEWEST_FORMAT r.sound c.make c.kind r.accepted in
    let walked : walk after root (last_named c.first c.names).directory ≡ Ok c.make.dir =
    walk_kept r.tree after made.keeps root (last_named c.first c.names).directory c.make.dir
    (walk_kept T r.tree (same_entries T r.tree r.same) root (last_named c.first c.names).directory c.make.dir c.walked) in
    let left : Left T after path c.make.file [] = record {
      sound = sound_after ro r.tree (action_by a NEWEST_FORMAT (op.Create c.make)) r.sound r.accepted;
      there = record {
        found = found_by after path c.first c.names c.make.file c.read
            (walk_last after root c.first c.names c.make.dir c.make.file walked (ap (entry after c.make.dir) (sym c.name) ∙ made.named));
        contents = contents_is after c.make.file (new_inode c.make.file File) [] (made.file ∙ ap (λ k. Ok (new_inode c.make.file k)) c.kind) refl;
      };
      others = λ g other. made.others g other ∙ contents_same T r.tree g (r.same g);
      keeps = λ g y h e. made.keeps g y h (same_entries T r.tree r.same g y h e);
      no_more = λ q g other e. found_kept r.tree T q g (same_entries r.tree T (λ k. sym (r.same k))) (found_before r.tree after c.make.file q g made.new other e);
    } in
    (c.make.file, subst (λ V. Left T V path c.make.file []) (sym (ap (effects ro a T) c.operations ∙ r.after)) left)

-- ---- what a command is that does a step

writing : (path : List ℕ) (off : ℕ) (bytes : List ℕ) (ro : Membership) (T : Tree) (a : ℕ) (command : Command) (ops : List Op) → Does path (Writes off bytes) command
    → draft_of T a command ≡ Ok ops → write_draft T a path off bytes ≡ Ok ops
writing path off bytes ro T a (Write at o bs) ops (at_is, off_is, bytes_are) e =
    sym (λ i. write_draft T a (at_is i) (off_is i) (bytes_are i)) ∙ e
writing path off bytes ro T a (Mkdir p) ops does e = absurd does
writing path off bytes ro T a (Create p) ops does e = absurd does
writing path off bytes ro T a (Truncate p s) ops does e = absurd does
writing path off bytes ro T a (Link p q) ops does e = absurd does
writing path off bytes ro T a (Rename p q) ops does e = absurd does
writing path off bytes ro T a (Remove p) ops does e = absurd does
writing path off bytes ro T a Tidy ops does e = absurd does

cutting : (path : List ℕ) (size : ℕ) (T : Tree) (a : ℕ) (command : Command) (ops : List Op) → Does path (Cuts size) command
    → draft_of T a command ≡ Ok ops → truncate_draft T a path size ≡ Ok ops
cutting path size T a (Truncate at s) ops (at_is, size_is) e = sym (λ i. truncate_draft T a (at_is i) (size_is i)) ∙ e
cutting path size T a (Mkdir p) ops does e = absurd does
cutting path size T a (Create p) ops does e = absurd does
cutting path size T a (Write p o bs) ops does e = absurd does
cutting path size T a (Link p q) ops does e = absurd does
cutting path size T a (Rename p q) ops does e = absurd does
cutting path size T a (Remove p) ops does e = absurd does
cutting path size T a Tidy ops does e = absurd does

making : (path : List ℕ) (T : Tree) (a : ℕ) (command : Command) (ops : List Op) → Does path Makes command
    → draft_of T a command ≡ Ok ops → make_draft T a File path ≡ Ok ops
making path T a (Create at) ops does e = ap (make_draft T a File) (sym does) ∙ e
making path T a (Mkdir p) ops does e = absurd does
making path T a (Write p o bs) ops does e = absurd does
making path T a (Truncate p s) ops does e = absurd does
making path T a (Link p q) ops does e = absurd does
making path T a (Rename p q) ops does e = absurd does
making path T a (Remove p) ops does e = absurd does
making path T a Tidy ops does e = absurd does

-- ---- commands one after another

module _ (ro : Membership) (a : ℕ) (path new : List ℕ) (f : FileId) (T' : Tree) where
  -- writes of pieces, before other commands
  record Written (T : Tree) (ps : List Piece) (bs : List ℕ) (rest : List Step) : Type 0 where
    tree : Tree
    commands : List Command
    left : Left T tree path f (with_pieces new ps bs)
    steps : AllZip (Does path) rest commands
    carried : carried_out ro a tree commands ≡ Ok T'

  writes_done : (ps : List Piece) (rest : List Step) (T : Tree) (bs : List ℕ) (commands : List Command) → Sound T → LeadsTo T path f bs
      → AllZip (Does path) (map (write_of new) ps ++ rest) commands → carried_out ro a T commands ≡ Ok T' → Written T ps bs rest
  writes_done [] rest T bs commands sound there steps carried = record {
    tree = T;
    commands = commands;
    left = record { sound = sound; there = there; others = λ g other. refl; keeps = λ g y h e. e; no_more = λ q g other e. e };
    steps = steps;
    carried = carried;
  }
  writes_done (p ∷ ps) rest T bs [] sound there steps carried = absurd steps
  writes_done (p ∷ ps) rest T bs (command ∷ commands) sound there (does, steps) carried =
      let (ops, plan, more) = bind_is (plan ro T a command) (λ ops. carried_out ro a (effects ro a T ops) commands) T' carried in
      let (drafted, none) = planned ro T a command ops plan in
      let xs = within p.off p.len new in
      let one = write_done ro a T sound path f bs there p.off xs ops (writing path p.off xs ro T a command ops does drafted) none in
      let w = writes_done ps rest (effects ro a T ops) (with_bytes_at p.off xs bs) commands one.sound one.there steps more in
      record {
        tree = w.tree;
        commands = w.commands;
        left = left_then T (effects ro a T ops) w.tree path f (with_bytes_at p.off xs bs) (with_pieces new ps (with_bytes_at p.off xs bs)) one w.left;
        steps = w.steps;
        carried = w.carried;
      }

  none_left : (T : Tree) (commands : List Command) → AllZip (Does path) [] commands → carried_out ro a T commands ≡ Ok T' → T ≡ T'
  none_left T [] steps carried = ok_same carried
  none_left T (command ∷ commands) steps carried = absurd steps

  cut_done : (T : Tree) (bs : List ℕ) (b : Bool) (size : ℕ) (commands : List Command) → Sound T → LeadsTo T path f bs
      → AllZip (Does path) (cond b (Cuts size ∷ []) []) commands → carried_out ro a T commands ≡ Ok T' → Left T T' path f (cond b (with_size size bs) bs)
  cut_done T bs false size commands sound there steps carried =
      subst (λ V. Left T V path f bs) (none_left T commands steps carried) (record { sound = sound; there = there; others = λ g other. refl; keeps = λ g y h e. e; no_more = λ q g other e. e })
  cut_done T bs true size [] sound there steps carried = absurd steps
  cut_done T bs true size (command ∷ commands) sound there (does, steps) carried =
      let (ops, plan, more) = bind_is (plan ro T a command) (λ ops. carried_out ro a (effects ro a T ops) commands) T' carried in
      let (drafted, none) = planned ro T a command ops plan in
      subst (λ V. Left T V path f (with_size size bs)) (none_left (effects ro a T ops) commands steps more)
      (truncate_done ro a T sound path f bs there size ops (cutting path size T a command ops does drafted) none)

-- where a file stands at the path
put_over_file : (ro : Membership) (a : ℕ) (T T' : Tree) (path old new : List ℕ) (commands : List Command) (f : FileId) → Sound T → LeadsTo T path f old
    → Put path (Some old) new commands → carried_out ro a T commands ≡ Ok T' → (file : FileId) × Leaves T T' path file new
put_over_file ro a T T' path old new commands f sound there put carried =
    let w = writes_done ro a path new f T' put.pieces (cut_of old new) T old commands sound there put.steps carried in
    let bs = with_pieces new put.pieces old in
    let cut = cut_done ro a path new f T' w.tree bs (nat_lt (length new) (length old)) (length new) w.commands w.left.sound w.left.there w.steps w.carried in
    leaves_file T T' path f (put_over old new put.pieces) new (put_over_is old new put.pieces put.differing)
    (left_then T w.tree T' path f bs (put_over old new put.pieces) w.left cut)

-- where none does
put_new_file : (ro : Membership) (a : ℕ) (T T' : Tree) (path new : List ℕ) (commands : List Command) → Sound T
    → Put path None new commands → carried_out ro a T commands ≡ Ok T' → (file : FileId) × Leaves T T' path file new
put_new_file ro a T T' path new [] sound put carried = absurd put.steps
put_new_file ro a T T' path new (command ∷ commands) sound put carried =
    let (does, steps) = put.steps in
    let (ops, plan, more) = bind_is (plan ro T a command) (λ ops. carried_out ro a (effects ro a T ops) commands) T' carried in
    let (drafted, none) = planned ro T a command ops plan in
    let (f, made) = create_done ro a T path ops sound (making path T a command ops does drafted) none in
    let all = subst (λ ss. AllZip (Does path) ss commands) (sym (append-nil (map (write_of new) put.pieces))) steps in
    let w = writes_done ro a path new f T' put.pieces [] (effects ro a T ops) [] commands made.sound made.there all more in
    let bs = with_pieces new put.pieces [] in
    let whole : bs ≡ new =
    sym (cond-false (nat_lt (length new) 0) (with_size (length new) bs) bs (le-ltb (length new) 0 (omega arith))) ∙ put_over_is [] new put.pieces put.differing in
    leaves_file T T' path f bs new whole
    (subst (λ V. Left T V path f bs) (none_left ro a path new f T' w.tree w.commands w.steps w.carried)
    (left_then T (effects ro a T ops) w.tree path f [] bs made w.left))

pub puts_are_carried_out : PutsAreCarriedOut
puts_are_carried_out ro a T T' path None new commands sound stands put carried = put_new_file ro a T T' path new commands sound put carried
puts_are_carried_out ro a T T' path (Some old) new commands sound (f, there) put carried = put_over_file ro a T T' path old new commands f sound there put carried

-- ---- each command alone

pub make_carried_out : (ro : Membership) (a : ℕ) (T : Tree) (path : List ℕ) (command : Command) (ops : List Op) → Sound T → Does path Makes command
    → plan ro T a command ≡ Ok ops → (file : FileId) × Leaves T (effects ro a T ops) path file []
make_carried_out ro a T path command ops sound does e =
    let (drafted, none) = planned ro T a command ops e in
    let (f, left) = create_done ro a T path ops sound (making path T a command ops does drafted) none in
    (f, leaves T (effects ro a T ops) path f [] left)

pub write_carried_out : (ro : Membership) (a : ℕ) (T : Tree) (path : List ℕ) (file : FileId) (old : List ℕ) (off : ℕ) (bytes : List ℕ) (command : Command) (ops : List Op)
    → Sound T → LeadsTo T path file old → Does path (Writes off bytes) command → plan ro T a command ≡ Ok ops → Leaves T (effects ro a T ops) path file (with_bytes_at off bytes old)
write_carried_out ro a T path file old off bytes command ops sound there does e =
    let (drafted, none) = planned ro T a command ops e in
    leaves T (effects ro a T ops) path file (with_bytes_at off bytes old)
    (write_done ro a T sound path file old there off bytes ops (writing path off bytes ro T a command ops does drafted) none)

pub cut_carried_out : (ro : Membership) (a : ℕ) (T : Tree) (path : List ℕ) (file : FileId) (old : List ℕ) (size : ℕ) (command : Command) (ops : List Op)
    → Sound T → LeadsTo T path file old → Does path (Cuts size) command → plan ro T a command ≡ Ok ops → Leaves T (effects ro a T ops) path file (with_size size old)
cut_carried_out ro a T path file old size command ops sound there does e =
    let (drafted, none) = planned ro T a command ops e in
    leaves T (effects ro a T ops) path file (with_size size old)
    (truncate_done ro a T sound path file old there size ops (cutting path size T a command ops does drafted) none)
