-- Each draft takes what it must, and counts its numbers through.
use Rattle.std.proofs.Common.{◌≡◌, ℕ, Bool, true, false, cond, ◌||◌, nat_eq, List, [], ◌∷◌, Option, Some, None, Result, Err, refl, ◌⊎◌, inl, inr}
use Rattle.std.specs.Prelude.{IfOk, map}
use Rattle.std.specs.List.{list_any}
use Rattle.std.specs.Cmp.Lexicographic.{pointwise}
use Rattle.su_bytes.specs.Membership.{Membership, has_user}
use Rattle.su_bytes.specs.declared.file_ids.FileId.{FileId}
use Rattle.su_bytes.specs.declared.file_ids.Kind.{Kind}
use Rattle.su_bytes.specs.declared.file_ids.Kind.TheVariants.{File, Dir}
use Rattle.su_bytes.specs.declared.refusals.Refusal.{Refusal}
use Rattle.su_bytes.specs.declared.refusals.Refusal.TheVariants.{NoUser}
use Rattle.su_bytes.specs.Place.{file_eq}
use Rattle.su_node.specs.Name.{Name}
use Rattle.su_table.specs.Tree.{Tree}
use Rattle.su_op.specs.declared.operations.Op.{Op}
use Rattle.su_op.specs.declared.operations.Op.TheVariants as op
use Rattle.su_op.specs.declared.rename.Rename.{Rename as RenameOp}
use Rattle.su_draft.specs.declared.commands.Command.{Command}
use Rattle.su_draft.specs.declared.commands.Command.TheVariants.{Mkdir, Create, Write, Truncate, Link, Rename, Remove, Tidy}
use Rattle.su_draft.specs.Refusable.{◌>>=◌}
use Rattle.su_draft.specs.Path.{path_names, named_path}
use Rattle.su_draft.specs.Walk.{at, entry, directory_of, directory_place, led_to}
use Rattle.su_draft.specs.Draft.{DraftState, empty_draft, with_operation, next_body, takes, with_take}
use Rattle.su_draft.specs.Taking.{writes_to}
use Rattle.su_draft.specs.Counting.{CountUp}
use Rattle.su_draft.specs.Make.{new_file, make_draft}
use Rattle.su_draft.specs.Write.{write_draft}
use Rattle.su_draft.specs.Truncate.{truncate_draft}
use Rattle.su_draft.specs.Link.{link_draft}
use Rattle.su_draft.specs.Remove.{remove_draft}
use Rattle.su_draft.specs.Rename.{with_unlink, with_name_free, moved, renamed, rename_draft}
use Rattle.su_draft.specs.Tidy.{stale_from, drop_of, tidy_draft}
use Rattle.su_draft.specs.Command.{draft_of, draft}
use Rattle.su_draft.proofs.TakeCounts.{IsFair, Fair, fair_empty, fair_more, fair_end, fair_none, fair_take, bind_eq, bind_has, bind_with, next_least, or_false}

two : (b c : Bool) → (b || (c || false)) ≡ (false || (b || c))
two true c = refl
two false true = refl
two false false = refl

make_takes : (T : Tree) (a : ℕ) (kind : Kind) (path : List ℕ) → IfOk (make_draft T a kind path) (IsFair T a)
unfolding make_draft
make_takes T a kind path =
    bind_has (named_path path) _ _ (λ named.
    bind_has (directory_of T named) _ _ (λ directory.
    bind_with (with_take T (empty_draft a) directory) _ _ _ (fair_take T a [] (λ f. false) (empty_draft a) directory (fair_empty T a)) (λ draft k.
    bind_eq (next_body T draft) _ _ (λ n e.
    bind_has (new_file T a directory n) _ _ (λ file.
    let made : Op = op.Create (record { dir = directory; name = named.name; file = file; body = n; kind = kind }) in
    fair_end T a (directory ∷ []) (λ f. false) draft made (λ f. refl) (next_least T draft n e) k (λ f. or_false (file_eq directory f)))))))

write_takes : (T : Tree) (a : ℕ) (path : List ℕ) (off : ℕ) (bytes : List ℕ) → IfOk (write_draft T a path off bytes) (IsFair T a)
unfolding write_draft
write_takes T a path off bytes =
    bind_has (path_names path) _ _ (λ names.
    bind_has (at T names) _ _ (λ file.
    bind_with (with_take T (empty_draft a) file) _ _ _ (fair_take T a [] (λ f. false) (empty_draft a) file (fair_empty T a)) (λ draft k.
    let written : Op = op.Write (record { file = file; off = off; bytes = bytes }) in
    fair_end T a (file ∷ []) (λ f. false) draft written (λ f. refl) tt k (λ f. or_false (file_eq file f)))))

truncate_takes : (T : Tree) (a : ℕ) (path : List ℕ) (size : ℕ) → IfOk (truncate_draft T a path size) (IsFair T a)
unfolding truncate_draft
truncate_takes T a path size =
    bind_has (path_names path) _ _ (λ names.
    bind_has (at T names) _ _ (λ file.
    bind_with (with_take T (empty_draft a) file) _ _ _ (fair_take T a [] (λ f. false) (empty_draft a) file (fair_empty T a)) (λ draft k.
    let cut : Op = op.Truncate (record { file = file; size = size }) in
    fair_end T a (file ∷ []) (λ f. false) draft cut (λ f. refl) tt k (λ f. or_false (file_eq file f)))))

-- both files of a draft
both_taken : (T : Tree) (a : ℕ) (d f : FileId) (Q : List Op → Type 0) (next : DraftState → Result (List Op) Refusal)
    → ((draft : DraftState) → Fair T a (d ∷ f ∷ []) (λ g. false) draft → IfOk (next draft) Q)
    → IfOk (with_take T (empty_draft a) d >>= (λ first. with_take T first f >>= next)) Q
both_taken T a d f Q next h =
    bind_with (with_take T (empty_draft a) d) _ _ Q (fair_take T a [] (λ g. false) (empty_draft a) d (fair_empty T a)) (λ first k.
    bind_with (with_take T first f) _ next Q (fair_take T a (d ∷ []) (λ g. false) first f k) h)

link_takes : (T : Tree) (a : ℕ) (old new : List ℕ) → IfOk (link_draft T a old new) (IsFair T a)
unfolding link_draft
link_takes T a old new =
    bind_has (path_names old) _ _ (λ names.
    bind_has (named_path new) _ _ (λ named.
    bind_has (at T names) _ _ (λ file.
    bind_has (directory_of T named) _ _ (λ directory.
    both_taken T a directory file (IsFair T a) _ (λ draft k.
    let linked : Op = op.Link (record { dir = directory; name = named.name; file = file }) in
    fair_end T a (directory ∷ file ∷ []) (λ f. false) draft linked (λ f. refl) tt k (λ f. two (file_eq directory f) (file_eq file f)))))))

remove_takes : (T : Tree) (a : ℕ) (path : List ℕ) → IfOk (remove_draft T a path) (IsFair T a)
unfolding remove_draft
remove_takes T a path =
    bind_has (named_path path) _ _ (λ named.
    bind_has (directory_of T named) _ _ (λ directory.
    bind_has (entry T directory named.name) _ _ (λ file.
    both_taken T a directory file (IsFair T a) _ (λ draft k.
    let gone : Op = op.Unlink (record { dir = directory; name = named.name; file = file }) in
    fair_end T a (directory ∷ file ∷ []) (λ f. false) draft gone (λ f. refl) tt k (λ f. two (file_eq directory f) (file_eq file f))))))

three : (b c d : Bool) → (b || (c || (d || false))) ≡ ((false || (c || d)) || (b || c))
three true true d = refl
three true false true = refl
three true false false = refl
three false true d = refl
three false false true = refl
three false false false = refl

-- a draft that looked at both directories, and at what the new name led to
abbrev Freed : Tree → ℕ → FileId → FileId → DraftState → Type 0
Freed T a d t draft =
    Fair T a (d ∷ t ∷ []) (λ f. false) draft
    ⊎ ((g : FileId) × Fair T a (d ∷ t ∷ g ∷ []) (λ f. false || (file_eq t f || file_eq g f)) draft)

unlinked : (T : Tree) (a : ℕ) (d t : FileId) (x : Name) (draft : DraftState) (o : Option FileId) → Fair T a (d ∷ t ∷ []) (λ f. false) draft → IfOk (with_unlink T draft t x o) (Freed T a d t)
unlinked T a d t x draft None k = inl k
unlinked T a d t x draft (Some g) k =
    bind_with (with_take T draft g) _ _ (Freed T a d t) (fair_take T a (d ∷ t ∷ []) (λ f. false) draft g k) (λ taken h.
    inr (g, fair_more T a (d ∷ t ∷ g ∷ []) (λ f. false) taken (op.Unlink (record { dir = t; name = x; file = g })) (λ f. refl) refl h))

freed : (T : Tree) (a : ℕ) (d t : FileId) (x : Name) (draft : DraftState) → Fair T a (d ∷ t ∷ []) (λ f. false) draft → IfOk (with_name_free T draft t x) (Freed T a d t)
unfolding with_name_free
freed T a d t x draft k =
    bind_has (directory_place T t) _ (Freed T a d t) (λ place. unlinked T a d t x draft (led_to T place x) k)

moved_end : (T : Tree) (a : ℕ) (r : RenameOp) (draft : DraftState) → Freed T a r.from_ r.to_ draft → IsFair T a (with_operation draft (op.Rename r)).operations
moved_end T a r draft (inl k) =
    fair_end T a (r.from_ ∷ r.to_ ∷ []) (λ f. false) draft (op.Rename r) (λ f. refl) tt k (λ f. two (file_eq r.from_ f) (file_eq r.to_ f))
moved_end T a r draft (inr k) =
    fair_end T a (r.from_ ∷ r.to_ ∷ k.0 ∷ []) (λ f. false || (file_eq r.to_ f || file_eq k.0 f)) draft (op.Rename r) (λ f. refl) tt k.1
    (λ f. three (file_eq r.from_ f) (file_eq r.to_ f) (file_eq k.0 f))

moved_takes : (T : Tree) (a : ℕ) (r : RenameOp) → IfOk (moved T a r) (IsFair T a)
unfolding moved
moved_takes T a r =
    both_taken T a r.from_ r.to_ (IsFair T a) _ (λ both k.
    bind_with (with_name_free T both r.to_ r.new_) (Freed T a r.from_ r.to_) _ (IsFair T a) (freed T a r.from_ r.to_ r.new_ both k) (λ draft h. moved_end T a r draft h))

renamed_takes : (T : Tree) (a : ℕ) (same : Bool) (r : RenameOp) → IfOk (renamed T a same r) (IsFair T a)
renamed_takes T a true r = (λ f. refl, tt)
renamed_takes T a false r = moved_takes T a r

rename_takes : (T : Tree) (a : ℕ) (old new : List ℕ) → IfOk (rename_draft T a old new) (IsFair T a)
unfolding rename_draft
rename_takes T a old new =
    bind_has (named_path old) _ _ (λ from.
    bind_has (named_path new) _ _ (λ to.
    bind_has (directory_of T from) _ _ (λ source.
    bind_has (entry T source from.name) _ _ (λ file.
    bind_has (directory_of T to) _ _ (λ target.
    renamed_takes T a (pointwise nat_eq old new) (record { from_ = source; old_ = from.name; to_ = target; new_ = to.name; file = file }))))))

-- drops of these bodies write and take no file, and make no body
drops_write : (f : FileId) (ns : List ℕ) → list_any (writes_to f) (map drop_of ns) ≡ false
drops_write f [] = refl
drops_write f (n ∷ ns) = drops_write f ns

drops_take : (f : FileId) (ns : List ℕ) → list_any (takes f) (map drop_of ns) ≡ false
drops_take f [] = refl
drops_take f (n ∷ ns) = drops_take f ns

drops_count : (T : Tree) (a used : ℕ) (ns : List ℕ) → CountUp T a used (map drop_of ns)
drops_count T a used [] = tt
drops_count T a used (n ∷ ns) = (tt, drops_count T a used ns)

tidy_takes : (T : Tree) (a : ℕ) → IsFair T a (tidy_draft T a)
unfolding tidy_draft
tidy_takes T a =
    let ns : List ℕ = stale_from T a 1 in
    fair_none T a (map drop_of ns) (λ f. drops_take f ns) (λ f. drops_write f ns) (drops_count T a 0 ns)

of_takes : (T : Tree) (a : ℕ) (command : Command) → IfOk (draft_of T a command) (IsFair T a)
of_takes T a (Mkdir path) = make_takes T a Dir path.items
of_takes T a (Create path) = make_takes T a File path.items
of_takes T a (Write path off bytes) = write_takes T a path.items off bytes.items
of_takes T a (Truncate path size) = truncate_takes T a path.items size
of_takes T a (Link old new) = link_takes T a old.items new.items
of_takes T a (Rename old new) = rename_takes T a old.items new.items
of_takes T a (Remove path) = remove_takes T a path.items
of_takes T a Tidy = tidy_takes T a

known_takes : (T : Tree) (a : ℕ) (command : Command) (known : Bool) → IfOk (cond known (draft_of T a command) (Err (NoUser a))) (IsFair T a)
known_takes T a command true = of_takes T a command
known_takes T a command false = tt

pub draft_takes : (ro : Membership) (T : Tree) (a : ℕ) (command : Command) → IfOk (draft ro T a command) (IsFair T a)
unfolding draft
draft_takes ro T a command = known_takes T a command (has_user ro a)
