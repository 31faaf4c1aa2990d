-- What the desk is for holds of every good history.
use Rattle.std.proofs.Common.{◌≡◌, ℕ, true, cond, List, [], ◌∷◌, ◌++◌, None, Some, refl, sym, ap, ◌∙◌, append_assoc, append-nil}
use Rattle.std.specs.Option.{option_or, unwrap_or}
use Rattle.std.proofs.lemmas.Bool.{eq-eqb}
use Rattle.su_bytes.specs.Format.{is_as_new}
use Rattle.su_bytes.specs.Membership.{Membership, has_user}
use Rattle.su_bytes.specs.declared.formats.Format.{Format}
use Rattle.su_bytes.specs.declared.refusals.Refusal.TheVariants.{BadNumber, NotAuthor}
use Rattle.su_table.specs.Tree.{Tree, genesis}
use Rattle.su_op.specs.declared.operations.Op.{Op}
use Rattle.su_op.specs.Action.{Action as OneAction, action_by as one_by}
use Rattle.su_op.specs.Batch.{Action, action_by}
use Rattle.su_op.specs.Rule.{Plan}
use Rattle.su_op.specs.Batch.{why}
use Rattle.su_op.specs.Operation.{rule_of, why as why_one}
use Rattle.su_op.proofs.Public.{Gives, first_accepted, gives_of, none_is}
use Rattle.su_desk.specs.declared.entries.Entry.{Entry}
use Rattle.su_desk.specs.History.{NumberedAction, format_after, undo_by, undos, live, replay, tree, entry_at, last_number, last_live}
use Rattle.su_desk.specs.Applied.{tree_after}
use Rattle.su_desk.specs.Blocker.{blocker}
use Rattle.su_desk.specs.Answer.{author_refusal, blocked_refusal, undo_refusal, Good, GoodAfter}
use Rattle.su_desk.specs.Headline.{Headline}
use Rattle.su_desk.proofs.FormatLemmas.{by_change, undo_fits, undos_as_new}
use Rattle.su_desk.proofs.VersionNumbers.{never_falls}
use Rattle.su_desk.proofs.Blockers.{latest_free, named_exact, free_exact}
use Rattle.su_desk.proofs.LiveNumbers.{live_alone, by_blocker_alone}
use Rattle.su_desk.proofs.Replays.{Replayed, HasTree, tree_replayed, split_live, undone_out, can_be_taken_out, goes_in_replay, good_after, good_further_after, good_has_tree, good_replayed}

-- ---- who did an accepted operation belongs to the roster

author_demanded : (ro : Membership) (T : Tree) (x : OneAction) (p : Plan) → Gives (rule_of ro T x) p → has_user ro x.author ≡ true
author_demanded ro T x p (user, rest) = user

one_known : (ro : Membership) (T : Tree) (x : OneAction) → why_one ro T x ≡ None → has_user ro x.author ≡ true
unfolding why_one
one_known ro T x ok = author_demanded ro T x _ (gives_of (rule_of ro T x) ok)

author_of : (ro : Membership) (T : Tree) (a : ℕ) (f : Format) (ops : List Op) → why ro T (action_by a f ops) ≡ None → has_user ro a ≡ true
author_of ro T a f [] ok = absurd (let bad : Some BadNumber ≡ None = ok in cc)
author_of ro T a f (op ∷ ops) ok = one_known ro T (one_by a f op) (first_accepted ro T a f op ops ok)

author_known : (ro : Membership) (T : Tree) (x : Action) → why ro T x ≡ None → has_user ro x.author ≡ true
author_known ro T x ok = author_of ro T x.author x.format x.operations ok

-- ---- the undo of a live operation by its author

refused_by_blocker : (ro : Membership) (h : List Entry) (T : Tree) → Replayed ro h T → (before after : List NumberedAction) (t : NumberedAction) → live h ≡ before ++ t ∷ after
    → undo_refusal ro h t.action.author t.number ≡ blocked_refusal (blocker ro h t.number)
refused_by_blocker ro h T r before after t is =
    let a = t.action.author in
    let n = t.number in
    let p = split_live ro h T before after t r is in
    let known = author_known ro p.earlier t.action (none_is (why ro p.earlier t.action) p.here.goes.alike.ok) in
    let own : author_refusal a (entry_at h n) ≡ None = ap (author_refusal a) p.here.entry ∙ ap (λ b. cond b None (Some (NotAuthor a))) (eq-eqb a a refl) in
    by_blocker_alone ro h a n known (live_alone h before after t is p.here.entry) own

-- ---- undone from the last on

last_number-append : (ts : List NumberedAction) (t : NumberedAction) → last_number (ts ++ t ∷ []) ≡ Some t.number
last_number-append [] t = refl
last_number-append (u ∷ ts) t = ap (λ o. option_or o (Some u.number)) (last_number-append ts t)

-- the last of the live operations can be undone by its author
last_accepted : (ro : Membership) (h : List Entry) (T : Tree) → Replayed ro h T → (ts : List NumberedAction) (t : NumberedAction) → live h ≡ ts ++ t ∷ [] → undo_refusal ro h t.action.author t.number ≡ None
last_accepted ro h T r ts t is =
    let last : last_live h ≡ t.number = ap (λ us. unwrap_or (last_number us) 0) is ∙ ap (λ o. unwrap_or o 0) (last_number-append ts t) in
    refused_by_blocker ro h T r ts [] t is ∙ ap blocked_refusal (ap (blocker ro h) (sym last) ∙ latest_free ro h)

-- where all behind a point are undone, those before it are left
left : (h : List Entry) (f : Format) (ts us : List NumberedAction) → live h ≡ ts ++ us → live (h ++ undos f us) ≡ ts
left h f ts [] is = ap live (append-nil h) ∙ is ∙ append-nil ts
left h f ts (t ∷ us) is =
    let e : Entry = undo_by t.action.author f t.number in
    ap live (sym (append_assoc h (undos f us) (e ∷ [])))
    ∙ undone_out (h ++ undos f us) ts [] t t.action.author f (left h f (ts ++ t ∷ []) us (is ∙ sym (append_assoc ts (t ∷ []) us))) ∙ append-nil ts

-- and they can be, in a format as new as the last entry's
come_back : (ro : Membership) (h : List Entry) → HasTree ro h → (f : Format) (ts us : List NumberedAction) → is_as_new f (format_after h) ≡ true → live h ≡ ts ++ us → GoodAfter ro h (undos f us)
come_back ro h r f ts [] new is = tt
come_back ro h r f ts (t ∷ us) new is =
    let e : Entry = undo_by t.action.author f t.number in
    let before = is ∙ sym (append_assoc ts (t ∷ []) us) in
    let good = come_back ro h r f (ts ++ t ∷ []) us new before in
    let q = good_after ro h (undos f us) r good in
    let fits = undo_fits (h ++ undos f us) f t.number (undos_as_new h f us new) in
    good_further_after ro h (undos f us) e good
    (by_change ro (h ++ undos f us) e fits ∙ last_accepted ro (h ++ undos f us) q.state q.replayed ts t (left h f (ts ++ t ∷ []) us before))

point_tree : (ro : Membership) (h : List Entry) (f : Format) (ts us : List NumberedAction) → live (h ++ undos f us) ≡ ts → tree ro (h ++ undos f us) ≡ replay ro genesis ts
unfolding tree
point_tree ro h f ts us is = ap (replay ro genesis) is

undone_tree : (ro : Membership) (h : List Entry) (before after : List NumberedAction) (t : NumberedAction) (a : ℕ) (f : Format) → live h ≡ before ++ t ∷ after → tree ro (h ++ undo_by a f t.number ∷ []) ≡ replay ro genesis (before ++ after)
unfolding tree
undone_tree ro h before after t a f is = ap (replay ro genesis) (undone_out h before after t a f is)

-- ---- all of it

pub headline_of : (ro : Membership) (h : List Entry) (T : Tree) → Good ro h → tree ro h ≡ Some T → Headline ro h T
headline_of ro h T good is =
    let r = good_replayed ro h T good is in
    let has : HasTree ro h = record { state = T; replayed = r } in
    record {
      replayed = is;
      as_applied = goes_in_replay ro h T r;
      rising = never_falls ro h;
      latest = latest_free ro h;
      accepted = come_back ro h has;
      every_point = λ f ts us whole. point_tree ro h f ts us (left h f ts us whole);
      out = undone_out h;
      undone = undone_tree ro h;
      taken_out = can_be_taken_out ro h T r;
      blocked = refused_by_blocker ro h T r;
      named = named_exact ro h;
      free = free_exact ro h;
    }

-- a good history has it, with the tree that it leaves
pub good_headline : (ro : Membership) (h : List Entry) → Good ro h → Headline ro h (tree_after ro h)
good_headline ro h good =
    let r = good_has_tree ro h good in
    let is = tree_replayed ro h r.state r.replayed in
    headline_of ro h (tree_after ro h) good (is ∙ ap (λ o. Some (unwrap_or o genesis)) (sym is))
