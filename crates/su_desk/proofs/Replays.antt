-- The live operations of a good history go in the replay as they did where they were applied,
-- whatever was undone; so the replay never refuses one.
use Rattle.std.proofs.Common.{◌≡◌, ℕ, ◌+◌, ◌<◌, ◌||◌, ◌↔◌, false, not, IsTrue, List, [], ◌∷◌, ◌++◌, length, length-append, nat_eq, None, Some, refl, sym, ap, ◌∙◌, subst, arith, append_assoc, append-nil}
use Rattle.std.specs.Option.{is_none, unwrap_or}
use Rattle.std.specs.List.{filter}
use Rattle.std.proofs.lemmas.List.{map-append}
use Rattle.std.proofs.Math.Bool.{or-false}
use Rattle.su_bytes.specs.Membership.{Membership}
use Rattle.su_bytes.specs.declared.formats.Format.{Format}
use Rattle.su_table.specs.Tree.{Tree, genesis}
use Rattle.su_op.specs.declared.areas.Area.{Area}
use Rattle.su_op.specs.declared.operations.Change.{Change}
use Rattle.su_op.specs.declared.operations.Change.TheVariants.{Do, Undo, Rekey}
use Rattle.su_op.specs.Area.{meet}
use Rattle.su_op.specs.Batch.{why}
use Rattle.su_op.specs.Soundness.{Sound}
use Rattle.su_op.specs.Batch.{Action}
use Rattle.su_op.specs.Batch.{store}
use Rattle.su_op.proofs.Public.{batches_lawful as store_lawful}
use Rattle.su_undo.specs.Replay.{replay as replay_actions, NoneReads, CanBeTakenOut}
use Rattle.su_undo.proofs.TakingOut.{AllBeside, led_to, agree_read, past_it, undo_is_safe}
use Rattle.su_desk.specs.declared.entries.Entry.{Entry}
use Rattle.su_desk.specs.History.{NumberedAction, actions, entry_doing, action_of, undo_by, rekey_by, is_undone, live, replay, tree}
use Rattle.su_desk.specs.Applied.{tree_after, GoesAsApplied}
use Rattle.su_desk.specs.Blocker.{blocker}
use Rattle.su_desk.proofs.FormatLemmas.{change_accepted}
use Rattle.su_desk.specs.Answer.{refusal_by_change, refusal_of, live_refusal, Good, GoodAfter}
use Rattle.su_desk.proofs.Operations.{Rising, rising_live, one_taken_out, is_undone-append, live-do, live-undo, live-rekey}
use Rattle.su_desk.proofs.WhereApplied.{InReplay, AllInReplay, entry_within, replay_reached, goes_beside, all_further, all_added, in_replay_now, written_of}
use Rattle.su_desk.proofs.LiveNumbers.{is_live, live_number, live_operation, undo_accepted}
use Rattle.su_desk.proofs.Blockers.{UnreadBy, free_unread}

pub first_sound : (ro : Membership) → Sound genesis
first_sound ro = (store_lawful ro).start_sound

-- the replay of the live operations, of which each goes as it did; and no undo names an entry that
-- is still to come
pub record Replayed (ro : Membership) (h : List Entry) (T : Tree) : Type 0 where
  pub in_replay : AllInReplay ro h genesis (live h) T
  pub past : (n : ℕ) → length h < n → is_undone h n ≡ false

-- the tree is that of the history
pub tree_replayed : (ro : Membership) (h : List Entry) (T : Tree) → Replayed ro h T → tree ro h ≡ Some T
unfolding tree
tree_replayed ro h T r = replay_reached ro h genesis T (live h) r.in_replay

-- ---- operations before and after one

pub record Split (ro : Membership) (h : List Entry) (S : Tree) (before : List NumberedAction) (t : NumberedAction) (after : List NumberedAction) (T : Tree) : Type 0 where
  pub earlier : Tree
  pub sound : Sound earlier
  pub front : AllInReplay ro h S before earlier
  pub here : InReplay ro h earlier t
  pub rest : AllInReplay ro h ((store ro).act earlier t.action) after T

pub split : (ro : Membership) (h : List Entry) (S T : Tree) (before after : List NumberedAction) (t : NumberedAction) → Sound S → AllInReplay ro h S (before ++ t ∷ after) T → Split ro h S before t after T
split ro h S T [] after t sound (s, rest) = record { earlier = S; sound = sound; front = refl; here = s; rest = rest }
split ro h S T (u ∷ before) after t sound (s, more) =
    let r = split ro h ((store ro).act S u.action) T before after t ((store_lawful ro).stays_sound S u.action sound s.goes.alike.ok) more in
    record { earlier = r.earlier; sound = r.sound; front = (s, r.front); here = r.here; rest = r.rest }

pub split_live : (ro : Membership) (h : List Entry) (T : Tree) (before after : List NumberedAction) (t : NumberedAction) → Replayed ro h T → live h ≡ before ++ t ∷ after → Split ro h genesis before t after T
split_live ro h T before after t r is = split ro h genesis T before after t (first_sound ro) (subst (λ ts. AllInReplay ro h genesis ts T) is r.in_replay)

join : (ro : Membership) (h : List Entry) (S R T : Tree) (before after : List NumberedAction) → AllInReplay ro h S before R → AllInReplay ro h R after T → AllInReplay ro h S (before ++ after) T
join ro h S R T [] after e rest = subst (λ U. AllInReplay ro h U after T) (sym e) rest
join ro h S R T (u ∷ before) after (s, front) rest = (s, join ro h ((store ro).act S u.action) R T before after front rest)

-- ---- an operation taken out

-- the undo of a live operation takes it out of the live ones, and that alone
pub undone_out : (h : List Entry) (before after : List NumberedAction) (t : NumberedAction) (a : ℕ) (f : Format) → live h ≡ before ++ t ∷ after → live (h ++ undo_by a f t.number ∷ []) ≡ before ++ after
undone_out h before after t a f is =
    live-undo h a f t.number
    ∙ ap (filter (λ (u : NumberedAction). not (nat_eq u.number t.number))) is
    ∙ one_taken_out 0 before after t (subst (Rising 0) is (rising_live h))

-- operations that didn't read some cells where they were applied don't read them in the replay
pub none_reads : (ro : Membership) (h : List Entry) (w : List Area) (S T : Tree) (ts : List NumberedAction) → AllInReplay ro h S ts T → UnreadBy ro h w ts → NoneReads (store ro) w S (actions ts)
none_reads ro h w S T [] e unread = tt
none_reads ro h w S T (t ∷ ts) (s, rest) (clear, unread) = (ap (λ a. meet a w) s.goes.alike.reads ∙ clear, none_reads ro h w ((store ro).act S t.action) T ts rest unread)

in_replay_beside : (ro : Membership) (h : List Entry) (w : List Area) (S S' T : Tree) (ts : List NumberedAction) → AllBeside (store ro) w S S' (actions ts) → AllInReplay ro h S ts T → AllInReplay ro h S' ts (led_to (store ro) S' (actions ts))
in_replay_beside ro h w S S' T [] b e = refl
in_replay_beside ro h w S S' T (t ∷ ts) (b, more) (s, rest) = (
  record { goes = goes_beside ro h S S' t s.goes (agree_read (store ro) (store_lawful ro) S S' t.action w b.clear b.agree) b.goes; entry = s.entry },
  in_replay_beside ro h w ((store ro).act S t.action) ((store ro).act S' t.action) T ts more rest,
)

-- after one that nothing blocks, no later one reads what it writes
pub free_none_reads : (ro : Membership) (h : List Entry) (T : Tree) (before after : List NumberedAction) (t : NumberedAction) → (p : Split ro h genesis before t after T) → live h ≡ before ++ t ∷ after → blocker ro h t.number ≡ None
    → NoneReads (store ro) ((store ro).writes p.earlier t.action) ((store ro).act p.earlier t.action) (actions after)
free_none_reads ro h T before after t p is free =
    none_reads ro h ((store ro).writes p.earlier t.action) ((store ro).act p.earlier t.action) T after p.rest
    (subst (λ w. UnreadBy ro h w after) (sym (p.here.goes.alike.writes ∙ written_of ro h t p.here.entry)) (free_unread ro h before after t is free))

-- so it can be taken out
pub can_be_taken_out : (ro : Membership) (h : List Entry) (T : Tree) → Replayed ro h T → (before after : List NumberedAction) (t : NumberedAction) → live h ≡ before ++ t ∷ after → blocker ro h t.number ≡ None
    → CanBeTakenOut (store ro) genesis (actions before) t.action (actions after) T
can_be_taken_out ro h T r before after t is free =
    let p = split_live ro h T before after t r is in
    undo_is_safe (store ro) (store_lawful ro) genesis p.earlier T (actions before) (actions after) t.action (first_sound ro)
    (replay_reached ro h genesis p.earlier before p.front)
    (ap (replay_actions (store ro) genesis) (sym (map-append (λ u. u.action) before (t ∷ after)) ∙ ap actions (sym is)) ∙ replay_reached ro h genesis T (live h) r.in_replay)
    (free_none_reads ro h T before after t p is free)

-- and the others lead to a tree without it
left_out : (ro : Membership) (h : List Entry) (T : Tree) (before after : List NumberedAction) (t : NumberedAction) → Replayed ro h T → live h ≡ before ++ t ∷ after → blocker ro h t.number ≡ None → (R : Tree) × AllInReplay ro h genesis (before ++ after) R
left_out ro h T before after t r is free =
    let p = split_live ro h T before after t r is in
    let b = past_it (store ro) (store_lawful ro) p.earlier T t.action (actions after) p.sound p.here.goes.alike.ok
    (replay_reached ro h ((store ro).act p.earlier t.action) T after p.rest) (free_none_reads ro h T before after t p is free) in (
      led_to (store ro) p.earlier (actions after),
      join ro h genesis p.earlier (led_to (store ro) p.earlier (actions after)) before after p.front
          (in_replay_beside ro h ((store ro).writes p.earlier t.action) ((store ro).act p.earlier t.action) p.earlier T after b p.rest),
    )

-- ---- where it comes in the replay

-- in the replay each live operation goes as it did where it was applied
pub goes_in_replay : (ro : Membership) (h : List Entry) (T : Tree) → Replayed ro h T → (before after : List NumberedAction) (t : NumberedAction) (S : Tree) → live h ≡ before ++ t ∷ after → replay ro genesis before ≡ Some S → GoesAsApplied ro h S t
goes_in_replay ro h T r before after t S is e =
    let p = split_live ro h T before after t r is in
    let both : Some p.earlier ≡ Some S = sym (replay_reached ro h genesis p.earlier before p.front) ∙ e in
    let same : p.earlier ≡ S = cc in subst (λ U. GoesAsApplied ro h U t) same p.here.goes

-- ---- one entry more

other : (m n : ℕ) → n < m → nat_eq m n ≡ false
other m n l = grind arith

-- a history with the tree of its replay
pub record HasTree (ro : Membership) (h : List Entry) : Type 0 where
  pub state : Tree
  pub replayed : Replayed ro h state

next_do : (ro : Membership) (h : List Entry) (T : Tree) (x : Action) → Replayed ro h T → IsTrue ((store ro).ok T x) → Replayed ro (h ++ entry_doing x ∷ []) ((store ro).act T x)
next_do ro h T x r ok =
    let e : Entry = entry_doing x in
    let t : NumberedAction = record { number = length h + 1; action = x } in
    record {
      in_replay = subst (λ ts. AllInReplay ro (h ++ e ∷ []) genesis ts ((store ro).act T x)) (sym (live-do h x (r.past (length h + 1) (omega arith))))
          (all_added ro (h ++ e ∷ []) genesis T (live h) t (all_further ro h e genesis T (live h) r.in_replay) (in_replay_now ro h T x (tree_replayed ro h T r) ok));
      past = λ n l. is_undone-append h e n ∙ or-false (is_undone h n) ∙ r.past n (let more = length-append h (e ∷ []) in omega arith);
    }

next_undo : (ro : Membership) (h : List Entry) (T : Tree) (a : ℕ) (f : Format) (n : ℕ) → Replayed ro h T → live_refusal h n ≡ None → blocker ro h n ≡ None → HasTree ro (h ++ undo_by a f n ∷ [])
next_undo ro h T a f n r lives free =
    let e : Entry = undo_by a f n in
    let l = live_operation (live h) n (live_number h n lives) in
    let within = entry_within h n _ (is_live h n lives).entry in
    let o = left_out ro h T l.before l.after l.operation r l.whole (ap (blocker ro h) l.number ∙ free) in
    let left : live (h ++ e ∷ []) ≡ l.before ++ l.after
    = ap (λ m. live (h ++ undo_by a f m ∷ [])) (sym l.number) ∙ undone_out h l.before l.after l.operation a f l.whole in
    record {
      state = o.0;
      replayed = record {
        in_replay = subst (λ ts. AllInReplay ro (h ++ e ∷ []) genesis ts o.0) (sym left) (all_further ro h e genesis o.0 (l.before ++ l.after) o.1);
        past = λ m l.
            let more = length-append h (e ∷ []) in
            is_undone-append h e m ∙ ap (λ b. b || nat_eq m n) (r.past m (omega arith)) ∙ other m n (omega arith);
      };
    }

next_rekey : (ro : Membership) (h : List Entry) (T : Tree) (a : ℕ) (f : Format) (k : List ℕ) → Replayed ro h T → Replayed ro (h ++ rekey_by a f k ∷ []) T
next_rekey ro h T a f k r =
    let e : Entry = rekey_by a f k in
    record {
      in_replay = subst (λ ts. AllInReplay ro (h ++ e ∷ []) genesis ts T) (sym (live-rekey h a f k)) (all_further ro h e genesis T (live h) r.in_replay);
      past = λ n l. is_undone-append h e n ∙ or-false (is_undone h n) ∙ r.past n (let more = length-append h (e ∷ []) in omega arith);
    }

next : (ro : Membership) (h : List Entry) (e : Entry) → HasTree ro h → refusal_of ro h e ≡ None → HasTree ro (h ++ e ∷ [])
next ro h e r accepted = go e.change (change_accepted ro h e accepted)
  where
    go : (c : Change) → refusal_by_change ro h e c ≡ None → HasTree ro (h ++ record e { change = c } ∷ [])
    go (Do op) accepted =
        let x : Action = action_of e op in
        record {
          state = (store ro).act r.state x;
          replayed = next_do ro h r.state x r.replayed (ap is_none (ap (λ o. why ro (unwrap_or o genesis) x) (sym (tree_replayed ro h r.state r.replayed)) ∙ accepted));
        }
    go (Undo n) accepted = let u = undo_accepted ro h e.author n accepted in next_undo ro h r.state e.author e.format n r.replayed u.stands u.free
    go (Rekey k) accepted = record { state = r.state; replayed = next_rekey ro h r.state e.author e.format k r.replayed }

-- ---- good histories

pub good_after : (ro : Membership) (h es : List Entry) → HasTree ro h → GoodAfter ro h es → HasTree ro (h ++ es)
good_after ro h [] r g = subst (HasTree ro) (sym (append-nil h)) r
good_after ro h (e ∷ es) r (accepted, g) = subst (HasTree ro) (append_assoc h (e ∷ []) es) (good_after ro (h ++ e ∷ []) es (next ro h e r accepted) g)

pub good_has_tree : (ro : Membership) (h : List Entry) → Good ro h → HasTree ro h
good_has_tree ro h g = good_after ro [] h (record { state = genesis; replayed = record { in_replay = refl; past = λ n l. refl } }) g

pub good_further_after : (ro : Membership) (h es : List Entry) (e : Entry) → GoodAfter ro h es → refusal_of ro (h ++ es) e ≡ None → GoodAfter ro h (es ++ e ∷ [])
good_further_after ro h [] e g accepted = (ap (λ l. refusal_of ro l e) (sym (append-nil h)) ∙ accepted, tt)
good_further_after ro h (x ∷ es) e (first, g) accepted =
    (first, good_further_after ro (h ++ x ∷ []) es e g (ap (λ l. refusal_of ro l e) (append_assoc h (x ∷ []) es) ∙ accepted))

-- a good history with an accepted entry more
pub good_further : (ro : Membership) (h : List Entry) (e : Entry) → Good ro h → refusal_of ro h e ≡ None → Good ro (h ++ e ∷ [])
good_further ro h e g accepted = good_further_after ro [] h e g accepted

-- the tree that a good history has
pub good_replayed : (ro : Membership) (h : List Entry) (T : Tree) → Good ro h → tree ro h ≡ Some T → Replayed ro h T
good_replayed ro h T g is =
    let r = good_has_tree ro h g in
    let both : Some r.state ≡ Some T = sym (tree_replayed ro h r.state r.replayed) ∙ is in
    let same : r.state ≡ T = cc in subst (Replayed ro h) same r.replayed

-- of a history and one entry more
accepted_apart : (ro : Membership) (h es : List Entry) (e : Entry) → GoodAfter ro h (es ++ e ∷ []) → GoodAfter ro h es × (refusal_of ro (h ++ es) e ≡ None)
accepted_apart ro h [] e (accepted, g) = (tt, ap (λ l. refusal_of ro l e) (append-nil h) ∙ accepted)
accepted_apart ro h (x ∷ es) e (first, g) =
    let r = accepted_apart ro (h ++ x ∷ []) es e g in ((first, r.0), ap (λ l. refusal_of ro l e) (sym (append_assoc h (x ∷ []) es)) ∙ r.1)

pub good_exact : (ro : Membership) (h : List Entry) (e : Entry) → Good ro (h ++ e ∷ []) ↔ (Good ro h × (refusal_of ro h e ≡ None))
good_exact ro h e = (accepted_apart ro [] h e, λ (good, accepted). good_further ro h e good accepted)

-- an operation after a good history is live
pub live_done : (ro : Membership) (h : List Entry) (x : Action) → Good ro h → live (h ++ entry_doing x ∷ []) ≡ live h ++ record { number = length h + 1; action = x } ∷ []
live_done ro h x good = live-do h x ((good_has_tree ro h good).replayed.past (length h + 1) (omega arith))

-- and an accepted one does what it does to the tree that the history left
pub tree_done : (ro : Membership) (h : List Entry) (x : Action) → Good ro h → why ro (tree_after ro h) x ≡ None → tree ro (h ++ entry_doing x ∷ []) ≡ Some ((store ro).act (tree_after ro h) x)
tree_done ro h x good accepted =
    let r = good_has_tree ro h good in
    let same : tree_after ro h ≡ r.state = ap (λ o. unwrap_or o genesis) (tree_replayed ro h r.state r.replayed) in
    let ok : IsTrue ((store ro).ok r.state x) = ap is_none (ap (λ R. why ro R x) (sym same) ∙ accepted) in
    tree_replayed ro (h ++ entry_doing x ∷ []) ((store ro).act r.state x) (next_do ro h r.state x r.replayed ok)
    ∙ ap (λ R. Some ((store ro).act R x)) (sym same)
