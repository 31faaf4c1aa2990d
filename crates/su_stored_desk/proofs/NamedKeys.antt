-- The keys that users have or had, one entry further on.
use Rattle.std.proofs.Common.{◌≡◌, ℕ, Bool, true, false, cond, List, [], ◌∷◌, ◌++◌, Some, None, refl, sym, ap, ◌∙◌, subst, append_assoc, append-nil}
use Rattle.std.specs.Option.{option_to_list}
use Rattle.std.proofs.lemmas.Grind.{flat_map-append}
use Rattle.su_bytes.specs.Keys.{is_among, roster_keys}
use Rattle.su_bytes.specs.Membership.{Membership, has_user}
use Rattle.su_bytes.specs.declared.formats.Format.{Format}
use Rattle.su_bytes.specs.declared.refusals.Refusal.TheVariants.{BadKey, KeyReuse, NoUser}
use Rattle.su_lms.specs.Signature.{is_public_key}
use Rattle.su_op.specs.Action.{named_key}
use Rattle.su_op.specs.declared.operations.Change.TheVariants.{Rekey}
use Rattle.su_table.specs.Tree.{Tree, genesis}
use Rattle.su_desk.specs.declared.entries.Entry.{Entry}
use Rattle.su_stored_desk.specs.Keeping.{KeptOperation}
use Rattle.su_desk.specs.History.{rekey_by, named_keys, keys_after}
use Rattle.su_desk.specs.Answer.{format_refusal, rekey_refusal}
use Rattle.su_desk.specs.Desk.{DeskState, with_entry}
use Rattle.su_stored_desk.specs.Keeping.{Leads, Keeps}
use Rattle.su_desk.proofs.FormatLemmas.{by_change, change_accepted}
use Rattle.su_desk.proofs.Operations.{live-rekey}
use Rattle.su_desk.proofs.Replays.{good_exact, good_further}

-- ---- one entry more

pub named_keys-append : (h : List Entry) (e : Entry) → named_keys (h ++ e ∷ []) ≡ named_keys h ++ option_to_list (named_key e.change)
named_keys-append h e =
    flat_map-append (λ (x : Entry). option_to_list (named_key x.change)) h (e ∷ [])
    ∙ ap (λ ks. named_keys h ++ ks) (append-nil (option_to_list (named_key e.change)))

pub keys_further : (ro : Membership) (h : List Entry) (e : Entry) → keys_after ro (h ++ e ∷ []) ≡ keys_after ro h ++ option_to_list (named_key e.change)
keys_further ro h e =
    ap (λ ks. roster_keys ro ++ ks) (named_keys-append h e)
    ∙ sym (append_assoc (roster_keys ro) (named_keys h) (option_to_list (named_key e.change)))

-- an entry that names no key leaves them as they were
pub same_keys : (ro : Membership) (h : List Entry) (e : Entry) → named_key e.change ≡ None → keys_after ro (h ++ e ∷ []) ≡ keys_after ro h
same_keys ro h e none = keys_further ro h e ∙ ap (λ o. keys_after ro h ++ option_to_list o) none ∙ append-nil (keys_after ro h)

-- and one that names a key adds it
pub one_key_more : (ro : Membership) (h : List Entry) (e : Entry) (k : List ℕ) → e.change ≡ Rekey k → keys_after ro (h ++ e ∷ []) ≡ keys_after ro h ++ k ∷ []
one_key_more ro h e k is = keys_further ro h e ∙ ap (λ c. keys_after ro h ++ option_to_list (named_key c)) is

-- before an entry that named none they were the same
pub keys_before : (ro : Membership) (h before : List Entry) (d : DeskState) (e : Entry) → record { roster = ro; history = h } ≡ with_entry d e → before ≡ d.history → named_key e.change ≡ None → keys_after ro h ≡ keys_after ro before
keys_before ro h before d e seen is none =
    let roster : ro ≡ d.roster = ap (λ (x : DeskState). x.roster) seen in
    ap (λ (x : DeskState). keys_after x.roster x.history) seen ∙ same_keys d.roster d.history e none
    ∙ ap (λ r. keys_after r d.history) (sym roster) ∙ ap (keys_after ro) (sym is)

-- ---- what an accepted rekey names

-- no user has or had it
pub unused : (ro : Membership) (h : List Entry) (a : ℕ) (k : List ℕ) → rekey_refusal ro h a k ≡ None → is_among (keys_after ro h) k ≡ false
unused ro h a k accepted = user (has_user ro a) accepted
  where
    fresh : (b : Bool) → cond b (Some KeyReuse) None ≡ None → b ≡ false
    fresh true e = absurd (let bad : Some KeyReuse ≡ None = e in cc)
    fresh false e = refl

    spelled : (b : Bool) → cond b (cond (is_among (keys_after ro h) k) (Some KeyReuse) None) (Some BadKey) ≡ None → is_among (keys_after ro h) k ≡ false
    spelled true e = fresh (is_among (keys_after ro h) k) e
    spelled false e = absurd (let bad : Some BadKey ≡ None = e in cc)

    user : (b : Bool) → cond b (cond (is_public_key k) (cond (is_among (keys_after ro h) k) (Some KeyReuse) None) (Some BadKey)) (Some (NoUser a)) ≡ None → is_among (keys_after ro h) k ≡ false
    user true e = spelled (is_public_key k) e
    user false e = absurd (let bad : Some (NoUser a) ≡ None = e in cc)

-- ---- what is kept with it

-- the operations that are live stay, and lead to the same forest
pub keeps_rekey : (ro : Membership) (h : List Entry) (ks : List KeptOperation) (T : Tree) (a : ℕ) (f : Format) (k : List ℕ) → Keeps ro h ks T → format_refusal h f (Rekey k) ≡ None → rekey_refusal ro h a k ≡ None
    → Keeps ro (h ++ rekey_by a f k ∷ []) ks T
keeps_rekey ro h ks T a f k keeps has accepted = record {
  good = good_further ro h (rekey_by a f k) keeps.good (by_change ro h (rekey_by a f k) has ∙ accepted);
  leads = subst (λ ts. Leads ro genesis ts ks T) (sym (live-rekey h a f k)) keeps.leads;
}

-- before a rekey that was accepted the same was kept, and no user had its key
pub record BeforeRekey (ro : Membership) (h : List Entry) (k : List ℕ) (ks : List KeptOperation) (T : Tree) : Type 0 where
  pub keeps : Keeps ro h ks T
  pub unused : is_among (keys_after ro h) k ≡ false

before_rekey : (ro : Membership) (h : List Entry) (a : ℕ) (f : Format) (k : List ℕ) (ks : List KeptOperation) (T : Tree) → Keeps ro (h ++ rekey_by a f k ∷ []) ks T → BeforeRekey ro h k ks T
before_rekey ro h a f k ks T keeps =
    let both = (good_exact ro h (rekey_by a f k)).0 keeps.good in record {
      keeps = record { good = both.0; leads = subst (λ ts. Leads ro genesis ts ks T) (live-rekey h a f k) keeps.leads };
      unused = unused ro h a k (change_accepted ro h (rekey_by a f k) both.1);
    }

pub key_taken_back : (ro : Membership) (h : List Entry) (e : Entry) (k : List ℕ) (ks : List KeptOperation) (T : Tree) → e.change ≡ Rekey k → Keeps ro (h ++ e ∷ []) ks T → BeforeRekey ro h k ks T
key_taken_back ro h e k ks T is keeps = before_rekey ro h e.author e.format k ks T (subst (λ c. Keeps ro (h ++ record e { change = c } ∷ []) ks T) is keeps)
