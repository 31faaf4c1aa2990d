-- Operations that stand ready one by one are joined into the entry of a batch.
use Rattle.std.specs.Prelude.{◌≡◌, ℕ, List, [], ◌∷◌, take, length, slice_get, None, Some, true}
use Rattle.std.specs.Global.{Vec}
use Rattle.std.specs.List.{AllByRecursion}
use Rattle.std.proofs.Common.{sym, ap, ◌∙◌, subst}
use Rattle.su_bytes.specs.Membership.{Membership}
use Rattle.su_bytes.specs.declared.formats.Format.{Format}
use Rattle.su_bytes.specs.declared.principals.Principal.{Principal}
use Rattle.su_block.specs.declared.sources.BlockSource.{Ghosts}
use Rattle.su_op.specs.declared.operations.Op.{Op}
use Rattle.su_op.specs.declared.operations.Change.TheVariants.{Do}
use Rattle.su_op.specs.Action.{is_many}
use Rattle.su_desk.specs.declared.entries.Entry.{Entry}
use Rattle.su_desk.specs.Desk.{DeskState, with_entry}
use Rattle.su_desk.specs.History.{entry_by}
use Rattle.su_desk.specs.Trial.{TrialState, ready_with, with_ready}
use Rattle.su_desk.specs.Version.{versions}
use Rattle.su_stored_desk.specs.declared.desks.Desk.{Desk}
use Rattle.su_stored_desk.specs.declared.prepared.Tried.{Tried}
use Rattle.su_stored_desk.specs.Asked.{NoneMixed}
use Rattle.su_stored_desk.specs.Joined.{each_alone, HasEach}
use Rattle.su_stored_desk.specs.Right.{state_of, HasNumbers, IsRight}
use Rattle.su_stored_desk.specs.Tried.{TakeAllBack}
use Rattle.su_stored_desk.proofs.Clearness.{Known}
use Rattle.su_stored_desk.proofs.JoinedLemmas.{first_back}
use Rattle.su_stored_desk.proofs.StandingReady.{Seen, settled_versions}

-- what holds of all holds of the first
first_has : (P : Tried → Type 0) (ts : List Tried) (t : Tried) → slice_get ts 0 ≡ Some t → AllByRecursion P ts → P t
first_has P [] t is all = absurd (let bad : None ≡ Some t = is in cc)
first_has P (u ∷ ts) t is (first, rest) = let same : u ≡ t = cc in subst P same first

-- which is left alone
first_left : (ts : List Tried) (t : Tried) → slice_get ts 0 ≡ Some t → take 1 ts ≡ t ∷ []
first_left [] t is = absurd (let bad : None ≡ Some t = is in cc)
first_left (u ∷ ts) t is = let same : u ≡ t = cc in ap (λ x. x ∷ []) same

module _ {S : Type 0} {g : Ghosts S} (may_give : S → List ℕ → Type 0) (d d' : Desk S g) (ts : List Tried) (asked : List (S × Vec Entry)) (v : TrialState) (k : Known may_give d ts asked v)
    (a : ℕ) (f : Format) (ops : List Op) (ready : v.ready ≡ each_alone a f ops) (t : Tried) (first : slice_get ts 0 ≡ Some t) (numbers : List (Principal × ℕ)) (are : numbers ≡ t.versions.items) where
  -- the desk has them one by one
  pub has_each : HasEach v.settled a f ops (state_of d)
  has_each = k.seen.whole ∙ ap (with_ready v.settled) ready

  -- the numbers are those before them
  pub numbers_before : NoneMixed may_give d.roster asked → numbers ≡ versions v.settled.roster v.settled.history
  numbers_before clear = are ∙ settled_versions v.settled v.ready ts t (k.back clear) first

  pub has_numbers : HasNumbers d.roster numbers
  has_numbers = subst (HasNumbers d.roster) (sym are) (first_has (λ (u : Tried). HasNumbers d.roster u.versions.items) ts t first k.numbered)

  module _ (kept : HasNumbers d.roster d.counters.items → HasNumbers d.roster numbers → HasNumbers d'.roster d'.counters.items) (right : NoneMixed may_give d.roster asked → IsRight d') where
    -- memory was wanting
    pub known_unjoined : state_of d' ≡ state_of d → Known may_give d' ts asked v
    known_unjoined same =
        let roster : d'.roster ≡ d.roster = ap (λ (x : DeskState). x.roster) same in
        record {
          seen = subst (λ x. Seen x ts v) (sym same) k.seen;
          numbers = kept k.numbers has_numbers;
          numbered = subst (λ (ro : Membership). AllByRecursion (λ (u : Tried). HasNumbers ro u.versions.items) ts) (sym roster) k.numbered;
          right = λ clear. right (subst (λ ro. NoneMixed may_give ro asked) roster clear);
          back = λ clear. k.back (subst (λ ro. NoneMixed may_give ro asked) roster clear);
        }

    -- they were joined
    pub known_joined : (us : List Tried) → us ≡ take 1 ts → is_many (Do ops) ≡ true → state_of d' ≡ with_entry v.settled (entry_by a f (Do ops)) → Known may_give d' us asked (ready_with v.settled (entry_by a f (Do ops)))
    known_joined us left many done =
        let roster : d'.roster ≡ d.roster = ap (λ (x : DeskState). x.roster) done ∙ sym (ap (λ (x : DeskState). x.roster) k.seen.whole) in
        let one : us ≡ t ∷ [] = left ∙ first_left ts t first in
        record {
          seen = record { whole = done; many = sym (ap length one) };
          numbers = kept k.numbers has_numbers;
          numbered = subst (AllByRecursion (λ (u : Tried). HasNumbers d'.roster u.versions.items)) (sym one)
              (subst (λ (ro : Membership). HasNumbers ro t.versions.items) (sym roster) (first_has (λ (u : Tried). HasNumbers d.roster u.versions.items) ts t first k.numbered), tt);
          right = λ clear. right (subst (λ ro. NoneMixed may_give ro asked) roster clear);
          back = λ clear.
              let b = first_back v.settled a f ops ts many (subst (λ es. TakeAllBack v.settled es ts) ready (k.back (subst (λ ro. NoneMixed may_give ro asked) roster clear))) in
              subst (λ ws. TakeAllBack v.settled (entry_by a f (Do ops) ∷ []) ws) (sym (left ∙ b.1)) (b.2, tt);
        }
