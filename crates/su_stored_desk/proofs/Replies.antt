-- The answers of a desk from what it keeps.
use Rattle.std.proofs.Common.{◌⊎◌, ⊎_elim, inl, inr, Result, IsErrAnd, Option, ◌≡◌, ◌∙◌, sym, refl, ap, ℕ, ◌+◌, ◌-◌, List, [], ◌∷◌, ◌++◌, length, Some, None, Ok, Err, slice_get, get_or, take, subst, arith}
use Rattle.std.specs.Option.{unwrap_or}
use Rattle.std.proofs.lemmas.Option.{slice_get-get_or}
use Rattle.su_bytes.specs.Membership.{Membership}
use Rattle.su_bytes.specs.declared.formats.Format.{Format}
use Rattle.su_bytes.specs.declared.refusals.Refusal.{Refusal}
use Rattle.su_table.specs.Tree.{Tree, genesis}
use Rattle.su_op.specs.Batch.{Action}
use Rattle.su_op.specs.declared.operations.Change.TheVariants.{Do, Undo, Rekey}
use Rattle.su_op.specs.Batch.{why}
use Rattle.su_desk.specs.declared.entries.Entry.{Entry}
use Rattle.su_desk.specs.History.{entry_doing, undo_by, rekey_by, tree, last_live}
use Rattle.su_desk.specs.Desk.{DeskState}
use Rattle.su_part_tree.specs.Loading.{IsLoadRefusal}
use Rattle.su_stored_desk.specs.Asked.{Answers}
use Rattle.su_desk.specs.Applied.{written_by}
use Rattle.su_live.specs.Live.{find_live, without}
use Rattle.su_live.proofs.Public.{AllBelow, found_number, without-there}
use Rattle.su_stored_desk.specs.Keeping.{Keeps, KeptOperation}
use Rattle.su_stored_desk.proofs.KeptOperations.{KeepsUndone, keeps_undo, written_there, last_kept, none_kept}
use Rattle.su_stored_desk.proofs.ByNumber.{all_below, among, kept_ascend}
use Rattle.su_desk.proofs.FormatLemmas.{by_change, ends_with}
use Rattle.su_desk.specs.Answer.{format_refusal, rekey_refusal, undo_refusal, refusal_of, reply, answer}

pub answer_done : (ro : Membership) (h : List Entry) (e : Entry) → refusal_of ro h e ≡ None → answer ro h e ≡ Ok (length h + 1)
unfolding answer
answer_done ro h e accepted = ap (reply (length h + 1)) accepted

pub answer_refused : (ro : Membership) (h : List Entry) (e : Entry) (r : Refusal) → refusal_of ro h e ≡ Some r → answer ro h e ≡ Err r
unfolding answer
answer_refused ro h e r refused = ap (reply (length h + 1)) refused

-- what is answered with a number isn't refused
pub answer_accepted : (ro : Membership) (h : List Entry) (e : Entry) (n : ℕ) → answer ro h e ≡ Ok n → refusal_of ro h e ≡ None
unfolding answer
answer_accepted ro h e n is = go (refusal_of ro h e) is
  where
    go : (o : Option Refusal) → reply (length h + 1) o ≡ Ok n → o ≡ None
    go None e = refl
    go (Some r) e = absurd (let bad : Err r ≡ Ok n = e in cc)

-- a refusal that is passed on
pub passed_on : (d d' : DeskState) (e : Entry) (r : Result ℕ Refusal) (x : Refusal) → IsErrAnd r (λ e. e ≡ x) → IsLoadRefusal x ⊎ (answer d.roster d.history e ≡ Err x) → d' ≡ d → Answers d e r d'
passed_on d d' e (Ok n) x is why same = absurd is
passed_on d d' e (Err r) x is why same = (⊎_elim (λ m. inl (subst IsLoadRefusal (sym is) m)) (λ f. inr (f ∙ ap Err (sym is))) why, same)

-- an operation in a format that fits is answered from the tree
pub refusal_of-do : (ro : Membership) (h : List Entry) (T : Tree) (x : Action) → format_refusal h x.format (Do x.operations) ≡ None → tree ro h ≡ Some T → refusal_of ro h (entry_doing x) ≡ why ro T x
refusal_of-do ro h T x fits e = by_change ro h (entry_doing x) fits ∙ ap (λ o. why ro (unwrap_or o genesis) x) e

-- an undo in a format that fits is refused as undos are
pub refusal_of-undo : (ro : Membership) (h : List Entry) (a : ℕ) (f : Format) (n : ℕ) → format_refusal h f (Undo n) ≡ None → refusal_of ro h (undo_by a f n) ≡ undo_refusal ro h a n
refusal_of-undo ro h a f n fits = by_change ro h (undo_by a f n) fits

-- and a rekey as rekeys are
pub refusal_of-rekey : (ro : Membership) (h : List Entry) (a : ℕ) (f : Format) (k : List ℕ) → format_refusal h f (Rekey k) ≡ None → refusal_of ro h (rekey_by a f k) ≡ rekey_refusal ro h a k
refusal_of-rekey ro h a f k fits = by_change ro h (rekey_by a f k) fits

pub is_empty : {A : Type 0} (xs : List A) → slice_get xs (length xs - 1) ≡ None → xs ≡ []
is_empty [] e = refl
is_empty (y ∷ ys) e = let there = slice_get-get_or (y ∷ ys) (length (y ∷ ys) - 1) y (omega arith) in absurd (let bad : None ≡ Some (get_or (y ∷ ys) (length (y ∷ ys) - 1) y) = sym e ∙ there in cc)

-- ---- what is kept last

pub last_number : (ro : Membership) (h : List Entry) (ks : List KeptOperation) (k : KeptOperation) (T : Tree) → Keeps ro h ks T → slice_get ks (length ks - 1) ≡ Some k → k.number ≡ last_live h
last_number ro h ks k T keeps e = sym (last_kept ro h (take (length ks - 1) ks) k T (subst (λ xs. Keeps ro h xs T) (ends_with ks k e) keeps))

pub no_number : (ro : Membership) (h : List Entry) (ks : List KeptOperation) (T : Tree) → Keeps ro h ks T → slice_get ks (length ks - 1) ≡ None → 0 ≡ last_live h
no_number ro h ks T keeps e = sym (none_kept ro h T (subst (λ xs. Keeps ro h xs T) (is_empty ks e) keeps))

-- ---- an undo

-- where an accepted undo finds its operation
pub record Found (ro : Membership) (h : List Entry) (ks : List KeptOperation) (k : KeptOperation) (n : ℕ) (T : Tree) : Type 0 where
  pub front : List KeptOperation
  pub rest : List KeptOperation
  pub whole : Keeps ro h (front ++ k ∷ rest) T
  pub number : k.number ≡ n
  pub left : without n ks ≡ front ++ rest

pub found : (ro : Membership) (h : List Entry) (ks : List KeptOperation) (k : KeptOperation) (n : ℕ) (T : Tree) → Keeps ro h ks T → find_live n ks ≡ Some k → Found ro h ks k n T
found ro h ks k n T keeps there =
    let a = among n ks k there in
    let whole = subst (λ xs. Keeps ro h xs T) a.whole keeps in
    let number = found_number n k ks there in
    let below = all_below a.front a.rest k (kept_ascend ro h (a.front ++ k ∷ a.rest) T whole) in
    record {
      front = a.front;
      rest = a.rest;
      whole = whole;
      number = number;
      left = ap (without n) a.whole ∙ without-there n a.front k a.rest (subst (λ m. AllBelow m a.front) number below) number;
    }

pub undone_there : (ro : Membership) (h : List Entry) (ks : List KeptOperation) (k : KeptOperation) (T : Tree) (a : ℕ) (f : Format) (n : ℕ) → Found ro h ks k n T → format_refusal h f (Undo n) ≡ None → undo_refusal ro h a n ≡ None
    → KeepsUndone ro h (undo_by a f n) (without n ks) k T
undone_there ro h ks k T a f n there has accepted =
    subst (λ xs. KeepsUndone ro h (undo_by a f n) xs k T) (sym there.left) (keeps_undo ro h there.front there.rest T a f n k there.whole there.number has accepted)

pub undone_written : (ro : Membership) (h : List Entry) (ks : List KeptOperation) (k : KeptOperation) (n : ℕ) (T : Tree) → Found ro h ks k n T → k.footprint.writes.items ≡ written_by ro h n
undone_written ro h ks k n T there = written_there ro h there.front there.rest T n k there.whole there.number
