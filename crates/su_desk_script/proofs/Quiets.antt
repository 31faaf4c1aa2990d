-- A desk whose store has nothing to give, after calls that ask it.
use Rattle.std.specs.Prelude.{◌≡◌, ◌⊎◌, ℕ, List, [], Contains, Option, Some, None, Result, Ok, Err, IfOk, IfErr}
use Rattle.std.specs.FinMap.{get}
use Rattle.std.specs.Option.{ok_or, option_map}
use Rattle.std.proofs.Common.{◌∙◌, ◌++◌, append-nil, ap, inl, inr, refl, sym, subst}
use Rattle.su_block.specs.Memory.{Memory}
use Rattle.su_block.specs.declared.failures.Failures.{Failures}
use Rattle.su_bytes.specs.Place.{Place}
use Rattle.su_bytes.specs.declared.file_ids.FileId.{FileId}
use Rattle.su_bytes.specs.declared.refusals.Refusal.{Refusal}
use Rattle.su_bytes.specs.declared.refusals.Refusal.TheVariants.{NoMemory, NoFile, WrongKind}
use Rattle.su_desk.specs.Answer.{answer}
use Rattle.su_desk.specs.Desk.{Answers, DeskState}
use Rattle.su_desk.specs.Trial.{TrialState, tree_of, tree_with_ready}
use Rattle.su_desk.specs.declared.entries.Entry.{Entry}
use Rattle.su_node.specs.Inode.{Inode}
use Rattle.su_part_tree.specs.Loading.{IsLoadRefusal}
use Rattle.su_reading.specs.Reading.{Inquiry, head_of}
use Rattle.su_reading.specs.declared.heads.InodeHead.{InodeHead}
use Rattle.su_stored_desk.specs.Asked.{Answers as MayAnswer, Asks, FailsReady, FollowsReady, IsClear, ShowsReady, TrialOn}
use Rattle.su_stored_desk.proofs.Public.{gives_only, quiet_is_clear}
use Rattle.su_table.specs.Query.{body}
use Rattle.su_table.specs.Tree.{Tree}
use Rattle.su_desk_script.specs.Described.{IsDescribed}
use Rattle.su_desk_script.specs.Quiet.{IsQuiet}
use Rattle.su_desk_script.specs.Session.{description, description_at}

-- the items that a store in memory may give
abbrev pub held : Memory → List ℕ → Type 0
held m i = Contains m.items i

-- it stays so
pub stays_quiet : {comes : Memory → Memory → Type 0} (t u : TrialOn Memory) → Asks held comes t u → IsQuiet t → IsQuiet u
stays_quiet t u asks quiet = gives_only (λ i. ⊥) t u asks quiet

-- and nothing was mixed up
pub quiet_clear : (t : TrialOn Memory) → IsQuiet t → IsClear held t
quiet_clear t quiet = quiet_is_clear held t quiet

-- ---- questions

-- where nothing stands ready, the tree with what does is that of the desk
tree_settled : (t : TrialState) → t.ready ≡ [] → tree_with_ready t ≡ tree_of t.settled
tree_settled t none =
    ap (λ (es : List Entry). tree_of (record { roster = t.settled.roster; history = t.settled.history ++ es })) none
    ∙ ap (λ (es : List Entry). tree_of (record { roster = t.settled.roster; history = es })) (append-nil t.settled.history)

-- What is told of the tree T when the desk t, which became u, was asked about it.
pub record Tells {A : Type 0} (T : Tree) (t u : TrialOn Memory) (r : Result A Refusal) (IsAnswer : Tree → A → Type 0) (IsRefusal : Tree → Refusal → Type 0) : Type 0 where
  pub answer : IfOk r (IsAnswer T)
  pub refused : IfErr r (λ e. IsLoadRefusal e ⊎ IsRefusal T e)
  pub quiet : IsQuiet u
  pub state : u.state ≡ t.state

why : {A : Type 0} (failed_of : Memory → Failures) (IsRefusal : Tree → Refusal → Type 0) (T : Tree) (u : TrialOn Memory) (r : Result A Refusal)
    → IfErr r (λ e. FailsReady failed_of T u e ⊎ (e ≡ NoMemory) ⊎ IsRefusal T e) → IfErr r (λ e. IsLoadRefusal e ⊎ IsRefusal T e)
why failed_of IsRefusal T u (Ok a) refused = tt
why failed_of IsRefusal T u (Err e) (inl fails) = inl fails.0
why failed_of IsRefusal T u (Err e) (inr (inl none)) = inl (inr (inr (inr (inl none))))
why failed_of IsRefusal T u (Err e) (inr (inr meant)) = inr meant

-- it was noted that it is asked, and then it was
pub told : {A : Type 0} {comes comes' : Memory → Memory → Type 0} (failed_of : Memory → Failures) (IsAnswer : Tree → A → Type 0) (IsRefusal : Tree → Refusal → Type 0) (t s u : TrialOn Memory) (r : Result A Refusal)
    → IsQuiet t → t.state.ready ≡ [] → Asks held comes t s → s ≡ record t { asked = s.asked } → (IsClear held s → ShowsReady held s (tree_with_ready t.state))
    → Inquiry (ShowsReady held) (FailsReady failed_of) (FollowsReady held comes') s u r IsAnswer IsRefusal
    → Tells (tree_of t.state.settled) t u r IsAnswer IsRefusal
told failed_of IsAnswer IsRefusal t s u r quiet none noted same shows asked =
    let still = stays_quiet t s noted quiet in
    let shown = subst (ShowsReady held s) (tree_settled t.state none) (shows (quiet_clear s still)) in
    record {
      answer = asked.answer (tree_of t.state.settled) shown;
      refused = why failed_of IsRefusal (tree_of t.state.settled) u r (asked.refused (tree_of t.state.settled) shown);
      quiet = stays_quiet s u asked.comes.asks still;
      state = asked.comes.state ∙ ap (λ (x : TrialOn Memory). x.state) same;
    }

-- ---- refusals

-- a load that is refused is told as want of memory
pub without : (P : Refusal → Type 0) (e r : Refusal) → (IsLoadRefusal e → r ≡ NoMemory) → (r ≡ NoMemory) ⊎ (r ≡ e) → IsLoadRefusal e ⊎ P e → (r ≡ NoMemory) ⊎ P r
without P e r load becomes (inl is) = inl (load is)
without P e r load (inl none) (inr meant) = inl none
without P e r load (inr same) (inr meant) = inr (subst P (sym same) meant)

module _ {A : Type 0} (given told : Result A Refusal) where
  -- what is given is told
  pub ok_told : (P : A → Type 0) (a : A) → given ≡ Ok a → told ≡ Ok a → IfOk given P → IfOk told P
  ok_told P a was is so = subst (λ r. IfOk r P) (sym is) (subst (λ r. IfOk r P) was so)

  -- a refusal of which no load is told
  pub err_told : (P : Refusal → Type 0) (e r : Refusal) → given ≡ Err e → told ≡ Err r → (IsLoadRefusal e → r ≡ NoMemory) → (r ≡ NoMemory) ⊎ (r ≡ e)
      → IfErr given (λ e. IsLoadRefusal e ⊎ P e) → IfErr told (λ e. (e ≡ NoMemory) ⊎ P e)
  err_told P e r was is load becomes so =
      subst (λ x. IfErr x (λ e. (e ≡ NoMemory) ⊎ P e)) (sym is) (without P e r load becomes (subst (λ x. IfErr x (λ e. IsLoadRefusal e ⊎ P e)) was so))

pub none_refused : {A : Type 0} (r : Result A Refusal) (P : Refusal → Type 0) (a : A) → r ≡ Ok a → IfErr r P
none_refused r P a is = subst (λ x. IfErr x P) (sym is) tt

pub none_answered : {A : Type 0} (r : Result A Refusal) (P : A → Type 0) (e : Refusal) → r ≡ Err e → IfOk r P
none_answered r P e is = subst (λ x. IfOk x P) (sym is) tt

-- an answer of which no load is told
pub answered : (d : DeskState) (entry : Entry) (e r : Refusal) (d' : DeskState) → (IsLoadRefusal e → r ≡ NoMemory) → (r ≡ NoMemory) ⊎ (r ≡ e) → MayAnswer d entry (Err e) d' → Answers d entry (Err r) d'
answered d entry e r d' load becomes (told, same) = (without (λ x. answer d.roster d.history entry ≡ Err x) e r load becomes told, same)

-- ---- what is described

there : (f : FileId) (p : Place) (o : Option Inode) (h : InodeHead) → Some h ≡ option_map head_of o
    → (i : Inode) × (◌≡◌ {A = Result (Place × Inode) Refusal} (ok_or (option_map (λ i. (p, i)) o) (WrongKind f)) (Ok (p, i))) × (h ≡ head_of i)
there f p None h is = absurd cc
there f p (Some i) h is = (i, refl, cc is)

pub described_there : (T : Tree) (f : FileId) (p : Place) (h : InodeHead) → Some p ≡ body T f → Some h ≡ option_map head_of (get T.inodes p) → IsDescribed T f (p, h)
described_there T f p h stands is =
    let (i, found, head) = there f p (get T.inodes p) h is in
    (i, ap (description_at T f) (sym stands) ∙ found, head)

nothing : (f : FileId) (p : Place) (o : Option Inode) → None ≡ option_map head_of o → ◌≡◌ {A = Result (Place × Inode) Refusal} (ok_or (option_map (λ i. (p, i)) o) (WrongKind f)) (Err (WrongKind f))
nothing f p None is = refl
nothing f p (Some i) is = absurd cc

pub described_wrong : (T : Tree) (f : FileId) (p : Place) → Some p ≡ body T f → None ≡ option_map head_of (get T.inodes p) → description T f ≡ Err (WrongKind f)
described_wrong T f p stands is = ap (description_at T f) (sym stands) ∙ nothing f p (get T.inodes p) is

pub described_none : (T : Tree) (f : FileId) → None ≡ body T f → description T f ≡ Err (NoFile f)
described_none T f is = ap (description_at T f) (sym is)
