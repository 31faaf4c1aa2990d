-- The machine gives one answer.
use Rattle.std.proofs.Common.{◌≡◌, ◌⊎◌, ◌<◌, ℕ, List, [], ◌∷◌, length, Some, Result, Ok, Err, IsErrAnd, refl, sym, ap, ◌∙◌, subst, arith, inl, inr, append-nil}
use Rattle.std.specs.Prelude.{IfErr}
use Rattle.std.specs.Global.{Vec}
use Rattle.su_bytes.specs.Order.{demand, Passes, RefusedBy}
use Rattle.su_bytes.proofs.Public.{EachOnce, once, never_both, one_refusal, refused_first}
use Rattle.su_bytes.specs.declared.refusals.Refusal.{Refusal}
use Rattle.su_bytes.specs.declared.refusals.Refusal.TheVariants.{BookFull, Malformed, NoMemory}
use Rattle.su_format.specs.Format.{whole}
use Rattle.su_format.proofs.Public.{whole_lawful, spelling_told}
use Rattle.su_version.specs.Commit.{Commit, IsCommit, commit_bytes, commit_format}
use Rattle.su_version.specs.Chain.{next_order, tip}
use Rattle.su_version.proofs.Public.{commit_of, commit_lawful}
use Rattle.su_book.specs.Malformed.{IsMalformed}
use Rattle.su_book.specs.declared.events.Event.{Event}
use Rattle.su_book.specs.declared.events.Event.TheVariants as event
use Rattle.su_book.specs.declared.steps.Act.{Act}
use Rattle.su_book.specs.declared.steps.Act.TheVariants.{Granted, Stored, Given}
use Rattle.su_book.specs.Machine.{BookState, storing_order, MayBeGranted, MayBeStored, MayAct, AsksFor, IsUnfit, IsRefused, holder_of, records_of, count_of}

-- ---- what bytes spell

one_commit : (bytes : List ℕ) (c d : Commit) → IsCommit c → IsCommit d → bytes ≡ commit_bytes c → bytes ≡ commit_bytes d → c ≡ d
one_commit bytes c d ic id sc sd =
    (spelling_told commit_lawful commit_of c d [] [] ic id (append-nil (commit_bytes c) ∙ sym sc ∙ sd ∙ sym (append-nil (commit_bytes d)))).0

not_malformed : (bytes : List ℕ) (c : Commit) (e : Refusal) → IsCommit c → bytes ≡ commit_bytes c → IsMalformed bytes e → ⊥
unfolding whole
not_malformed bytes c e is spelled (place, _, refused) =
    (whole_lawful commit_format commit_lawful).apart bytes c [] refused.behind (commit_of.begins bytes c [] is (spelled ∙ sym (append-nil (commit_bytes c))), refl) refused.fails

one_place : (bytes : List ℕ) (x y : Refusal) → IsMalformed bytes x → IsMalformed bytes y → x ≡ y
one_place bytes x y (p, is_p, refused_p) (q, is_q, refused_q) =
    let behind = (whole_lawful commit_format commit_lawful).one_place bytes refused_p.behind refused_q.behind refused_p.fails refused_q.fails in
    let same : p ≡ q = omega (arith, refused_p.place_is, refused_q.place_is, ap length behind) in
    is_p ∙ ap Malformed same ∙ sym is_q

-- ---- a commit that isn't stored

storing_once : (b : BookState) (c : Commit) → EachOnce (storing_order b c)
storing_once b c = (once, (once, (once, (once, (once, (once, (once, (once, tt))))))))

one_unfit : (b : BookState) (bytes : List ℕ) (x y : Refusal) → IsUnfit b bytes x → IsUnfit b bytes y → x ≡ y
one_unfit b bytes x y (inl p) (inl q) = one_place bytes x y p q
one_unfit b bytes x y (inl p) (inr (d, id, sd, _)) = absurd (not_malformed bytes d x id sd p)
one_unfit b bytes x y (inr (c, ic, sc, _)) (inl q) = absurd (not_malformed bytes c y ic sc q)
one_unfit b bytes x y (inr (c, ic, sc, p)) (inr (d, id, sd, q)) =
    one_refusal (storing_order b c) (storing_once b c) x y p
    (subst (λ (o : Commit). RefusedBy (storing_order b o) y) (one_commit bytes d c id ic sd sc) q)

may_not_be_unfit : (b : BookState) (bytes : List ℕ) (seat n : ℕ) (c : Commit) (e : Refusal) → bytes ≡ commit_bytes c → MayBeStored b seat n c → IsUnfit b bytes e → ⊥
may_not_be_unfit b bytes seat n c e sc may (inl p) = not_malformed bytes c e may.spelled sc p
may_not_be_unfit b bytes seat n c e sc may (inr (d, id, sd, p)) =
    never_both (storing_order b d) e (subst (λ (o : Commit). Passes (storing_order b o)) (one_commit bytes c d may.spelled id sc sd) may.fits) p

not_unfit : (b : BookState) (bytes : _) (seat n : ℕ) (c : Commit) (e : Refusal) → IsRefused b seat (event.Commit bytes) e → bytes.items ≡ commit_bytes c → MayBeStored b seat n c → ⊥
not_unfit b bytes seat n c e (inl p) sc may = p.1 may.turn
not_unfit b bytes seat n c e (inr p) sc may = may_not_be_unfit b bytes.items seat n c e sc may p.1

-- what refuses the next commit refuses one that is to be stored
pub next_unfit : {X : Type 0} (b : BookState) (bytes : List ℕ) (c : Commit) (r : Result X Refusal) (x : Refusal) → IsErrAnd r (λ e. e ≡ x) → IsCommit c → bytes ≡ commit_bytes c
    → (x ≡ NoMemory) ⊎ RefusedBy (next_order b.roster (tip b.roster (records_of b.journal) c.version.author) c) x → IfErr r (λ e. (e ≡ NoMemory) ⊎ IsUnfit b bytes e)
next_unfit b bytes c (Ok v) x is spelled same why = tt
next_unfit b bytes c (Err e) x is spelled same (inl none) = inl (is ∙ none)
next_unfit b bytes c (Err e) x is spelled same (inr why) =
    inr (inr (
      c,
      spelled,
      same,
      subst (RefusedBy (storing_order b c)) (sym is)
          (refused_first (next_order b.roster (tip b.roster (records_of b.journal) c.version.author) c) (demand (count_of b.journal < b.capacity) BookFull ∷ []) x why),
    ))

-- the seat that has the turn is refused for what is wrong with the commit
pub commit_refused : {X : Type 0} (b : BookState) (seat : ℕ) (bytes : Vec ℕ) (r : Result X Refusal) (x : Refusal) → IsErrAnd r (λ e. e ≡ x) → holder_of b.journal ≡ Some seat
    → (x ≡ NoMemory) ⊎ IsUnfit b bytes.items x → IfErr r (λ e. IsRefused b seat (event.Commit bytes) e ⊎ (e ≡ NoMemory))
commit_refused b seat bytes (Ok v) x is turn why = tt
commit_refused b seat bytes (Err e) x is turn (inl none) = inr (is ∙ none)
commit_refused b seat bytes (Err e) x is turn (inr unfit) = inl (inr (turn, subst (IsUnfit b bytes.items) (sym is) unfit))

-- ---- what is asked for

pub grant_asks : (x : Act) → AsksFor event.Grant x → (n : ℕ) × (x ≡ Granted n)
grant_asks (Granted n) asks = (n, refl)
grant_asks (Stored n c) asks = absurd asks
grant_asks Given asks = absurd asks

pub commit_asks : (bytes : _) (x : Act) → AsksFor (event.Commit bytes) x → (n : ℕ) × (c : Commit) × (x ≡ Stored n c) × (bytes.items ≡ commit_bytes c)
commit_asks bytes (Granted n) asks = absurd asks
commit_asks bytes (Stored n c) asks = (n, c, refl, asks)
commit_asks bytes Given asks = absurd asks

pub give_asks : (x : Act) → AsksFor event.Give x → x ≡ Given
give_asks (Granted n) asks = absurd asks
give_asks (Stored n c) asks = absurd asks
give_asks Given asks = refl

pub one_act : (b : BookState) (seat : ℕ) (e : Event) (x y : Act) → AsksFor e x → AsksFor e y → MayAct b seat x → MayAct b seat y → x ≡ y
one_act b seat event.Grant x y ask_x ask_y may_x may_y =
    let (n, is_n) = grant_asks x ask_x in
    let (m, is_m) = grant_asks y ask_y in
    let p : MayBeGranted b seat n = subst (MayAct b seat) is_n may_x in
    let q : MayBeGranted b seat m = subst (MayAct b seat) is_m may_y in
    is_n ∙ ap Granted (p.count ∙ sym q.count) ∙ sym is_m
one_act b seat (event.Commit bytes) x y ask_x ask_y may_x may_y =
    let (n, c, is_n, sc) = commit_asks bytes x ask_x in
    let (m, d, is_m, sd) = commit_asks bytes y ask_y in
    let p : MayBeStored b seat n c = subst (MayAct b seat) is_n may_x in
    let q : MayBeStored b seat m d = subst (MayAct b seat) is_m may_y in
    let same = one_commit bytes.items c d p.spelled q.spelled sc sd in
    is_n ∙ (λ i. Stored ((p.number ∙ sym q.number) i) (same i)) ∙ sym is_m
one_act b seat event.Give x y ask_x ask_y may_x may_y = give_asks x ask_x ∙ sym (give_asks y ask_y)

pub one_refused : (b : BookState) (seat : ℕ) (e : Event) (x y : Refusal) → IsRefused b seat e x → IsRefused b seat e y → x ≡ y
one_refused b seat event.Grant x y (o, is_x, holder, _) (p, is_y, holder', _) = cc
one_refused b seat (event.Commit bytes) x y (inl p) (inl q) = p.0 ∙ sym q.0
one_refused b seat (event.Commit bytes) x y (inl p) (inr q) = absurd (p.1 q.0)
one_refused b seat (event.Commit bytes) x y (inr p) (inl q) = absurd (q.1 p.0)
one_refused b seat (event.Commit bytes) x y (inr p) (inr q) = one_unfit b bytes.items x y p.1 q.1
one_refused b seat event.Give x y p q = p.0 ∙ sym q.0

pub not_both : (b : BookState) (seat : ℕ) (e : Event) (x : Act) (y : Refusal) → AsksFor e x → MayAct b seat x → IsRefused b seat e y → ⊥
not_both b seat event.Grant x y asks may (o, _, holder, other) =
    let (n, is) = grant_asks x asks in
    let p : MayBeGranted b seat n = subst (MayAct b seat) is may in
    other (p.free o holder)
not_both b seat (event.Commit bytes) x y asks may refused =
    let (n, c, is, sc) = commit_asks bytes x asks in
    let p : MayBeStored b seat n c = subst (MayAct b seat) is may in
    not_unfit b bytes seat n c y refused sc p
not_both b seat event.Give x y asks may refused =
    let p : MayAct b seat Given = subst (MayAct b seat) (give_asks x asks) may in
    refused.1 p
