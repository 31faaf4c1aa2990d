-- A link over which more is asked, and a turn.
use Rattle.std.proofs.Common.{◌≡◌, ◌+◌, ◌<◌, ◌≤◌, ℕ, nat_le, suc, length, Option, None, Some, Result, Ok, Err, OnOk, take, get_or, arith, List, [], ◌∷◌, ◌++◌, inl, inr, sym, ◌∙◌, ap, subst, refl, true, false, IfErr}
use Rattle.std.proofs.Math.Seq.{take-suc}
use Rattle.su_bytes.specs.declared.refusals.Refusal.{Refusal}
use Rattle.su_bytes.specs.declared.refusals.Refusal.TheVariants.{LinkFailed}
use Rattle.su_frames.specs.Stream.{frame}
use Rattle.su_message.specs.declared.requests.Request.{Request}
use Rattle.su_message.specs.declared.replies.Reply.{Reply}
use Rattle.su_message.specs.declared.requests.Request.TheVariants.{Grant, Give, Fetch}
use Rattle.su_message.specs.declared.replies.Reply.TheVariants.{Given, Granted}
use Rattle.su_message.specs.Request.{request_bytes}
use Rattle.su_version.specs.Commit.{Commit}
use Rattle.sha2.specs.Sha256.{sha256}
use Rattle.std.specs.Prelude.{slice_get, option_to_list}
use Rattle.std.proofs.lemmas.List.{get_or_default}
use Rattle.std.proofs.lemmas.Option.{get_or_from_slice_get, slice_get-get_or}
use Rattle.su_op.specs.declared.operations.Change.{Change}
use Rattle.su_change.specs.Item.{item_bytes}
use Rattle.su_version.specs.Commit.{commit_bytes}
use Rattle.su_message.specs.declared.requests.Request.TheVariants as request
use Rattle.su_message.specs.declared.replies.Reply.TheVariants.{PutDone, Stored}
use Rattle.su_client.specs.Link.{LinkState, IsFresh, Exchanged, Follows, GoesAhead, IsRefusal, kept_or_nothing}
use Rattle.std.specs.Global.{Vec}
use Rattle.std.specs.Prelude.{IfOk, IfNone}
use Rattle.su_client.specs.Outbox.{contents, IsHandedIn, PutsAll, WaitsToo}
use Rattle.su_client.proofs.Public.{exchanged_ahead}
use Rattle.su_client_work.specs.Publishing.{IsStored}
use Rattle.su_client.specs.Following.{follows_itself, follows_on}
use Rattle.su_view.specs.Holding.{HoldingState}
use Rattle.su_client_work.specs.declared.ready.TheConstants.{MOST_READY}
use Rattle.su_client_work.specs.Member.{MemberState, OnlyAsks, Stays}
use Rattle.su_bytes.specs.Order.{Passes}
use Rattle.su_view.specs.LastCommits.{shown_order}
use Rattle.su_client_work.specs.Turn.{Comes, HasLooked, HasMore, Looks, IsCaughtUp, PassesShown, SaysNothing, IsShown, AreShown, TakesTurn, GivesUp, GivesTurnUp, IsGranted, IsGrantedOver, IsUngranted, IsUngrantedOver, commit_or_nothing}

-- ---- what stays

pub stays_then : (s t u : MemberState) → Stays s t → Stays t u → Stays s u
stays_then s t u p q = record { holding = q.holding ∙ p.holding; asked = q.asked ∙ p.asked; signed = q.signed ∙ p.signed; next = q.next ∙ p.next }

pub stays_itself : (s : MemberState) → Stays s s
stays_itself s = record { holding = refl; asked = refl; signed = refl; next = refl }

-- ---- what is caught up

-- more was asked behind it
nothing_on : (a b c : LinkState) → SaysNothing a b → Follows b c → SaysNothing a c
nothing_on a b c p q = record {
  number = p.number;
  before = p.before;
  follows = p.follows;
  behind = p.behind;
  asked = p.asked;
  then_follows = follows_on p.behind b c p.then_follows q;
}

-- more was asked before it
nothing_after : (a b c : LinkState) → Follows a b → SaysNothing b c → SaysNothing a c
nothing_after a b c p q = record {
  number = q.number;
  before = q.before;
  follows = follows_on a b q.before p q.follows;
  behind = q.behind;
  asked = q.asked;
  then_follows = q.then_follows;
}

pub caught_on : (count : ℕ) (v : HoldingState) (a b c : LinkState) → IsCaughtUp count v a b → Follows b c → IsCaughtUp count v a c
caught_on count v a b c (inl all) q = inl all
caught_on count v a b c (inr nothing) q = inr (nothing_on a b c nothing q)

pub caught_after : {R E : Type 0} (r : Result R E) (count : ℕ) (v : HoldingState) (a b c : LinkState) → Follows a b → OnOk r (IsCaughtUp count v b c) → OnOk r (IsCaughtUp count v a c)
caught_after (Ok x) count v a b c p (inl all) = inl all
caught_after (Ok x) count v a b c p (inr nothing) = inr (nothing_after a b c p nothing)
caught_after (Err e) count v a b c p q = tt

pub more_after : {R E : Type 0} (r : Result R E) (u v w : HoldingState) (a b c : LinkState) → v ≡ u → Follows a b → OnOk r (HasMore v b w c) → OnOk r (HasMore u a w c)
more_after r u v w a b c same p more =
    caught_after r (length u.held + 1) w a b c p (subst (λ (x : HoldingState). OnOk r (HasMore x b w c)) same more)

-- so many were held, and then one more
pub caught_one : (n : ℕ) (v w : HoldingState) (a b c : LinkState) → Follows a b → Follows b c → IsCaughtUp n v a b → HasMore v b w c → IsCaughtUp (n + 1) w a c
caught_one n v w a b c p q (inl all) (inl more) = inl (omega (arith, all, more))
caught_one n v w a b c p q (inl all) (inr nothing) = inr (nothing_after a b c p nothing)
caught_one n v w a b c p q (inr nothing) more = inr (nothing_on a b c nothing q)

-- where many of those that were asked for are lacking, the server said of one that it has nothing
pub lacks_many : (count before : ℕ) (v : HoldingState) (a b : LinkState) → nat_le (length v.held + MOST_READY) before ≡ true → IsCaughtUp before v a b → IsCaughtUp count v a b
lacks_many count before v a b lacks (inr nothing) = inr nothing
lacks_many count before v a b lacks (inl all) =
    let many : MOST_READY ≡ 256 = refl in
    let most : length v.held + MOST_READY ≤ before = grind arith in
    absurd (omega (arith, all, most, many))

-- ---- a link

module _ (MayConnect : LinkState → Type 0) where
  pub comes_on : (a b c : LinkState) → Comes MayConnect a b → Follows b c → Comes MayConnect a c
  comes_on a b c (inl p) q = inl (follows_on a b c p q)
  comes_on a b c (inr p) q = inr (record {
    broken = p.broken;
    follows = p.follows;
    failed = p.failed;
    start = p.start;
    fresh = p.fresh;
    may = p.may;
    then_follows = follows_on p.start b c p.then_follows q;
  })

  pub turn_on : (a : LinkState) (v : HoldingState) (b c : LinkState) → TakesTurn MayConnect a v b → Follows b c → TakesTurn MayConnect a v c
  turn_on a v b c p q = record {
    count = p.count;
    last = p.last;
    turn = p.turn;
    granted = p.granted;
    passes = record {
      shown = p.passes.shown;
      checked = p.passes.checked;
      are_shown = p.passes.are_shown;
      passes = p.passes.passes;
      follows = follows_on p.passes.checked b c p.passes.follows q;
    };
    caught_up = caught_on p.count v p.turn b c p.caught_up q;
  }

  -- the same where it was asked of the tree then
  pub turn_asks : (a : LinkState) (s t : MemberState) → TakesTurn MayConnect a s.holding s.link → OnlyAsks s t → Follows s.link t.link → TakesTurn MayConnect a t.holding t.link
  turn_asks a s t p asks q = subst (λ (v : HoldingState). TakesTurn MayConnect a v t.link) (sym asks.holding) (turn_on a s.holding s.link t.link p q)

  pub looked_asks : {R E : Type 0} (r : Result R E) (a : LinkState) (s t : MemberState) → Looks MayConnect a s.holding s.link → t.holding ≡ s.holding → Follows s.link t.link
      → OnOk r (HasLooked MayConnect a t.holding t.link)
  looked_asks (Ok x) a s t looks same q = (s.link, subst (λ (v : HoldingState). Looks MayConnect a v s.link) (sym same) looks, q)
  looked_asks (Err e) a s t looks same q = tt

-- ---- what is shown

pub shown_then : (us : List (ℕ × ℕ)) (u : ℕ × ℕ) (before : List Commit) (a : LinkState) (shown : List Commit) (m : LinkState) (more : List Commit) (b : LinkState)
    → AreShown us before a shown m → IsShown u.1 shown m more b → AreShown (us ++ u ∷ []) before a more b
shown_then [] u before a shown m more b (same, link) is =
    (more, b, subst (λ (l : LinkState). IsShown u.1 before l more b) link (subst (λ (cs : List Commit). IsShown u.1 cs m more b) same is), (refl, refl))
shown_then (x ∷ us) u before a shown m more b (one, between, first, rest) is = (one, between, first, shown_then us u one between shown m more b rest is)

pub is_shown : (all : List (ℕ × ℕ)) (i : ℕ) (v u : ℕ × ℕ) (before more : List Commit) (a m b : LinkState) (answer : Option Commit) → slice_get all i ≡ Some u → Follows a m
    → Exchanged (Fetch (get_or all i v).1) m b (commit_or_nothing answer) → more ≡ before ++ option_to_list answer → IsShown u.1 before a more b
is_shown all i v u before more a m b answer there follows exchanged joins =
    subst (λ (w : ℕ × ℕ). IsShown w.1 before a more b) (get_or_from_slice_get all i u v there)
    (record { asked = m; follows = follows; answer = answer; exchanged = exchanged; joins = joins })

-- the same of the user that comes next among all
pub shown_next : (all : List (ℕ × ℕ)) (i : ℕ) (before : List Commit) (a : LinkState) (shown : List Commit) (m : LinkState) (more : List Commit) (b : LinkState)
    → i < length all → AreShown (take i all) before a shown m → ((u : ℕ × ℕ) → slice_get all i ≡ Some u → IsShown u.1 shown m more b) → AreShown (take (i + 1) all) before a more b
shown_next all i before a shown m more b inside are is =
    let u : ℕ × ℕ = get_or all i (0, 0) in
    let one : suc i ≡ i + 1 = omega arith in
    let there : get_or all i u ≡ u = get_or_default all i u (0, 0) inside in
    let longer : take (i + 1) all ≡ take i all ++ u ∷ [] =
    subst (λ (n : ℕ). take n all ≡ take i all ++ u ∷ []) one (take-suc all i u inside ∙ ap (λ (x : ℕ × ℕ). take i all ++ x ∷ []) there) in
    subst (λ (us : List (ℕ × ℕ)). AreShown us before a more b) (sym longer) (shown_then (take i all) u before a shown m more b are (is u (slice_get-get_or all i (0, 0) inside)))

-- ---- what is asked after more

pub granted_on : (a b c : LinkState) (count : ℕ) (last : List (ℕ × ℕ)) → Follows a b → IsGrantedOver b c count last → IsGrantedOver a c count last
granted_on a b c count last p g = record { before = g.before; follows = follows_on a b g.before p g.follows; granted = g.granted }

pub ungranted_on : (a b c : LinkState) (e : Refusal) → Follows a b → IsUngrantedOver b c e → IsUngrantedOver a c e
ungranted_on a b c e p u = record { before = u.before; follows = follows_on a b u.before p u.follows; refused = u.refused }

pub granted_later : (r : Result (ℕ × List (ℕ × ℕ)) Refusal) (a b c : LinkState) → Follows a b → IfOk r (λ g. IsGrantedOver b c g.0 g.1) → IfOk r (λ g. IsGrantedOver a c g.0 g.1)
granted_later (Ok g) a b c p granted = granted_on a b c g.0 g.1 p granted
granted_later (Err e) a b c p granted = tt

pub ungranted_later : {A : Type 0} (r : Result A Refusal) (a b c : LinkState) → Follows a b → IfErr r (IsUngrantedOver b c) → IfErr r (IsUngrantedOver a c)
ungranted_later (Ok x) a b c p refused = tt
ungranted_later (Err e) a b c p refused = ungranted_on a b c e p refused

pub granted_after : (r : Result (ℕ × List (ℕ × ℕ)) Refusal) (a b c : LinkState) → Follows a b → IfOk r (λ g. Exchanged Grant b c (Granted g.0 g.1)) → IfOk r (λ g. IsGrantedOver a c g.0 g.1)
granted_after (Ok g) a b c p granted = record { before = b; follows = p; granted = granted }
granted_after (Err e) a b c p granted = tt

pub ungranted_after : {A : Type 0} (r : Result A Refusal) (a b c : LinkState) → Follows a b → IfErr r (IsRefusal Grant b c) → IfErr r (IsUngrantedOver a c)
ungranted_after (Ok x) a b c p refused = tt
ungranted_after (Err e) a b c p refused = record { before = b; follows = p; refused = refused }

-- the server said of a number that it has nothing
pub nothing_said : (r : Result (Option (List ℕ)) Refusal) (number : ℕ) (a b c : LinkState) → Follows a b → IfOk r (λ bytes. Exchanged (Fetch number) b c (kept_or_nothing bytes))
    → IfOk r (λ bytes. IfNone bytes (SaysNothing a c))
nothing_said (Ok (Some bytes)) number a b c p e = tt
nothing_said (Ok None) number a b c p e = record { number = number; before = b; follows = p; behind = c; asked = e; then_follows = follows_itself c }
nothing_said (Err e) number a b c p exchanged = tt

exchanged : (q : Request) (a b : LinkState) (r : Reply) → Exchanged q a b r → Follows a b
exchanged q a b r e = record {
  output = frame (request_bytes q);
  written = e.written;
  input = e.input;
  read = e.read;
  no_more = λ failed. absurd (let bad : false ≡ true = sym e.works ∙ failed in cc);
}

-- ---- what is handed in

pub handed_ahead : (items : List (List ℕ)) (commit : List ℕ) (a m b : LinkState) (n : ℕ) → GoesAhead a m → IsHandedIn items commit m b n → IsHandedIn items commit a b n
handed_ahead [] commit a m b n ahead h = record {
  between = a;
  put = refl;
  stored = exchanged_ahead (request.Commit commit) a m b _ ahead (subst (λ (l : LinkState). Exchanged (request.Commit commit) l b (Stored n)) h.put h.stored);
}
handed_ahead (x ∷ items) commit a m b n ahead h =
    let (k, first, rest) = h.put in
    record { between = h.between; put = (k, exchanged_ahead (request.Put x) a m k _ ahead first, rest); stored = h.stored }

pub handed_after : (r : Result ℕ Refusal) (vs vs' : List (Vec ℕ)) (commit : List ℕ) (a m b : LinkState) → vs' ≡ vs → GoesAhead a m → IfOk r (IsHandedIn (contents vs') commit m b)
    → IfOk r (IsHandedIn (contents vs) commit a b)
handed_after (Ok n) vs vs' commit a m b same ahead h =
    handed_ahead (contents vs) commit a m b n ahead (subst (λ (l : List (Vec ℕ)). IsHandedIn (contents l) commit m b n) same h)
handed_after (Err e) vs vs' commit a m b same ahead h = tt

-- of items that are put one after the other more was asked before the last
puts_last : (items : List (List ℕ)) (item : List ℕ) (a b : LinkState) → PutsAll (items ++ item ∷ []) a b
    → (m : LinkState) × Follows a m × Exchanged (request.Put item) m b (PutDone (sha256 item))
puts_last [] item a b (m, put, last) = (a, follows_itself a, subst (λ (l : LinkState). Exchanged (request.Put item) a l (PutDone (sha256 item))) (sym last) put)
puts_last (x ∷ items) item a b (m, put, rest) =
    let (k, follows, last) = puts_last items item m b rest in
    (k, follows_on a m k (exchanged (request.Put x) a m (PutDone (sha256 x)) put) follows, last)

puts_follow : (items : List (List ℕ)) (a b : LinkState) → PutsAll items a b → Follows a b
puts_follow [] a b same = subst (Follows a) (sym same) (follows_itself a)
puts_follow (x ∷ items) a b (m, put, rest) = follows_on a m b (exchanged (request.Put x) a m (PutDone (sha256 x)) put) (puts_follow items m b rest)

-- what waits behind others is put
waits_last : (item : List ℕ) (waiting waiting' : List (List ℕ)) (a b d : LinkState) → WaitsToo waiting item a waiting' b → PutsAll waiting' b d
    → (m : LinkState) × Follows a m × Exchanged (request.Put item) m d (PutDone (sha256 item))
waits_last item waiting waiting' a b d (inl (waits, same)) put =
    puts_last waiting item a d (subst (λ (l : LinkState). PutsAll (waiting ++ item ∷ []) l d) same (subst (λ (l : List (List ℕ)). PutsAll l b d) waits put))
waits_last item waiting waiting' a b d (inr (alone, puts)) put =
    let (m, follows, last) = puts_last [] item b d (subst (λ (l : List (List ℕ)). PutsAll l b d) alone put) in
    (m, follows_on a b m (puts_follow waiting a b puts) follows, last)

pub is_stored : (change : Change) (c : Commit) (bytes : List ℕ) (waiting waiting' : List (List ℕ)) (a m b d : LinkState) (n : ℕ) → Follows a m
    → WaitsToo waiting (item_bytes change) m waiting' b → bytes ≡ commit_bytes c → IsHandedIn waiting' bytes b d n → IsStored change c a d
is_stored change c bytes waiting waiting' a m b d n follows w spelled h =
    let (k, more, put) = waits_last (item_bytes change) waiting waiting' m b h.between w h.put in
    record {
      asked = k;
      follows = follows_on a m k follows more;
      between = h.between;
      put = put;
      number = n;
      stored = subst (λ (s : List ℕ). Exchanged (request.Commit s) h.between d (Stored n)) spelled h.stored;
    }

-- ---- what passes

-- what was shown passes by what is held in the end
pub passes_shown : {R E : Type 0} (r : Result R E) (v : HoldingState) (last : List (ℕ × ℕ)) (shown : List Commit) (a m b : LinkState) → AreShown last [] a shown m → Follows m b
    → OnOk r (Passes (shown_order v shown)) → OnOk r (PassesShown v last a b)
passes_shown (Ok x) v last shown a m b are follows passes = record { shown = shown; checked = m; are_shown = are; passes = passes; follows = follows }
passes_shown (Err e) v last shown a m b are follows passes = tt

pub caught_so : {R E : Type 0} (r : Result R E) (count : ℕ) (v : HoldingState) (a b c : LinkState) → Follows a b → IsCaughtUp count v b c → OnOk r (IsCaughtUp count v a c)
caught_so (Ok x) count v a b c p (inl all) = inl all
caught_so (Ok x) count v a b c p (inr nothing) = inr (nothing_after a b c p nothing)
caught_so (Err e) count v a b c p q = tt

-- ---- a turn that is given up

shown_follows : (us : List (ℕ × ℕ)) (before : List Commit) (a : LinkState) (shown : List Commit) (b : LinkState) → AreShown us before a shown b → Follows a b
shown_follows [] before a shown b (same, link) = subst (Follows a) (sym link) (follows_itself a)
shown_follows (u ∷ us) before a shown b (more, between, is, rest) =
    follows_on a between b (follows_on a is.asked between is.follows (exchanged (Fetch u.1) is.asked between (commit_or_nothing is.answer) is.exchanged)) (shown_follows us more between shown b rest)

-- the turn was given back, or that was refused
pub gives_up : (r : Result (Unit {0}) Refusal) (a b : LinkState) → OnOk r (Exchanged Give a b Given) → IfErr r (IsRefusal Give a b) → GivesUp a b
gives_up (Ok x) a b given refused = record { before = a; follows = follows_itself a; gives = inl given }
gives_up (Err e) a b given refused = record { before = a; follows = follows_itself a; gives = inr (e, refused) }

pub gives_up_after : (a b c : LinkState) → Follows a b → GivesUp b c → GivesUp a c
gives_up_after a b c p q = record { before = q.before; follows = follows_on a b q.before p q.follows; gives = q.gives }

pub gives_turn_up : (MayConnect : LinkState → Type 0) (a : LinkState) (v : HoldingState) (b c : LinkState) → TakesTurn MayConnect a v b → GivesUp b c
    → GivesTurnUp MayConnect a c
gives_turn_up MayConnect a v b c t up = record {
  count = t.count;
  last = t.last;
  turn = t.turn;
  granted = t.granted;
  gives_up = gives_up_after t.turn b c
      (follows_on t.turn t.passes.checked b (shown_follows t.last [] t.turn t.passes.shown t.passes.checked t.passes.are_shown) t.passes.follows) up;
}

-- where the link fails, it has failed from then on
link_failed : (a b : LinkState) → IsRefusal Grant a b LinkFailed → b.failed ≡ true
link_failed a b (inl (is, failed, follows)) = failed
link_failed a b (inr (inl (is, unasked))) = absurd (cc)
link_failed a b (inr (inr (fits, told))) = absurd (cc)

-- the turn isn't granted over a link that is made anew either
pub ungranted : {A : Type 0} (r : Result A Refusal) (MayConnect : LinkState → Type 0) (a b start c : LinkState) → Follows a b → IsUngrantedOver a b LinkFailed
    → IsFresh start × MayConnect start → IfErr r (IsUngrantedOver start c) → IfErr r (IsUngranted MayConnect a c)
ungranted (Ok x) MayConnect a b start c follows over new again = tt
ungranted (Err e) MayConnect a b start c follows over new again = record {
  before = again.before;
  comes = inr (record {
    broken = b;
    follows = follows;
    failed = link_failed over.before b over.refused;
    start = start;
    fresh = new.0;
    may = new.1;
    then_follows = again.follows;
  });
  refused = again.refused;
}

pub granted_anew : (r : Result (ℕ × List (ℕ × ℕ)) Refusal) (MayConnect : LinkState → Type 0) (a b start c : LinkState) → Follows a b → IsUngrantedOver a b LinkFailed
    → IsFresh start × MayConnect start → IfOk r (λ g. IsGrantedOver start c g.0 g.1) → IfOk r (λ g. IsGranted MayConnect a c g.0 g.1)
granted_anew (Err e) MayConnect a b start c follows over new again = tt
granted_anew (Ok g) MayConnect a b start c follows over new again = record {
  before = again.before;
  comes = inr (record {
    broken = b;
    follows = follows;
    failed = link_failed over.before b over.refused;
    start = start;
    fresh = new.0;
    may = new.1;
    then_follows = again.follows;
  });
  granted = again.granted;
}
