-- A link over which requests were sent ahead of their time.
use Rattle.std.proofs.Common.{◌≡◌, ◌∙◌, sym, ap, refl, subst, ℕ, true, false, inl, inr, List, [], ◌∷◌, ◌++◌, append_assoc, append-nil, length, ◌<◌, arith, nat_eq, Bool, true≢false, Option, None, Some, Result, Ok, Err}
use Rattle.std.specs.Prelude.{drop, slice_index_or, OnErr}
use Rattle.std.specs.Io.KnownBytes.{Appends, Consumes, Keeps}
use Rattle.std.proofs.KnownBytes.{Consumes-nil, Consumes-trans, Keeps-refl, Keeps-trans}
use Rattle.su_message.specs.declared.requests.Request.{Request}
use Rattle.su_message.specs.declared.replies.Reply.{Reply}
use Rattle.su_client.specs.Link.{LinkState, Exchanged, Follows, GoesAhead, IsToldOf, MayGive, Waits}
use Rattle.su_client.specs.Following.{follows_itself, follows_on}
use Rattle.std.specs.Global.{Vec}
use Rattle.su_client.specs.Outbox.{contents, PutsAll, PutsFirst, PutsSome}
use Rattle.sha2.specs.Sha256.{sha256}
use Rattle.su_message.specs.declared.requests.Request.TheVariants.{Put}
use Rattle.su_message.specs.declared.replies.Reply.TheVariants.{PutDone}
use Rattle.su_client.proofs.Following.{follows_exchanged}

pub ahead_itself : (a : LinkState) → GoesAhead a a
ahead_itself a = inl (record {
  input = [];
  read = Consumes-nil a.known;
  waits = sym (append-nil a.waits);
  held = Keeps-refl a.held;
  failed = refl;
  no_more = λ failed. refl;
})

appends_kept : (old new : Option (List ℕ)) → Keeps old new → Appends old new []
appends_kept None new kept = tt
appends_kept (Some x) None kept = absurd kept
appends_kept (Some x) (Some y) kept = kept ∙ sym (append-nil x)

appends_from : (a b c : Option (List ℕ)) (bytes : List ℕ) → Keeps a b → Appends b c bytes → Appends a c bytes
appends_from None b c bytes kept on = tt
appends_from (Some x) None c bytes kept on = absurd kept
appends_from (Some x) (Some y) None bytes kept on = absurd on
appends_from (Some x) (Some y) (Some z) bytes kept on = on ∙ ap (λ (l : List ℕ). l ++ bytes) kept

waits_follows : (a b : LinkState) → Waits a b → Follows a b
waits_follows a b w = record {
  output = [];
  written = appends_kept a.held b.held w.held;
  input = w.input;
  read = w.read;
  no_more = w.no_more;
}

pub ahead_follows : (a b : LinkState) → GoesAhead a b → Follows a b
ahead_follows a b (inl w) = waits_follows a b w
ahead_follows a b (inr (failed, follows)) = follows

pub ahead_on : (a b c : LinkState) → GoesAhead a b → GoesAhead b c → GoesAhead a c
ahead_on a b c (inl p) (inl q) = inl (record {
  input = p.input ++ q.input;
  read = Consumes-trans a.known b.known c.known p.input q.input p.read q.read;
  waits = q.waits ∙ ap (λ (l : List ℕ). l ++ q.input) p.waits ∙ append_assoc a.waits p.input q.input;
  held = Keeps-trans a.held b.held c.held p.held q.held;
  failed = q.failed ∙ p.failed;
  no_more = λ failed. q.no_more (p.failed ∙ failed) ∙ p.no_more failed;
})
ahead_on a b c (inl p) (inr (failed, q)) = inr (failed, follows_on a b c (waits_follows a b p) q)
ahead_on a b c (inr (failed, p)) q =
    let f = ahead_follows b c q in
    let same : c ≡ b = f.no_more failed in
    inr (ap (λ (l : LinkState). l.failed) same ∙ failed, follows_on a b c p f)

-- what is asked then was asked before, as far as that goes
pub exchanged_ahead : (q : Request) (a m b : LinkState) (r : Reply) → GoesAhead a m → Exchanged q m b r → Exchanged q a b r
exchanged_ahead q a m b r (inl w) e = record {
  works = sym w.failed ∙ e.works;
  asks = e.asks;
  written = appends_from a.held m.held b.held _ w.held e.written;
  input = w.input ++ e.input;
  read = Consumes-trans a.known m.known b.known w.input e.input w.read e.read;
  replies = e.replies;
  message = e.message;
  next = sym (append_assoc a.waits w.input e.input) ∙ ap (λ (l : List ℕ). l ++ e.input) (sym w.waits) ∙ e.next;
  good = e.good;
}
exchanged_ahead q a m b r (inr (failed, follows)) e = absurd (let bad : false ≡ true = sym e.works ∙ failed in cc)

told_ahead : (x waits input : List ℕ) (known known' : Option (List ℕ)) → Consumes known known' input → IsToldOf (waits ++ input) known' x → IsToldOf waits known x
told_ahead x waits input None known' read told = tt
told_ahead x waits input (Some bytes) None read told = absurd read
told_ahead x waits input (Some bytes) (Some left) read (messages, rest, splits, has) =
    (messages, rest, record { whole = ap (λ (l : List ℕ). waits ++ l) read ∙ sym (append_assoc waits input left) ∙ splits.whole; each = splits.each }, has)

-- what may be given then might be given before
pub given_ahead : (x : List ℕ) (a b : LinkState) → GoesAhead a b → MayGive b x → MayGive a x
given_ahead x a b (inl w) (good, told) =
    (sym w.failed ∙ good, told_ahead x a.waits w.input a.known b.known w.read (subst (λ (l : List ℕ). IsToldOf l b.known x) w.waits told))
given_ahead x a b (inr (failed, follows)) (good, told) = absurd (let bad : false ≡ true = sym good ∙ failed in cc)

-- ---- items that are put

puts_more : (items : List (List ℕ)) (item : List ℕ) (a b c : LinkState) → PutsAll items a b → Exchanged (Put item) b c (PutDone (sha256 item)) → PutsAll (items ++ item ∷ []) a c
puts_more [] item a b c same put = (c, subst (λ (l : LinkState). Exchanged (Put item) l c (PutDone (sha256 item))) same put, refl)
puts_more (x ∷ items) item a b c (m, first, rest) put = (m, first, puts_more items item m b c rest put)

pub puts_follow : (items : List (List ℕ)) (a b : LinkState) → PutsAll items a b → Follows a b
puts_follow [] a b same = subst (Follows a) (sym same) (follows_itself a)
puts_follow (x ∷ items) a b (m, first, rest) = follows_on a m b (follows_exchanged (Put x) a m _ first) (puts_follow items m b rest)

-- of the items that waited some were put, and these wait still
pub record ArePut (all : List (List ℕ)) (a : LinkState) (left : List (List ℕ)) (b : LinkState) : Type 0 where
  pub done : List (List ℕ)
  pub split : all ≡ done ++ left
  pub put : PutsAll done a b

pub none_put : (all : List (List ℕ)) (a : LinkState) → ArePut all a all a
none_put all a = record { done = []; split = refl; put = refl }

pub one_put : (all : List (List ℕ)) (a : LinkState) (item : List ℕ) (left left' : List (List ℕ)) (b c : LinkState) → ArePut all a left b → left ≡ item ∷ left' → Exchanged (Put item) b c (PutDone (sha256 item))
    → ArePut all a left' c
one_put all a item left left' b c p is put = record {
  done = p.done ++ item ∷ [];
  split = p.split ∙ ap (λ (l : List (List ℕ)). p.done ++ l) is ∙ sym (append_assoc p.done (item ∷ []) left');
  put = puts_more p.done item a b c p.put put;
}

-- the first of those that wait is put
pub first_put : (all : List (List ℕ)) (a : LinkState) (ms ms' : List (Vec ℕ)) (b c : LinkState) → ArePut all a (contents ms) b → (length ms ≡ 0 → ⊥) → PutsFirst ms b ms' c → ArePut all a (contents ms') c
first_put all a [] ms' b c p some first = absurd (some refl)
first_put all a (m ∷ ms) ms' b c p some (left, put) =
    subst (λ (l : List (Vec ℕ)). ArePut all a (contents l) c) (sym left) (one_put all a m.items (contents (m ∷ ms)) (contents ms) b c p refl put)

pub fewer_wait : (ms ms' : List (Vec ℕ)) (b c : LinkState) → (length ms ≡ 0 → ⊥) → PutsFirst ms b ms' c → length ms' < length ms
fewer_wait [] ms' b c some first = absurd (some refl)
fewer_wait (m ∷ ms) ms' b c some (left, put) = omega (arith, ap length left)

-- the first of those that wait was put, and taken away
pub puts_front : (ms ms' : List (Vec ℕ)) (m : Vec ℕ) (item : List ℕ) (a b c : LinkState) → m ≡ slice_index_or ms 0 m → ms' ≡ drop 1 ms → item ≡ m.items → GoesAhead a b
    → Exchanged (Put item) b c (PutDone (sha256 item)) → PutsFirst ms a ms' c
puts_front [] ms' m item a b c is rest same ahead put = rest
puts_front (x ∷ xs) ms' m item a b c is rest same ahead put =
    (rest, exchanged_ahead (Put x.items) a b c _ ahead (subst (λ (i : List ℕ). Exchanged (Put i) b c (PutDone (sha256 i))) (same ∙ ap (λ (v : Vec ℕ). v.items) is) put))

pub all_put : (all : List (List ℕ)) (a : LinkState) (left : List (List ℕ)) (b : LinkState) → ArePut all a left b → left ≡ [] → PutsAll all a b
all_put all a left b p none = subst (λ (l : List (List ℕ)). PutsAll l a b) (sym (p.split ∙ ap (λ (l : List (List ℕ)). p.done ++ l) none ∙ append-nil p.done)) p.put

pub some_wait : (len : ℕ) (ms : List (Vec ℕ)) (r : Bool) → len ≡ length ms → r ≡ nat_eq len 0 → r ≡ false → length ms ≡ 0 → ⊥
some_wait len ms r long is not none = true≢false (sym (is ∙ ap (λ (n : ℕ). nat_eq n 0) (long ∙ none)) ∙ not)

-- where putting fails behind those that were put, the others wait still
pub some_put : (all : List (List ℕ)) (a : LinkState) (left : List (List ℕ)) (b c : LinkState) → ArePut all a left b → Follows b c → PutsSome all a left c
some_put all a left b c p follows = record { put = p.done; parts = p.split; between = b; puts = p.put; follows = follows }

pub waits_still : (all : List (List ℕ)) (a c : LinkState) → Follows a c → PutsSome all a all c
waits_still all a c follows = some_put all a all a c (none_put all a) follows

pub none_waits : (all : List (List ℕ)) (a b c : LinkState) (left : List (List ℕ)) → PutsAll all a b → left ≡ [] → Follows b c → PutsSome all a left c
none_waits all a b c left puts none follows = record {
  put = all;
  parts = sym (ap (λ (l : List (List ℕ)). all ++ l) none ∙ append-nil all);
  between = b;
  puts = puts;
  follows = follows;
}

pub left_none : (all : List (List ℕ)) (a b c : LinkState) (left : List (List ℕ)) → PutsAll all a b → left ≡ [] → c ≡ b → PutsSome all a left c
left_none all a b c left puts none same = none_waits all a b c left puts none (subst (Follows b) (sym same) (follows_itself b))

pub left_all : (all : List (List ℕ)) (a b : LinkState) (left : List (List ℕ)) → left ≡ all → b ≡ a → PutsSome all a left b
left_all all a b left same still =
    subst (λ (l : List (List ℕ)). PutsSome all a l b) (sym same) (waits_still all a b (subst (Follows a) (sym still) (follows_itself a)))

-- where nothing is said unless it fails
pub on_err : {A E : Type 0} {P : Type 0} (r : Result A E) → P → OnErr r P
on_err (Ok x) p = tt
on_err (Err e) p = p
