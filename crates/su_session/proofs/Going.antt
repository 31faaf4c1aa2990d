-- Parts of a session one after another are a part of it.
use Rattle.std.proofs.Common.{◌≡◌, ◌∙◌, sym, refl, ap, subst, ℕ, zero, suc, ◌+◌, ◌<◌, ◌≤◌, Bool, true, false, List, [], ◌∷◌, ◌++◌, length, take, drop, Option, Some, None, append_assoc, append-nil, length-append, take-append-drop, length-drop, ◌⊎◌, ◌==◌, arith, All, inl, inr}
use Rattle.std.specs.List.{flat_map}
use Rattle.std.specs.Io.KnownBytes.{Consumes, Appends, IsAtEnd}
use Rattle.std.proofs.KnownBytes.{Consumes-nil, Consumes-trans, Appends-nil, Appends-trans}
use Rattle.std.proofs.lemmas.Bool.Decides.{nat_tests}
use Rattle.std.proofs.lemmas.List.Elements.{All-append, All-nil}
use Rattle.su_bytes.specs.declared.refusals.Refusal.{Refusal}
use Rattle.su_bytes.specs.declared.refusals.Refusal.TheVariants.{NoMemory}
use Rattle.su_message.specs.declared.requests.Request.{Request}
use Rattle.su_message.specs.declared.replies.Reply.{Reply}
use Rattle.su_session.specs.declared.sessions.End.{End}
use Rattle.su_session.specs.declared.sessions.TheConstants.{MOST_READS}
use Rattle.su_session.specs.declared.sessions.End.TheVariants as ended
use Rattle.su_session.specs.declared.sessions.Progress.TheVariants as progress
use Rattle.su_format.specs.Part.{u32_bytes}
use Rattle.su_frames.specs.Stream.{frame, fault, stream, IsMessage, IsPartial, StandsWhole}
use Rattle.su_session.specs.Answer.{refusal_reply, reply_frame, written_of, turn_by, turn_after, refusal_frame, Replies}
use Rattle.su_session.specs.Session.{Breaks, CameBefore, Ends, Moment, Session}
use Rattle.su_session.specs.Step.{SaysWhole, SaysPart, SaysNothing, Refusing, Goes, Steps}

pub flat_map-append : {A B : Type 0} (f : A → List B) (xs ys : List A) → flat_map f (xs ++ ys) ≡ flat_map f xs ++ flat_map f ys
flat_map-append f [] ys = refl
flat_map-append f (x ∷ xs) ys = ap (λ t. f x ++ t) (flat_map-append f xs ys) ∙ sym (append_assoc (f x) (flat_map f xs) (flat_map f ys))

pub turn_after-append : (b : Bool) (xs ys : List Reply) → turn_after b (xs ++ ys) ≡ turn_after (turn_after b xs) ys
turn_after-append b [] ys = refl
turn_after-append b (x ∷ xs) ys = turn_after-append (turn_by b x) xs ys

-- bytes cut at a front, and what is left with more behind it cut again
pub cut-twice : (a x b y c : List ℕ) (ms ns : List (List ℕ)) → a ++ x ≡ stream ms b → b ++ y ≡ stream ns c → a ++ (x ++ y) ≡ stream (ms ++ ns) c
cut-twice a x b y c ms ns p q =
    sym (append_assoc a x y) ∙ ap (λ t. t ++ y) p ∙ append_assoc (flat_map frame ms) b y ∙ ap (λ t. flat_map frame ms ++ t) q
    ∙ sym (append_assoc (flat_map frame ms) (flat_map frame ns) c) ∙ ap (λ t. t ++ c) (sym (flat_map-append frame ms ns))

-- an end after more replies
pub ends-later : (end : End) (n : ℕ) (known : Option (List ℕ)) (rest : List ℕ) (before rs : List Reply) (out : List ℕ) → Ends end n known rest rs out → Ends end (length before + n) known rest (before ++ rs) (written_of before ++ out)
ends-later ended.Closed n known rest before rs out (e, r, (w, a)) =
    (e, r, (ap (λ t. written_of before ++ t) w ∙ sym (flat_map-append reply_frame before rs), omega (arith, a, length-append before rs)))
ends-later ended.Cut n known rest before rs out (e, p, l, (w, a)) =
    (e, p, l, (ap (λ t. written_of before ++ t) w ∙ sym (flat_map-append reply_frame before rs), omega (arith, a, length-append before rs)))
ends-later ended.Refused n known rest before rs out (e, f, w, a) =
    (e, f, ap (λ t. written_of before ++ t) w ∙ sym (append_assoc (written_of before) (written_of rs) (reply_frame (refusal_reply e))) ∙ ap (λ t. t ++ reply_frame (refusal_reply e)) (sym (flat_map-append reply_frame before rs)), omega (arith, a, length-append before rs))
ends-later ended.ReadFailed n known rest before rs out (p, (w, a)) =
    (p, (ap (λ t. written_of before ++ t) w ∙ sym (flat_map-append reply_frame before rs), omega (arith, a, length-append before rs)))
ends-later ended.Spent n known rest before rs out (p, (w, a)) =
    (p, (ap (λ t. written_of before ++ t) w ∙ sym (flat_map-append reply_frame before rs), omega (arith, a, length-append before rs)))
ends-later ended.LinkFailed n known rest before rs out (inl b) = inl (record {
  before = before ++ b.before;
  last = b.last;
  part = b.part;
  missing = b.missing;
  replies_are = ap (λ t. before ++ t) b.replies_are ∙ sym (append_assoc before b.before (b.last ∷ []));
  counted = omega (arith, b.counted, length-append before b.before);
  written = ap (λ t. written_of before ++ t) b.written ∙ sym (append_assoc (written_of before) (written_of b.before) b.part) ∙ ap (λ t. t ++ b.part) (sym (flat_map-append reply_frame before b.before));
  cut = b.cut;
  short = b.short;
})
ends-later ended.LinkFailed n known rest before rs out (inr b) = inr (record {
  part = b.part;
  missing = b.missing;
  counted = omega (arith, b.counted, length-append before rs);
  written = ap (λ t. written_of before ++ t) b.written ∙ sym (append_assoc (written_of before) (written_of rs) b.part) ∙ ap (λ t. t ++ b.part) (sym (flat_map-append reply_frame before rs));
  cut = b.cut;
})

-- what waited behind messages, or came behind it, had come before them
pub came-later : (end : End) (old before new input : List ℕ) (ms : List (List ℕ)) → old ++ before ≡ stream ms new → CameBefore end new input → CameBefore end old (before ++ input)
came-later ended.Closed old before new input ms whole c = tt
came-later ended.Cut old before new input ms whole c = tt
came-later ended.Refused old before new input ms whole c = tt
came-later ended.ReadFailed old before new input ms whole c = tt
came-later ended.Spent old before new input ms whole c = omega (arith, c, length-append before input)
came-later ended.LinkFailed old before new input ms whole c =
    omega (arith, c, length-append before input, ap length whole, length-append old before, length-append (flat_map frame ms) new)

-- a message on the stream is some bytes
frame-some : (m rest : List ℕ) → 0 < length (frame m ++ rest)
frame-some m rest = omega (arith, length-append (frame m) rest, length-append (u32_bytes (length m)) m)

whole-some : (old m rest : List ℕ) → old ≡ frame m ++ rest → 0 < length old + 0
whole-some old m rest e = omega (arith, ap length e, frame-some m rest)

-- what is refused, and whose length isn't, is refused for want of memory
pub lacked : (old : List ℕ) (e : Refusal) → (fault old ≡ Some e) ⊎ ((e ≡ NoMemory) × StandsWhole old) → fault old ≡ None → StandsWhole old
lacked old e (inl f) n = absurd (let clash : Some e ≡ None = sym f ∙ n in cc)
lacked old e (inr (wants, whole)) n = whole

-- a length is refused only where it has come
fault-some : (old : List ℕ) (e : Refusal) → fault old ≡ Some e → 0 < length old + 0
fault-some [] e f = absurd cc
fault-some (x ∷ xs) e f = omega arith

-- nothing more was written
pub breaks-nothing : (rest : List ℕ) (n : ℕ) (rs : List Reply) → n ≡ length rs → Breaks n rest rs (written_of rs)
breaks-nothing rest n rs e = inr (record {
  part = [];
  missing = refusal_frame (fault rest);
  counted = e;
  written = sym (append-nil (written_of rs));
  cut = refl;
})

-- a front of one reply was written
pub breaks-part : (rest : List ℕ) (r : Reply) (n : ℕ) → n < length (reply_frame r) → Breaks 0 rest (r ∷ []) (take n (reply_frame r))
breaks-part rest r n lt = inl (record {
  before = [];
  last = r;
  part = take n (reply_frame r);
  missing = drop n (reply_frame r);
  replies_are = refl;
  counted = refl;
  written = refl;
  cut = take-append-drop n (reply_frame r);
  short = omega (arith, lt, length-drop n (reply_frame r));
})

-- a front of the last refusal was written
pub breaks-refusal : (rest : List ℕ) (e : Refusal) (n : ℕ) → fault rest ≡ Some e → Breaks 0 rest [] (take n (reply_frame (refusal_reply e)))
breaks-refusal rest e n f = inr (record {
  part = take n (reply_frame (refusal_reply e));
  missing = drop n (reply_frame (refusal_reply e));
  counted = refl;
  written = refl;
  cut = take-append-drop n (reply_frame (refusal_reply e)) ∙ ap refusal_frame (sym f);
})

pub none : (xs : List ℕ) → (length xs == 0) ≡ true → xs ≡ []
none [] e = refl
none (x ∷ xs) e = absurd (let zero_long : length (x ∷ xs) ≡ 0 = grind (arith, nat_tests) in omega arith)

pub some : (xs : List ℕ) → (length xs == 0) ≡ false → 0 < length xs
some [] e = absurd (let bad : true ≡ false = e in cc)
some (x ∷ xs) e = omega arith

all-one : (m : List ℕ) → IsMessage m → All IsMessage (m ∷ [])
all-one m good zero d lt = good
all-one m good (suc k) d lt = absurd (omega arith)

module _ {S : Type 0} (step : S → Request → Reply → S → Type 0) where
  pub replies-then : (s : S) (ms : List (List ℕ)) (rs : List Reply) (t : S) (ns : List (List ℕ)) (qs : List Reply) (u : S) → Replies step s ms rs t → Replies step t ns qs u → Replies step s (ms ++ ns) (rs ++ qs) u
  replies-then s [] [] t ns qs u p q = subst (λ x. Replies step x ns qs u) p q
  replies-then s [] (r ∷ rs) t ns qs u p q = absurd p
  replies-then s (m ∷ ms) [] t ns qs u p q = absurd p
  replies-then s (m ∷ ms) (r ∷ rs) t ns qs u (v, a, p) q = (v, a, replies-then v ms rs t ns qs u p q)

  pub goes-none : (a : Moment S) → Goes step a a
  goes-none a = record {
    input = [];
    messages = [];
    replies = [];
    read = Consumes-nil a.known;
    whole = append-nil a.waits;
    each = All-nil IsMessage;
    run = refl;
    written = Appends-nil a.held;
    counted = omega arith;
    turn_is = refl;
  }

  pub goes-then : (a b c : Moment S) → Goes step a b → Goes step b c → Goes step a c
  goes-then a b c p q = record {
    input = p.input ++ q.input;
    messages = p.messages ++ q.messages;
    replies = p.replies ++ q.replies;
    read = Consumes-trans a.known b.known c.known p.input q.input p.read q.read;
    whole = cut-twice a.waits p.input b.waits q.input c.waits p.messages q.messages p.whole q.whole;
    each = All-append IsMessage p.messages q.messages p.each q.each;
    run = replies-then a.service p.messages p.replies b.service q.messages q.replies c.service p.run q.run;
    written = subst (Appends a.held c.held) (sym (flat_map-append reply_frame p.replies q.replies)) (Appends-trans a.held b.held c.held (written_of p.replies) (written_of q.replies) p.written q.written);
    counted = omega (arith, p.counted, q.counted, length-append p.replies q.replies);
    turn_is = q.turn_is ∙ ap (λ t. turn_after t q.replies) p.turn_is ∙ sym (turn_after-append a.turn p.replies q.replies);
  }

  -- the same, with how many bytes came
  pub goes-further : (a b c : Moment S) (p : Goes step a b) (q : Goes step b c) → (x : Goes step a c) × (length x.input ≡ length p.input + length q.input)
  unfolding goes-then
  goes-further a b c p q = (goes-then a b c p q, length-append p.input q.input)

  pub goes-end : (a b c : Moment S) (end : End) → Goes step a b → Session step b end c → Session step a end c
  goes-end a b c end p q = record {
    input = p.input ++ q.input;
    messages = p.messages ++ q.messages;
    rest = q.rest;
    replies = p.replies ++ q.replies;
    out = written_of p.replies ++ q.out;
    count = length p.replies + q.count;
    read = Consumes-trans a.known b.known c.known p.input q.input p.read q.read;
    whole = cut-twice a.waits p.input b.waits q.input q.rest p.messages q.messages p.whole q.whole;
    each = All-append IsMessage p.messages q.messages p.each q.each;
    run = replies-then a.service p.messages p.replies b.service q.messages q.replies c.service p.run q.run;
    written = Appends-trans a.held b.held c.held (written_of p.replies) q.out p.written q.written;
    counted = omega (arith, p.counted, q.counted);
    turn_is = q.turn_is ∙ ap (λ t. turn_after t q.replies) p.turn_is ∙ sym (turn_after-append a.turn p.replies q.replies);
    ends = ends-later end q.count c.known q.rest p.replies q.replies q.out q.ends;
    came = came-later end a.waits p.input b.waits q.input p.messages p.whole q.came;
  }

  abbrev pub moment : S → Bool → ℕ → List ℕ → Option (List ℕ) → Option (List ℕ) → Moment S
  moment s turn n waits known held = record { service = s; turn = turn; answered = n; waits = waits; known = known; held = held }

  -- a rest of a session in which nothing is read
  pub session-here : (a b : Moment S) (end : End) (ms : List (List ℕ)) (rest : List ℕ) (rs : List Reply) (out : List ℕ) (new : ℕ) → b.known ≡ a.known → a.waits ≡ stream ms rest → All IsMessage ms → Replies step a.service ms rs b.service → Appends a.held b.held out → b.answered ≡ a.answered + new → b.turn ≡ turn_after a.turn rs → Ends end new b.known rest rs out → CameBefore end a.waits [] → Session step a end b
  session-here a b end ms rest rs out new known whole each run written counted turn ends came = record {
    input = [];
    messages = ms;
    rest = rest;
    replies = rs;
    out = out;
    count = new;
    read = subst (λ k. Consumes a.known k []) (sym known) (Consumes-nil a.known);
    whole = append-nil a.waits ∙ whole;
    each = each;
    run = run;
    written = written;
    counted = counted;
    turn_is = turn;
    ends = ends;
    came = came;
  }

  pub step-waits : (s : S) (turn : Bool) (n : ℕ) (old new : List ℕ) (known held : Option (List ℕ)) → IsPartial old × (new ≡ old) → Steps step (moment s turn n old known held) progress.Waits (moment s turn n new known held)
  step-waits s turn n old new known held (p, e) =
      subst (λ w. Steps step (moment s turn n old known held) progress.Waits (moment s turn n w known held)) (sym e) (goes-none (moment s turn n old known held), p)

  one-message : (m old new : List ℕ) → old ≡ frame m ++ new → old ≡ stream (m ∷ []) new
  one-message m old new e = e ∙ ap (λ t. t ++ new) (sym (append-nil (frame m)))

  pub step-answered : (s t : S) (turn turn' : Bool) (n : ℕ) (old new m : List ℕ) (known held held' : Option (List ℕ)) → IsMessage m × (old ≡ frame m ++ new) → SaysWhole step s turn m held t turn' held'
      → Goes step (moment s turn n old known held) (moment t turn' (n + 1) new known held') × (length new < length old)
  step-answered s t turn turn' n old new m known held held' (good, cut) (r, run, turned, wrote) = (
    record {
      input = [];
      messages = m ∷ [];
      replies = r ∷ [];
      read = Consumes-nil known;
      whole = append-nil old ∙ one-message m old new cut;
      each = all-one m good;
      run = (t, run, refl);
      written = subst (Appends held held') (sym (append-nil (reply_frame r))) wrote;
      counted = refl;
      turn_is = turned;
    },
    omega (arith, ap length cut, length-append (frame m) new),
  )

  pub step-unsent : (s t : S) (turn turn' : Bool) (n : ℕ) (old new m : List ℕ) (known held held' : Option (List ℕ)) → IsMessage m × (old ≡ frame m ++ new) → SaysWhole step s turn m held t turn' held'
      → Session step (moment s turn n old known held) ended.LinkFailed (moment t turn' (n + 1) new known held')
  step-unsent s t turn turn' n old new m known held held' (good, cut) (r, run, turned, wrote) =
      session-here _ _ ended.LinkFailed (m ∷ []) new (r ∷ []) (written_of (r ∷ [])) 1 refl (one-message m old new cut) (all-one m good) (t, run, refl)
      (subst (Appends held held') (sym (append-nil (reply_frame r))) wrote) refl turned (breaks-nothing new 1 (r ∷ []) refl) (whole-some old m new cut)

  pub step-broken : (s t : S) (turn turn' : Bool) (n : ℕ) (old new m : List ℕ) (known held held' : Option (List ℕ)) → IsMessage m × (old ≡ frame m ++ new)
      → SaysPart step s turn m held t turn' held' ⊎ SaysNothing step s turn held t turn' held'
      → Session step (moment s turn n old known held) ended.LinkFailed (moment t turn' n new known held')
  step-broken s t turn turn' n old new m known held held' (good, cut) (inl (r, k, run, turned, lt, wrote)) =
      session-here _ _ ended.LinkFailed (m ∷ []) new (r ∷ []) (take k (reply_frame r)) 0 refl (one-message m old new cut) (all-one m good) (t, run, refl) wrote (omega arith) turned (breaks-part new r k lt) (whole-some old m new cut)
  step-broken s t turn turn' n old new m known held held' (good, cut) (inr (same, turned, wrote)) =
      session-here _ _ ended.LinkFailed [] old [] [] 0 refl refl (All-nil IsMessage) same wrote (omega arith) turned (breaks-nothing old 0 [] refl) (whole-some old m new cut)

  pub step-memory : (s : S) (turn : Bool) (n : ℕ) (old new : List ℕ) (known held : Option (List ℕ)) → StandsWhole old → Session step (moment s turn n old known held) ended.LinkFailed (moment s turn n new known held)
  step-memory s turn n old new known held (m, rest, good, cut) =
      session-here _ _ ended.LinkFailed [] old [] [] 0 refl refl (All-nil IsMessage) refl (Appends-nil held) (omega arith) refl (breaks-nothing old 0 [] refl) (whole-some old m rest cut)

  pub step-refused : (end : End) (e : Refusal) (s : S) (turn : Bool) (n : ℕ) (old new : List ℕ) (known held held' : Option (List ℕ)) → fault old ≡ Some e → Refusing e held end held' → Session step (moment s turn n old known held) end (moment s turn n new known held')
  step-refused ended.Refused e s turn n old new known held held' f wrote =
      session-here _ _ ended.Refused [] old [] (reply_frame (refusal_reply e)) 0 refl refl (All-nil IsMessage) refl wrote (omega arith) refl (e, f, refl, refl) tt
  step-refused ended.LinkFailed e s turn n old new known held held' f (k, wrote) =
      session-here _ _ ended.LinkFailed [] old [] (take k (reply_frame (refusal_reply e))) 0 refl refl (All-nil IsMessage) refl wrote (omega arith) refl (breaks-refusal old e k f) (fault-some old e f)
  step-refused ended.Closed e s turn n old new known held held' f wrote = absurd wrote
  step-refused ended.Cut e s turn n old new known held held' f wrote = absurd wrote
  step-refused ended.ReadFailed e s turn n old new known held held' f wrote = absurd wrote
  step-refused ended.Spent e s turn n old new known held held' f wrote = absurd wrote

  -- what was read waits too
  pub goes-read : (a b : Moment S) (piece : List ℕ) → b.service ≡ a.service → b.turn ≡ a.turn → b.answered ≡ a.answered → b.waits ≡ a.waits ++ piece → b.held ≡ a.held → Consumes a.known b.known piece → Goes step a b
  goes-read a b piece s t n w h r = record {
    input = piece;
    messages = [];
    replies = [];
    read = r;
    whole = sym w;
    each = All-nil IsMessage;
    run = s;
    written = subst (λ k. Appends a.held k []) (sym h) (Appends-nil a.held);
    counted = n ∙ omega arith;
    turn_is = t;
  }

  -- the same, with how many bytes came
  pub goes-reading : (a b : Moment S) (piece : List ℕ) → b.service ≡ a.service → b.turn ≡ a.turn → b.answered ≡ a.answered → b.waits ≡ a.waits ++ piece → b.held ≡ a.held → Consumes a.known b.known piece → (x : Goes step a b) × (length x.input ≡ length piece)
  unfolding goes-read
  goes-reading a b piece s t n w h r = (goes-read a b piece s t n w h r, refl)

  -- the input has ended after a whole message
  pub end-closed : (a b : Moment S) → b.service ≡ a.service → b.turn ≡ a.turn → b.answered ≡ a.answered → b.held ≡ a.held → Consumes a.known b.known [] → IsAtEnd b.known → a.waits ≡ [] → Session step a ended.Closed b
  end-closed a b s t n h read end none = record {
    input = [];
    messages = [];
    rest = [];
    replies = [];
    out = [];
    count = 0;
    read = read;
    whole = append-nil a.waits ∙ none;
    each = All-nil IsMessage;
    run = s;
    written = subst (λ k. Appends a.held k []) (sym h) (Appends-nil a.held);
    counted = n ∙ omega arith;
    turn_is = t;
    ends = (end, refl, (refl, refl));
    came = tt;
  }

  -- the input has ended inside a message
  pub end-cut : (a b : Moment S) → b.service ≡ a.service → b.turn ≡ a.turn → b.answered ≡ a.answered → b.held ≡ a.held → Consumes a.known b.known [] → IsAtEnd b.known → IsPartial a.waits → 0 < length a.waits → Session step a ended.Cut b
  end-cut a b s t n h read end partial some = record {
    input = [];
    messages = [];
    rest = a.waits;
    replies = [];
    out = [];
    count = 0;
    read = read;
    whole = append-nil a.waits;
    each = All-nil IsMessage;
    run = s;
    written = subst (λ k. Appends a.held k []) (sym h) (Appends-nil a.held);
    counted = n ∙ omega arith;
    turn_is = t;
    ends = (end, partial, some, (refl, refl));
    came = tt;
  }

  -- a read failed
  pub end-unread : (a b : Moment S) → b.service ≡ a.service → b.turn ≡ a.turn → b.answered ≡ a.answered → b.held ≡ a.held → Consumes a.known b.known [] → IsPartial a.waits → Session step a ended.ReadFailed b
  end-unread a b s t n h read partial = record {
    input = [];
    messages = [];
    rest = a.waits;
    replies = [];
    out = [];
    count = 0;
    read = read;
    whole = append-nil a.waits;
    each = All-nil IsMessage;
    run = s;
    written = subst (λ k. Appends a.held k []) (sym h) (Appends-nil a.held);
    counted = n ∙ omega arith;
    turn_is = t;
    ends = (partial, (refl, refl));
    came = tt;
  }

  -- there was no memory for what was read
  pub end-lost : (a b : Moment S) (piece : List ℕ) → b.service ≡ a.service → b.turn ≡ a.turn → b.answered ≡ a.answered → b.held ≡ a.held → Consumes a.known b.known piece → 0 < length piece → Session step a ended.LinkFailed b
  end-lost a b piece s t n h read some = record {
    input = piece;
    messages = [];
    rest = a.waits ++ piece;
    replies = [];
    out = [];
    count = 0;
    read = read;
    whole = refl;
    each = All-nil IsMessage;
    run = s;
    written = subst (λ k. Appends a.held k []) (sym h) (Appends-nil a.held);
    counted = n ∙ omega arith;
    turn_is = t;
    ends = breaks-nothing (a.waits ++ piece) 0 [] refl;
    came = omega (arith, some);
  }

  -- no read is left, and by each of so many a byte came at least
  pub end-spent : (a b : Moment S) (x : Goes step a b) → IsPartial b.waits → MOST_READS ≤ length x.input → Session step a ended.Spent b
  end-spent a b x partial came = record {
    input = x.input;
    messages = x.messages;
    rest = b.waits;
    replies = x.replies;
    out = written_of x.replies;
    count = length x.replies;
    read = x.read;
    whole = x.whole;
    each = x.each;
    run = x.run;
    written = x.written;
    counted = x.counted;
    turn_is = x.turn_is;
    ends = (partial, (refl, refl));
    came = came;
  }
