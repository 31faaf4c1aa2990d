-- Messages that are sent ahead of their time, and then asked for.
use Rattle.std.proofs.Common.{◌≡◌, ◌∙◌, sym, ap, refl, subst, Bool, true, false, inl, inr, nat_eq, not, true≢false, ℕ, ◌-◌, List, [], ◌∷◌, ◌++◌, length, length-append, length-drop, take, drop, ◌+◌, append_assoc, append-nil, arith, Option, None, Some, if◌then◌else◌}
use Rattle.std.specs.List.{flat_map, ends_with}
use Rattle.std.specs.Global.{Vec}
use Rattle.std.specs.Io.KnownBytes.{Appends, Consumes, Keeps}
use Rattle.std.proofs.KnownBytes.{Appends-kept, Appends-trans, Consumes-nil, Consumes-trans}
use Rattle.std.proofs.Math.Seq.{take-add, take-append_seam, take-length}
use Rattle.std.proofs.lemmas.Bool.Decides.{Decides-eqb}
use Rattle.std.proofs.lemmas.List.Concat.{flat_map-append}
use Rattle.std.proofs.lemmas.Slice.Eq.{ends_is}
use Rattle.std.proofs.lemmas.List.{nil_from_length}
use Rattle.std.specs.Cmp.Lexicographic.{pointwise, bytes_decides}
use Rattle.su_frames.specs.Stream.{frame}
use Rattle.su_message.specs.declared.replies.Reply.{Reply}
use Rattle.su_message.specs.Reply.{reply_bytes}
use Rattle.su_client.specs.Link.{LinkState, Follows, GoesAhead, MayGive}
use Rattle.su_client.specs.Following.{follows_itself}
use Rattle.su_client.specs.Ahead.{before, framed, without}
use Rattle.su_client.specs.Asking.{Exchanges, Hearing, Hears, Joins, Reads, Sending, Spends, Writes, Writing}
use Rattle.su_client.proofs.Joining.{told_before}

-- ---- the bytes before an end

pub front_of : (front end : List ℕ) → before (Some (front ++ end)) end ≡ Some front
front_of front end =
    let is : ends_with nat_eq (front ++ end) end ≡ true = (ends_is Decides-eqb (front ++ end) end (ends_with nat_eq (front ++ end) end) refl).1 front refl in
    let long : length (front ++ end) - length end ≡ length front = omega (arith, length-append front end) in
    ap (λ (b : Bool). if b then Some (take (length (front ++ end) - length end) (front ++ end)) else None) is
    ∙ ap (λ (n : ℕ). Some (take n (front ++ end))) long ∙ ap (λ (l : List ℕ). Some l) (take-append_seam front end)

pub nothing_before : (known : Option (List ℕ)) → before known [] ≡ known
nothing_before None = refl
nothing_before (Some bytes) = ap (λ (l : List ℕ). before (Some l) []) (sym (append-nil bytes)) ∙ front_of bytes []

behind_if : (b : Bool) (bytes front end : List ℕ) → (b ≡ true → bytes ≡ front ++ end) → Appends (if b then Some front else None) (Some bytes) end
behind_if true bytes front end is = is refl
behind_if false bytes front end is = tt

pub behind : (known : Option (List ℕ)) (end : List ℕ) → Appends (before known end) known end
behind None end = tt
behind (Some bytes) end = behind_if (ends_with nat_eq bytes end) bytes (take (length bytes - length end) bytes) end (ends_is Decides-eqb bytes end (ends_with nat_eq bytes end) refl).0

popped_from : (front known : Option (List ℕ)) (first rest : List ℕ) → Appends front known (first ++ rest) → Appends front (before known rest) first
popped_from None known first rest at = tt
popped_from (Some p) None first rest at = absurd at
popped_from (Some p) (Some bytes) first rest at =
    subst (λ (o : Option (List ℕ)). Appends (Some p) o first) (sym (ap (λ (l : List ℕ). before (Some l) rest) (at ∙ sym (append_assoc p first rest)) ∙ front_of (p ++ first) rest)) refl

pushed_from : (front known known' : Option (List ℕ)) (end more : List ℕ) → Appends front known end → Appends known known' more → Keeps front (before known' (end ++ more))
pushed_from None known known' end more at on = tt
pushed_from (Some p) None known' end more at on = absurd at
pushed_from (Some p) (Some bytes) None end more at on = absurd on
pushed_from (Some p) (Some bytes) (Some bytes') end more at on =
    subst (λ (o : Option (List ℕ)). Keeps (Some p) o)
    (sym (ap (λ (l : List ℕ). before (Some l) (end ++ more)) (on ∙ ap (λ (l : List ℕ). l ++ more) at ∙ append_assoc p end more) ∙ front_of p (end ++ more))) refl

-- ---- links

pub without_none : (a : LinkState) → without a [] ≡ a
without_none a = ap (λ (h : Option (List ℕ)). record a { held = h }) (nothing_before a.held)

-- the first of the messages is asked for
pub first_asked : (a : LinkState) (m : Vec ℕ) (ms : List (Vec ℕ)) → Appends (without a (m ∷ ms)).held (without a ms).held (frame m.items)
first_asked a m ms = popped_from (before a.held (framed (m ∷ ms))) a.held (frame m.items) (framed ms) (behind a.held (framed (m ∷ ms)))

pub spends_first : (a : LinkState) (m : Vec ℕ) (ms : List (Vec ℕ)) → Spends (without a (m ∷ ms)) (without a ms)
spends_first a m ms = record {
  output = frame m.items;
  written = first_asked a m ms;
  input = [];
  read = Consumes-nil a.known;
  failed = refl;
}

pub sent_heard : (message : List ℕ) (a b c : LinkState) (r : Option Reply) → Writes (frame message) a b → Hearing b r c → Exchanges message a r c
sent_heard message a b c (Some r) w h = record {
  written = subst (λ (o : Option (List ℕ)). Appends a.held o (frame message)) (sym h.held) w.written;
  input = w.input ++ h.input;
  read = Consumes-trans a.known b.known c.known w.input h.input w.read h.read;
  replies = h.replies;
  is = h.is;
  next = sym (append_assoc a.waits w.input h.input) ∙ ap (λ (l : List ℕ). l ++ h.input) (sym w.waits) ∙ h.next;
  failed = h.failed ∙ w.failed;
}
sent_heard message a b c None w h = record {
  output = frame message;
  written = subst (λ (o : Option (List ℕ)). Appends a.held o (frame message)) (sym h.held) w.written;
  input = w.input ++ h.input;
  read = Consumes-trans a.known b.known c.known w.input h.input w.read h.read;
  failed = h.failed ∙ w.failed;
}

-- a reply is read, and the messages that were sent ahead stay so
pub heard_without : (ms : List (Vec ℕ)) (a c : LinkState) (r : Option Reply) → Hearing a r c → Hearing (without a ms) r (without c ms)
heard_without ms a c (Some r) h = record {
  input = h.input;
  read = h.read;
  replies = h.replies;
  is = h.is;
  next = h.next;
  held = ap (λ (o : Option (List ℕ)). before o (framed ms)) h.held;
  failed = h.failed;
}
heard_without ms a c None h = record {
  input = h.input;
  read = h.read;
  held = ap (λ (o : Option (List ℕ)). before o (framed ms)) h.held;
  failed = h.failed;
}

-- the first of the messages counts as written
pub first_written : (m : Vec ℕ) (ms : List (Vec ℕ)) (a : LinkState) → Writes (frame m.items) (without a (m ∷ ms)) (without a ms)
first_written m ms a = record {
  written = first_asked a m ms;
  input = [];
  read = Consumes-nil a.known;
  waits = sym (append-nil a.waits);
  failed = refl;
}

-- ---- sending ahead

pub goes_ahead : (m : Vec ℕ) (ms : List (Vec ℕ)) (a b : LinkState) → a.failed ≡ false → Writes (frame m.items) a b → GoesAhead (without a ms) (without b (ms ++ m ∷ []))
goes_ahead m ms a b works w =
    let all : framed (ms ++ m ∷ []) ≡ framed ms ++ frame m.items =
    flat_map-append (λ (v : Vec ℕ). frame v.items) ms (m ∷ []) ∙ ap (λ (l : List ℕ). framed ms ++ l) (append-nil (frame m.items)) in
    inl (record {
      input = w.input;
      read = w.read;
      waits = w.waits;
      held = subst (λ (l : List ℕ). Keeps (before a.held (framed ms)) (before b.held l)) (sym all)
          (pushed_from (before a.held (framed ms)) a.held b.held (framed ms) (frame m.items) (behind a.held (framed ms)) w.written);
      failed = w.failed;
      no_more = λ failed. absurd (let bad : false ≡ true = sym works ∙ failed in cc);
    })

-- the link fails as a message is written
pub fails_ahead : (ms : List (Vec ℕ)) (a b : LinkState) → a.failed ≡ false → Spends a b → GoesAhead (without a ms) (record (without b []) { failed = true })
fails_ahead ms a b works s = inr (
  refl,
  record {
    output = framed ms ++ s.output;
    written = subst (λ (o : Option (List ℕ)). Appends (before a.held (framed ms)) o (framed ms ++ s.output)) (sym (nothing_before b.held))
        (Appends-trans (before a.held (framed ms)) a.held b.held (framed ms) s.output (behind a.held (framed ms)) s.written);
    input = s.input;
    read = s.read;
    no_more = λ failed. absurd (let bad : false ≡ true = sym works ∙ failed in cc);
  },
)

-- what was sent ahead isn't asked for
pub passes_first : (m : Vec ℕ) (ms : List (Vec ℕ)) (a c : LinkState) (failed : Bool) → a.failed ≡ false → Reads a c → Follows (without a (m ∷ ms)) (record (without c ms) { failed = failed })
passes_first m ms a c failed works r = record {
  output = frame m.items;
  written = subst (λ (o : Option (List ℕ)). Appends (without a (m ∷ ms)).held (before o (framed ms)) (frame m.items)) (sym r.held) (first_asked a m ms);
  input = r.input;
  read = r.read;
  no_more = λ was. absurd (let bad : false ≡ true = sym works ∙ was in cc);
}

pub reads_heard : (a : LinkState) (r : Reply) (c : LinkState) → Hears a r c → Reads a c
reads_heard a r c h = record { input = h.input; read = h.read; held = h.held; failed = h.failed }

-- ---- as a link asks

module _ (now a : LinkState) (ms : List (Vec ℕ)) (view : without a ms ≡ now) where
  -- no message was sent ahead
  pub sent_alone : (message : List ℕ) (b : LinkState) (ms' : List (Vec ℕ)) (r : Bool) → ms ≡ ms' → length ms ≡ 0 → Sending message a r b → Sending message now r (without b ms')
  sent_alone message b ms' r same none s =
      let nothing : ms ≡ [] = nil_from_length ms none in
      subst (λ (l : LinkState). Sending message l r (without b ms')) (sym (without_none a) ∙ ap (without a) (sym nothing) ∙ view)
      (subst (Sending message a r) (sym (without_none b) ∙ ap (without b) (sym nothing ∙ same)) s)

  pub sent_first : (message : List ℕ) (m : Vec ℕ) (ms' : List (Vec ℕ)) → ms ≡ m ∷ ms' → m.items ≡ message → Writes (frame message) now (without a ms')
  sent_first message m ms' is same =
      subst (λ (l : LinkState). Writes (frame message) l (without a ms')) (ap (without a) (sym is) ∙ view)
      (subst (λ (l : List ℕ). Writes (frame l) (without a (m ∷ ms')) (without a ms')) same (first_written m ms' a))

  pub other_first : (m : Vec ℕ) (ms' : List (Vec ℕ)) → ms ≡ m ∷ ms' → Spends now (without a ms')
  other_first m ms' is = subst (λ (l : LinkState). Spends l (without a ms')) (ap (without a) (sym is) ∙ view) (spends_first a m ms')

  pub passed_first : (m : Vec ℕ) (ms' : List (Vec ℕ)) (c d : LinkState) → ms ≡ m ∷ ms' → a.failed ≡ false → Reads a c → (b : Bool) → d ≡ record c { failed = b } → Follows now (without d ms')
  passed_first m ms' c d is works r b last =
      subst (λ (l : LinkState). Follows l (without d ms')) (ap (without a) (sym is) ∙ view)
      (subst (λ (l : LinkState). Follows (without a (m ∷ ms')) (without l ms')) (sym last) (passes_first m ms' a c b works r))

  pub passed_none : (ms' : List (Vec ℕ)) → ms ≡ ms' → Follows now (without a ms')
  passed_none ms' same = subst (Follows now) (sym view ∙ ap (without a) same) (follows_itself now)

  -- what may be given once a reply was passed by might be given before
  pub given_first : (x : List ℕ) (r : Reply) (c : LinkState) (ms' : List (Vec ℕ)) → a.failed ≡ false → Hears a r c → MayGive (without c ms') x → MayGive now x
  given_first x r c ms' works h (good, told) =
      subst (λ (l : LinkState). MayGive l x) view (works, told_before x (reply_bytes r) h.is a.waits h.input c.waits a.known c.known h.next h.read told)

  pub given_none : (x : List ℕ) (ms' : List (Vec ℕ)) → ms ≡ ms' → MayGive (without a ms') x → MayGive now x
  given_none x ms' same = subst (λ (l : LinkState). MayGive l x) (ap (without a) (sym same) ∙ view)

  pub goes : (message : List ℕ) (m : Vec ℕ) (ms' ms'' : List (Vec ℕ)) (b : LinkState) → ms' ≡ ms → ms'' ≡ ms' ++ m ∷ [] → message ≡ m.items → a.failed ≡ false → Writes (frame message) a b
      → GoesAhead now (without b ms'')
  goes message m ms' ms'' b kept more same works w =
      subst (λ (l : LinkState). GoesAhead l (without b ms'')) view
      (subst (λ (l : List (Vec ℕ)). GoesAhead (without a ms) (without b l)) (ap (λ (l : List (Vec ℕ)). l ++ m ∷ []) (sym kept) ∙ sym more)
      (goes_ahead m ms a b works (subst (λ (l : List ℕ). Writes (frame l) a b) same w)))

  pub fails : (ms' : List (Vec ℕ)) (b c : LinkState) → a.failed ≡ false → Spends a b → c ≡ record b { failed = true } → ms' ≡ [] → GoesAhead now (without c ms')
  fails ms' b c works s last none =
      subst (λ (l : LinkState). GoesAhead l (without c ms')) view
      (subst (λ (l : LinkState). GoesAhead (without a ms) (without l ms')) (sym last)
      (subst (λ (l : List (Vec ℕ)). GoesAhead (without a ms) (without (record b { failed = true }) l)) (sym none) (fails_ahead ms a b works s)))

not_false : (b : Bool) → false ≡ not b → b ≡ true
not_false true e = refl
not_false false e = absurd (true≢false (sym e))

-- bytes that compare as the same
pub same_bytes : (xs ys : List ℕ) → false ≡ not (pointwise nat_eq xs ys) → xs ≡ ys
same_bytes xs ys e = (bytes_decides xs ys).0 (not_false (pointwise nat_eq xs ys) e)

-- ---- writing

-- more bytes of a message are written
pub writes_more : (bytes front all : List ℕ) (a b c : LinkState) → Writes front a b → Appends b.held c.held bytes → c.known ≡ b.known → c.waits ≡ b.waits → c.failed ≡ b.failed → all ≡ front ++ bytes → Writes all a c
writes_more bytes front all a b c w on known waits failed is = record {
  written = subst (Appends a.held c.held) (sym is) (Appends-trans a.held b.held c.held front bytes w.written on);
  input = w.input;
  read = subst (λ (k : Option (List ℕ)). Consumes a.known k w.input) (sym known) w.read;
  waits = waits ∙ w.waits;
  failed = failed ∙ w.failed;
}

-- something is read meanwhile
pub writes_joining : (bytes : List ℕ) (a b c : LinkState) → Writes bytes a b → Joins b c → Writes bytes a c
writes_joining bytes a b c w j = record {
  written = subst (λ (o : Option (List ℕ)). Appends a.held o bytes) (sym j.held) w.written;
  input = w.input ++ j.input;
  read = Consumes-trans a.known b.known c.known w.input j.input w.read j.read;
  waits = j.waits ∙ ap (λ (l : List ℕ). l ++ j.input) w.waits ∙ append_assoc a.waits w.input j.input;
  failed = j.failed ∙ w.failed;
}

-- no more is written
pub spends_writing : (bytes : List ℕ) (a b c : LinkState) → Writes bytes a b → Reads b c → Spends a c
spends_writing bytes a b c w r = record {
  output = bytes;
  written = subst (λ (o : Option (List ℕ)). Appends a.held o bytes) (sym r.held) w.written;
  input = w.input ++ r.input;
  read = Consumes-trans a.known b.known c.known w.input r.input w.read r.read;
  failed = r.failed ∙ w.failed;
}

pub reads_joined : (a b : LinkState) → Joins a b → Reads a b
reads_joined a b j = record { input = j.input; read = j.read; held = j.held; failed = j.failed }

-- all was written, whatever is told of it
pub writes_or_not : (bytes : List ℕ) (a b : LinkState) (told : Bool) → Writes bytes a b → Writing bytes a told b
writes_or_not bytes a b true w = w
writes_or_not bytes a b false w = record { output = bytes; written = w.written; input = w.input; read = w.read; failed = w.failed }

-- nothing was written
pub writes_kept : (bytes : List ℕ) (a b c : LinkState) → Writes bytes a b → Keeps b.held c.held → c.known ≡ b.known → c.waits ≡ b.waits → c.failed ≡ b.failed → Writes bytes a c
writes_kept bytes a b c w kept known waits failed = record {
  written = Appends-kept a.held b.held c.held bytes w.written kept;
  input = w.input;
  read = subst (λ (k : Option (List ℕ)). Consumes a.known k w.input) (sym known) w.read;
  waits = waits ∙ w.waits;
  failed = failed ∙ w.failed;
}

module _ (known : Option (List ℕ)) (waits : List ℕ) (failed : Bool) (old new : Option (List ℕ)) (now mid : LinkState) (view : record { known = known; held = old; waits = waits; failed = failed } ≡ mid) where
  -- the writer took so many of the bytes behind those that are done
  pub took_some : (bytes : List ℕ) (done count done' : ℕ) → Writes (take done bytes) now mid → Appends old new (take count (take (length bytes - done) (drop done bytes))) → done' ≡ done + count
      → Writes (take done' bytes) now (record { known = known; held = new; waits = waits; failed = failed })
  took_some bytes done count done' w on is =
      let rest : take (length bytes - done) (drop done bytes) ≡ drop done bytes =
      ap (λ (n : ℕ). take n (drop done bytes)) (sym (length-drop done bytes)) ∙ take-length (drop done bytes) in
      writes_more (take count (drop done bytes)) (take done bytes) (take done' bytes) now (record { known = known; held = old; waits = waits; failed = failed })
      (record { known = known; held = new; waits = waits; failed = failed }) (subst (Writes (take done bytes) now) (sym view) w)
      (subst (λ (l : List ℕ). Appends old new (take count l)) rest on) refl refl refl (ap (λ (n : ℕ). take n bytes) is ∙ take-add done count bytes)

  -- the writer took nothing
  pub took_none : (bytes : List ℕ) → Writes bytes now mid → Keeps old new → Writes bytes now (record { known = known; held = new; waits = waits; failed = failed })
  took_none bytes w kept =
      writes_kept bytes now (record { known = known; held = old; waits = waits; failed = failed }) (record { known = known; held = new; waits = waits; failed = failed })
      (subst (Writes bytes now) (sym view) w) kept refl refl refl

  -- the writer took the last of them, and was rid of all or not
  pub took_last : (bytes : List ℕ) (done count : ℕ) (flushed : Option (List ℕ)) (told : Bool) → Writes (take done bytes) now mid
      → Appends old new (take count (take (length bytes - done) (drop done bytes))) → done + count ≡ length bytes → Keeps new flushed
      → Writing bytes now told (record { known = known; held = flushed; waits = waits; failed = failed })
  took_last bytes done count flushed told w on is kept =
      let all : take (done + count) bytes ≡ bytes = ap (λ (n : ℕ). take n bytes) is ∙ take-length bytes in
      writes_or_not bytes now (record { known = known; held = flushed; waits = waits; failed = failed }) told
      (writes_kept bytes now (record { known = known; held = new; waits = waits; failed = failed }) (record { known = known; held = flushed; waits = waits; failed = failed })
      (subst (λ (l : List ℕ). Writes l now (record { known = known; held = new; waits = waits; failed = failed })) all (took_some bytes done count (done + count) w on refl)) kept refl refl refl)
