-- Reads one after another, and what is taken after them.
use Rattle.std.proofs.Common.{◌≡◌, ◌∙◌, sym, refl, ap, subst, true, false, [], ◌∷◌, inl, inr, append-nil, suc, arith, ℕ, List, ◌++◌, append_assoc, Option, None, Some, Ok, take}
use Rattle.std.specs.Global.{Vec}
use Rattle.std.specs.List.{flat_map}
use Rattle.std.specs.Io.KnownBytes.{Appends, Consumes}
use Rattle.su_frames.specs.Sending.{Sends}
use Rattle.su_frames.specs.declared.sending.Sent.{Sent}
use Rattle.su_frames.specs.declared.sending.Sent.TheVariants.{Whole, Unflushed, Broken}
use Rattle.std.proofs.KnownBytes.{Consumes-trans}
use Rattle.su_frames.specs.Stream.{frame, IsMessage, Nexts}
use Rattle.std.proofs.lemmas.List.Elements.{All-cons, All-nil}
use Rattle.su_bytes.specs.declared.refusals.Refusal.{Refusal}
use Rattle.su_message.specs.declared.requests.Request.{Request}
use Rattle.su_message.specs.declared.replies.Reply.{Reply}
use Rattle.su_message.specs.declared.replies.Reply.TheVariants.{Item}
use Rattle.su_message.specs.Reply.{reply_bytes}
use Rattle.su_client.specs.Link.{LinkState, Exchanged, IsRefusal, IsToldOf, MayGive}
use Rattle.su_client.specs.Asking.{Joins, Reads, Spends, Takes}

pub joins_trans : (a b c : LinkState) → Joins a b → Joins b c → Joins a c
joins_trans a b c p q = record {
  input = p.input ++ q.input;
  read = Consumes-trans a.known b.known c.known p.input q.input p.read q.read;
  waits = q.waits ∙ ap (λ w. w ++ q.input) p.waits ∙ append_assoc a.waits p.input q.input;
  held = q.held ∙ p.held;
  failed = q.failed ∙ p.failed;
}

-- what was read joined what waited, and then more was read
pub reads_after : (a b c : LinkState) → Joins a b → Reads b c → Reads a c
reads_after a b c p q = record {
  input = p.input ++ q.input;
  read = Consumes-trans a.known b.known c.known p.input q.input p.read q.read;
  held = q.held ∙ p.held;
  failed = q.failed ∙ p.failed;
}

-- what was written of a message
pub sent : (bytes : List ℕ) (held : Option (List ℕ)) (s : Sent) (held' : Option (List ℕ)) → Sends bytes held s held' → (output : List ℕ) × Appends held held' output
sent bytes held Whole held' p = (bytes, p)
sent bytes held Unflushed held' p = (bytes, p)
sent bytes held Broken held' (n, short, p) = (take n bytes, p)

-- some bytes were written, and then some were read
pub spends_reading : (bytes : List ℕ) (a m b : LinkState) → Appends a.held m.held bytes → m.known ≡ a.known → m.failed ≡ a.failed → Reads m b → Spends a b
spends_reading bytes a m b written known failed q = record {
  output = bytes;
  written = subst (λ (h : Option (List ℕ)). Appends a.held h bytes) (sym q.held) written;
  input = q.input;
  read = subst (λ (k : Option (List ℕ)). Consumes k b.known q.input) known q.read;
  failed = q.failed ∙ failed;
}

-- a message that was taken was read
pub reads_taken : (a b : LinkState) (message : List ℕ) → Takes a message b → Reads a b
reads_taken a b message t = record { input = t.input; read = t.read; held = t.held; failed = t.failed }

-- where no message is whole, nothing was taken
pub nothing_taken : (old new : List ℕ) (o : Option (Vec ℕ)) → o ≡ None → Nexts old (Ok o) new → new ≡ old
nothing_taken old new None e n = n.1
nothing_taken old new (Some m) e n = absurd cc

-- ---- what may be given

module _ (x : List ℕ) where
  pub told_before : (message : List ℕ) → IsMessage message → (waits input waits' : List ℕ) (known known' : Option (List ℕ)) → waits ++ input ≡ frame message ++ waits' → Consumes known known' input
      → IsToldOf waits' known' x → IsToldOf waits known x
  told_before message is waits input waits' None known' next read told = tt
  told_before message is waits input waits' (Some bytes) None next read told = absurd read
  told_before message is waits input waits' (Some bytes) (Some left) next read (messages, rest, splits, (k, within, is_x)) = (
    message ∷ messages,
    rest,
    record {
      whole = ap (λ b. waits ++ b) read ∙ sym (append_assoc waits input left) ∙ ap (λ b. b ++ left) next ∙ append_assoc (frame message) waits' left
          ∙ ap (λ b. frame message ++ b) splits.whole ∙ sym (append_assoc (frame message) (flat_map frame messages) rest);
      each = All-cons IsMessage message messages is splits.each;
    },
    (suc k, omega (arith, within), is_x),
  )

  told_now : (message : List ℕ) → IsMessage message → (waits input waits' : List ℕ) (known known' : Option (List ℕ)) → waits ++ input ≡ frame message ++ waits' → Consumes known known' input
      → message ≡ reply_bytes (Item x) → IsToldOf waits known x
  told_now message is waits input waits' None known' next read e = tt
  told_now message is waits input waits' (Some bytes) None next read e = absurd read
  told_now message is waits input waits' (Some bytes) (Some left) next read e = (
    message ∷ [],
    waits' ++ left,
    record {
      whole = ap (λ b. waits ++ b) read ∙ sym (append_assoc waits input left) ∙ ap (λ b. b ++ left) next ∙ append_assoc (frame message) waits' left
          ∙ ap (λ b. b ++ (waits' ++ left)) (sym (append-nil (frame message)));
      each = All-cons IsMessage message [] is (All-nil IsMessage);
    },
    (0, omega (arith), e),
  )

  -- what may be given after a call might be given before it
  pub given_before : (q : Request) (a b : LinkState) (r : Reply) → Exchanged q a b r → MayGive b x → MayGive a x
  given_before q a b r e (good, told) = (e.works, told_before (reply_bytes r) e.message a.waits e.input b.waits a.known b.known e.next e.read told)

  pub refused_before : (q : Request) (a b : LinkState) (e : Refusal) → IsRefusal q a b e → MayGive b x → MayGive a x
  refused_before q a b e (inl (is, failed, follows)) (good, told) = absurd (let bad : false ≡ true = sym good ∙ failed in cc)
  refused_before q a b e (inr (inl (is, (works, same)))) may = subst (λ (l : LinkState). MayGive l x) same may
  refused_before q a b e (inr (inr (fits, exchanged))) may = given_before q a b _ exchanged may

  -- an item that was read might be given
  pub item_told : (q : Request) (a b : LinkState) → Exchanged q a b (Item x) → MayGive a x
  item_told q a b e = (e.works, told_now (reply_bytes (Item x)) e.message a.waits e.input b.waits a.known b.known e.next e.read refl)
