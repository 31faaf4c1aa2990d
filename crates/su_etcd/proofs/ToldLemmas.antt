-- What etcd told stays told, and what a reply tells of keys.
use Rattle.std.proofs.Common.{◌≡◌, ◌∙◌, sym, ap, subst, refl, ℕ, List, [], ◌∷◌, ◌++◌, inl, inr}
use Rattle.std.specs.Prelude.{Contains, map, Result, Ok, Err, IfOk, Option, Some, None, IfSome}
use Rattle.std.proofs.lemmas.List.{map-append}
use Rattle.su_engine.specs.Pairs.{pairs_of}
use Rattle.su_engine.specs.declared.engines.Pair.{Pair}
use Rattle.std.specs.Global.{Vec}
use Rattle.std.proofs.lemmas.List.Elements.{Contains-push, Contains-append_left}
use Rattle.serde_json.specs.Data.{Data}
use Rattle.su_gateway.specs.declared.targets.Target.{Target}
use Rattle.su_gateway.specs.declared.targets.Target.TheVariants.{Txn, Range}
use Rattle.su_gateway.specs.Requests.{create_text, compare_text, range_text, page_text}
use Rattle.su_gateway.specs.Replies.{IsReply, IsDone, IsFound, IsNone}
use Rattle.su_etcd.specs.declared.wires.Request.{Request}
use Rattle.su_etcd.specs.Told.{Answered, Among, Has, Lacked, IsBefore, Logged}

module _ (told told' : Target → List ℕ → List ℕ → Type 0) (stays : (t : Target) (q r : List ℕ) → told t q r → told' t q r) where
  answered : (target : Target) (body : List ℕ) (Tells : Data → Type 0) → Answered told target body Tells → Answered told' target body Tells
  answered target body Tells a = record { reply = a.reply; tells = a.tells; was = stays target body a.reply a.was; is = a.is; so = a.so }

  created : (lead : ℕ) (key value : List ℕ) → Among (λ first beside. Answered told Txn (create_text lead first beside) IsDone) key value
      → Among (λ first beside. Answered told' Txn (create_text lead first beside) IsDone) key value
  created lead key value a = record { first = a.first; beside = a.beside; has = a.has; told = answered Txn (create_text lead a.first a.beside) IsDone a.told }

  compared : (key value : List ℕ) → Among (λ first beside. Answered told Txn (compare_text first beside) IsDone) key value
      → Among (λ first beside. Answered told' Txn (compare_text first beside) IsDone) key value
  compared key value a = record { first = a.first; beside = a.beside; has = a.has; told = answered Txn (compare_text a.first a.beside) IsDone a.told }

  pub has_stays : (lead : ℕ) (key value : List ℕ) → Has told lead key value → Has told' lead key value
  has_stays lead key value (inl a) = inl (created lead key value a)
  has_stays lead key value (inr (inl a)) = inr (inl (compared key value a))
  has_stays lead key value (inr (inr (inl a))) = inr (inr (inl (answered Range (range_text key) (λ d. IsFound d key value) a)))
  has_stays lead key value (inr (inr (inr (first, end, a)))) =
      inr (inr (inr (first, end, answered Range (page_text first end) (λ d. IsFound d key value) a)))

  pub lacked_stays : (key : List ℕ) → Lacked told key → Lacked told' key
  lacked_stays key (inl a) = inl (answered Range (range_text key) IsNone a)
  lacked_stays key (inr (end, before, a)) = inr (end, before, answered Range (page_text key end) IsNone a)

module _ (told : Target → List ℕ → List ℕ → Type 0) (lead now : ℕ) (same : now ≡ lead) (body reply : List ℕ) (d : Data) (is : IsReply reply d) where
  pub all_created : (first : List ℕ × List ℕ) (beside : List (List ℕ × List ℕ)) → body ≡ create_text lead first beside → told Txn body reply → IsDone d
      → (p : List ℕ × List ℕ) → Contains (first ∷ beside) p → Has told now p.0 p.1
  all_created first beside asked was so p has =
      let text : body ≡ create_text now first beside = asked ∙ ap (λ (n : ℕ). create_text n first beside) (sym same) in
      let was' : told Txn (create_text now first beside) reply = subst (λ (b : List ℕ). told Txn b reply) text was in
      inl (record { first = first; beside = beside; has = has; told = record { reply = reply; tells = d; was = was'; is = is; so = so } })

  pub all_compared : (first : List ℕ × List ℕ) (beside : List (List ℕ × List ℕ)) → body ≡ compare_text first beside → told Txn body reply → IsDone d
      → (p : List ℕ × List ℕ) → Contains (first ∷ beside) p → Has told now p.0 p.1
  all_compared first beside asked was so p has =
      let was' : told Txn (compare_text first beside) reply = subst (λ (b : List ℕ). told Txn b reply) asked was in
      inr (inl (record { first = first; beside = beside; has = has; told = record { reply = reply; tells = d; was = was'; is = is; so = so } }))

  pub one_found : (key : List ℕ) → body ≡ range_text key → told Range body reply → (p : List ℕ × List ℕ) → IsFound d p.0 p.1 → p.0 ≡ key → Has told now p.0 p.1
  one_found key asked was p so of =
      let was' : told Range (range_text p.0) reply = subst (λ (b : List ℕ). told Range b reply) (asked ∙ ap range_text (sym of)) was in
      inr (inr (inl (record { reply = reply; tells = d; was = was'; is = is; so = so })))

  pub page_found : (first end : List ℕ) → body ≡ page_text first end → told Range body reply → (p : List ℕ × List ℕ) → IsFound d p.0 p.1 → Has told now p.0 p.1
  page_found first end asked was p so =
      let was' : told Range (page_text first end) reply = subst (λ (b : List ℕ). told Range b reply) asked was in
      inr (inr (inr (first, end, record { reply = reply; tells = d; was = was'; is = is; so = so })))

  pub one_lacked : (key : List ℕ) → body ≡ range_text key → told Range body reply → IsNone d → Lacked told key
  one_lacked key asked was so =
      let was' : told Range (range_text key) reply = subst (λ (b : List ℕ). told Range b reply) asked was in
      inl (record { reply = reply; tells = d; was = was'; is = is; so = so })

  pub page_lacked : (key end : List ℕ) → body ≡ page_text key end → told Range body reply → IsNone d → IsBefore key end → Lacked told key
  page_lacked key end asked was so before =
      let was' : told Range (page_text key end) reply = subst (λ (b : List ℕ). told Range b reply) asked was in
      inr (end, before, record { reply = reply; tells = d; was = was'; is = is; so = so })

-- a log with one entry more
pub noted : (log grown : List (Request × Vec ℕ)) (q : Request) (r : Vec ℕ) → grown ≡ log ++ (q, r) ∷ [] → Logged grown q.target q.body.items r.items
noted log grown q r is =
    (q, r, subst (λ l. Contains l (q, r)) (sym is) (Contains-push log (q, r)), refl, refl, refl)

pub log_stays : (log grown : List (Request × Vec ℕ)) (q : Request) (r : Vec ℕ) → grown ≡ log ++ (q, r) ∷ [] → (t : Target) (body reply : List ℕ) → Logged log t body reply → Logged grown t body reply
log_stays log grown q r is t body reply (x, y, has, at, asked, replied) = (
  x,
  y,
  subst (λ l. Contains l (x, y)) (sym is) (Contains-append_left log ((q, r) ∷ []) (x, y) has),
  at,
  asked,
  replied,
)

-- what was taken from the end of a list of pairs is among them
pub popped : (pairs rest : List Pair) (pair : Pair) (key : List ℕ) → pairs ≡ rest ++ pair ∷ [] → pair.key.items ≡ key → Contains (pairs_of pairs) (key, pair.value.items)
popped pairs rest pair key is same =
    let g : Pair → List ℕ × List ℕ = λ p. (p.key.items, p.value.items) in
    let at : Contains (map g rest ++ g pair ∷ []) (g pair) = Contains-push (map g rest) (g pair) in
    let all : map g pairs ≡ map g rest ++ g pair ∷ [] = ap (map g) is ∙ map-append g rest (pair ∷ []) in
    subst (λ (k : List ℕ). Contains (pairs_of pairs) (k, pair.value.items)) same (subst (λ (ps : List (List ℕ × List ℕ)). Contains ps (g pair)) (sym all) at)

-- what holds of a value holds of one that is more
pub weaker : {T E : Type 0} (P Q : T → Type 0) → ((x : T) → P x → Q x) → (r : Result T E) → IfOk r P → IfOk r Q
weaker P Q more (Ok x) is = more x is
weaker P Q more (Err e) is = tt

pub weaker_some : {T : Type 0} (P Q : T → Type 0) → ((x : T) → P x → Q x) → (o : Option T) → IfSome o P → IfSome o Q
weaker_some P Q more None is = tt
weaker_some P Q more (Some x) is = more x is
