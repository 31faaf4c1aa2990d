-- Requests: one spelling each.
use Rattle.std.proofs.Common.{◌≡◌, ℕ, ◌⊎◌, List, [], ◌∷◌, ◌++◌, append-nil, refl, sym, ap, subst}
use Rattle.std.specs.Prelude.{Result, Ok, Err, IfOk}
use Rattle.su_bytes.specs.declared.refusals.Refusal.{Refusal}
use Rattle.su_bytes.specs.declared.refusals.Refusal.TheVariants.{NoMemory}
use Rattle.su_format.specs.Format.{part, making, ◌>>=◌, IsLawful}
use Rattle.su_format.specs.Part.{u64_bytes, u64_part, bytes_part, rest_part, digest_part}
use Rattle.su_format.proofs.Public.{in_order, making_lawful, u64_lawful, rest_lawful, digest_lawful}
use Rattle.su_message.specs.declared.requests.Request.{Request}
use Rattle.su_message.specs.declared.requests.Request.TheVariants.{Grant, Commit, Give, Fetch, Put, Get}
use Rattle.su_message.specs.Tagged.{no_fields, fields_of, ReadsTagged}
use Rattle.su_message.specs.Request.{IsRequest, EndsItself, request_bytes, request_kinds}
use Rattle.su_message.proofs.TaggedLemmas.{of_each, all_lawful, BeginsAs, begins_read, read_as_spelled, no_more, to_end}

-- ---- fields

pub fields_lawful : (n : ℕ) → IsLawful (fields_of request_kinds n)
fields_lawful =
    all_lawful request_kinds (
      making_lawful _,
      (
        in_order _ _ rest_lawful (λ bytes. making_lawful _),
        (
          making_lawful _,
          (
            in_order _ _ u64_lawful (λ n. making_lawful _),
            (
              in_order _ _ rest_lawful (λ bytes. making_lawful _),
              (in_order _ _ digest_lawful (λ d. making_lawful _), tt),
            ),
          ),
        ),
      ),
    )

-- the request is spelled so
abbrev Spells : List ℕ → Request → Type 0
Spells message q = IsRequest q × (message ≡ request_bytes q)

fields_spelled : (n : ℕ) (bytes : List ℕ) (q : Request) → (fields_of request_kinds n).Begins bytes q [] → Spells (n ∷ bytes) q
unfolding no_fields ◌>>=◌ making part u64_part bytes_part rest_part digest_part
fields_spelled =
    of_each (λ n f. (bytes : List ℕ) (q : Request) → f.Begins bytes q [] → Spells (n ∷ bytes) q) (λ n bytes q x. absurd x) request_kinds (
      λ bytes q x. subst (Spells (1 ∷ bytes)) (sym x.0) (tt, ap (λ l. 1 ∷ l) (sym x.1)),
      (
        λ bytes q x. subst (Spells (2 ∷ bytes)) (sym x.3.0) (tt, ap (λ l. 2 ∷ l) (sym x.2.0)),
        (
          λ bytes q x. subst (Spells (3 ∷ bytes)) (sym x.0) (tt, ap (λ l. 3 ∷ l) (sym x.1)),
          (
            λ bytes q x. subst (Spells (4 ∷ bytes)) (sym x.3.0) (x.2.0, ap (λ l. 4 ∷ l) (to_end (u64_bytes x.0) x.2.1 x.3.1)),
            (
              λ bytes q x. subst (Spells (5 ∷ bytes)) (sym x.3.0) (tt, ap (λ l. 5 ∷ l) (sym x.2.0)),
              (λ bytes q x. subst (Spells (6 ∷ bytes)) (sym x.3.0) (x.2.0, ap (λ l. 6 ∷ l) (to_end x.0 x.2.1 x.3.1)), tt),
            ),
          ),
        ),
      ),
    )

request_begins : (q : Request) → IsRequest q → BeginsAs request_kinds (request_bytes q) q []
unfolding ◌>>=◌ making part u64_part bytes_part rest_part digest_part
request_begins Grant is = (refl, refl)
request_begins (Commit b) is = (b, [], (refl, refl), (refl, refl))
request_begins Give is = (refl, refl)
request_begins (Fetch n) is = (n, [], (is, sym (append-nil (u64_bytes n))), (refl, refl))
request_begins (Put b) is = (b, [], (refl, refl), (refl, refl))
request_begins (Get d) is = (d, [], (is, sym (append-nil d)), (refl, refl))

-- ---- what is read

found : (message : List ℕ) (q : Request) → ReadsTagged request_kinds message (Ok q) → IsRequest q × (message ≡ request_bytes q)
found [] q read = absurd read
found (n ∷ rest) q begins = fields_spelled n rest q begins

pub only : (message : List ℕ) (r : Result Request Refusal) → ReadsTagged request_kinds message r → (q : Request) → IsRequest q → message ≡ request_bytes q → (r ≡ Ok q) ⊎ (r ≡ Err NoMemory)
only message r read q is spelled =
    read_as_spelled request_kinds fields_lawful (request_bytes q) q r (request_begins q is) (subst (λ m. ReadsTagged request_kinds m r) spelled read)

pub found_if : (message : List ℕ) (r : Result Request Refusal) → ReadsTagged request_kinds message r → IfOk r (λ q. IsRequest q × (message ≡ request_bytes q))
found_if message (Ok q) read = found message q read
found_if message (Err e) read = tt

pub request_read : (q : Request) → IsRequest q → ReadsTagged request_kinds (request_bytes q) (Ok q)
request_read q is = begins_read request_kinds (request_bytes q) q (request_begins q is)

-- ---- where a request ends

begins_more : (q : Request) → IsRequest q → EndsItself q → (more : List ℕ) → BeginsAs request_kinds (request_bytes q ++ more) q more
unfolding ◌>>=◌ making part u64_part bytes_part digest_part
begins_more Grant is ends more = (refl, refl)
begins_more (Commit b) is ends more = absurd ends
begins_more Give is ends more = (refl, refl)
begins_more (Fetch n) is ends more = (n, more, (is, refl), (refl, refl))
begins_more (Put b) is ends more = absurd ends
begins_more (Get d) is ends more = (d, more, (is, refl), (refl, refl))

pub request_ends : (q p : Request) (more : List ℕ) → IsRequest q → IsRequest p → EndsItself q → request_bytes p ≡ request_bytes q ++ more → (p ≡ q) × (more ≡ [])
request_ends q p more is_q is_p ends e =
    no_more request_kinds fields_lawful (request_bytes p) p q more (request_begins p is_p)
    (subst (λ m. BeginsAs request_kinds m q more) (sym e) (begins_more q is_q ends more))
