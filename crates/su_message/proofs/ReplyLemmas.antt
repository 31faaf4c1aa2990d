-- Replies: one spelling each.
use Rattle.std.proofs.Common.{◌≡◌, ◌∙◌, ℕ, ◌⊎◌, List, [], ◌∷◌, ◌++◌, append-nil, append_assoc, refl, sym, ap, subst}
use Rattle.std.specs.Prelude.{Result, Ok, Err, IfOk}
use Rattle.su_bytes.specs.declared.refusals.Refusal.{Refusal}
use Rattle.su_bytes.specs.declared.refusals.Refusal.TheVariants.{NoMemory}
use Rattle.su_format.specs.Format.{Format, part, making, ◌>>=◌, IsLawful}
use Rattle.su_format.specs.Part.{u64_bytes, u8_part, u64_part, bytes_part, rest_part, digest_part}
use Rattle.su_format.proofs.Public.{in_order, making_lawful, u8_lawful, u64_lawful, rest_lawful, digest_lawful}
use Rattle.su_message.specs.declared.replies.Reply.{Reply}
use Rattle.su_message.specs.declared.replies.Reply.TheVariants.{Granted, Stored, Given, Kept, Nothing, PutDone, Item, Refused}
use Rattle.su_message.specs.LastNumbers.{users_bytes}
use Rattle.su_message.specs.Tagged.{no_fields, fields_of, ReadsTagged}
use Rattle.su_message.specs.Reply.{IsReply, EndsItself, reply_bytes, reply_kinds}
use Rattle.su_message.proofs.LastNumbersLemmas.{last_of, last_lawful}
use Rattle.su_message.proofs.TaggedLemmas.{of_each, all_lawful, BeginsAs, read_as_spelled, no_more, to_end}

-- ---- fields

fields_lawful : (n : ℕ) → IsLawful (fields_of reply_kinds n)
fields_lawful =
    all_lawful reply_kinds (
      in_order _ _ u64_lawful (λ count. in_order _ _ last_lawful (λ last. making_lawful _)),
      (
        in_order _ _ u64_lawful (λ n. making_lawful _),
        (
          making_lawful _,
          (
            in_order _ _ rest_lawful (λ bytes. making_lawful _),
            (
              making_lawful _,
              (
                in_order _ _ digest_lawful (λ d. making_lawful _),
                (
                  in_order _ _ rest_lawful (λ bytes. making_lawful _),
                  (in_order _ _ u8_lawful (λ n. in_order _ _ u64_lawful (λ a. making_lawful _)), tt),
                ),
              ),
            ),
          ),
        ),
      ),
    )

-- the reply is spelled so
abbrev Spells : List ℕ → Reply → Type 0
Spells message r = IsReply r × (message ≡ reply_bytes r)

-- and the fields of that kind spell replies
abbrev Spelled : ℕ → Format Reply → Type 0
Spelled n f = (bytes : List ℕ) (r : Reply) → f.Begins bytes r [] → Spells (n ∷ bytes) r

fields_spelled : (n : ℕ) → Spelled n (fields_of reply_kinds n)
unfolding no_fields ◌>>=◌ making part u8_part u64_part bytes_part rest_part digest_part
fields_spelled =
    of_each Spelled (λ n bytes r x. absurd x) reply_kinds (
      λ bytes r x.
          let (n, _, (in_n, at_n), (us, between, at_us, (is, end))) = x in
          let u = last_of.spelled _ us between at_us in
          subst (Spells (129 ∷ bytes)) (sym is) ((in_n, u.0), ap (λ l. 129 ∷ l) at_n ∙ ap (λ l. 129 ∷ (u64_bytes n ++ l)) (to_end (users_bytes us) u.1 end)),
      (
        λ bytes r x. subst (Spells (130 ∷ bytes)) (sym x.3.0) (x.2.0, ap (λ l. 130 ∷ l) (to_end (u64_bytes x.0) x.2.1 x.3.1)),
        (
          λ bytes r x. subst (Spells (131 ∷ bytes)) (sym x.0) (tt, ap (λ l. 131 ∷ l) (sym x.1)),
          (
            λ bytes r x. subst (Spells (132 ∷ bytes)) (sym x.3.0) (tt, ap (λ l. 132 ∷ l) (sym x.2.0)),
            (
              λ bytes r x. subst (Spells (133 ∷ bytes)) (sym x.0) (tt, ap (λ l. 133 ∷ l) (sym x.1)),
              (
                λ bytes r x. subst (Spells (134 ∷ bytes)) (sym x.3.0) (x.2.0, ap (λ l. 134 ∷ l) (to_end x.0 x.2.1 x.3.1)),
                (
                  λ bytes r x. subst (Spells (135 ∷ bytes)) (sym x.3.0) (tt, ap (λ l. 135 ∷ l) (sym x.2.0)),
                  (
                    λ bytes r x.
                        let (n, _, (in_n, at_n), (a, _, (in_a, at_a), (is, end))) = x in
                        subst (Spells (255 ∷ bytes)) (sym is) ((in_n, in_a), ap (λ l. 255 ∷ l) at_n ∙ ap (λ l. 255 ∷ n ∷ l) (to_end (u64_bytes a) at_a end)),
                    tt,
                  ),
                ),
              ),
            ),
          ),
        ),
      ),
    )

reply_begins : (r : Reply) → IsReply r → BeginsAs reply_kinds (reply_bytes r) r []
unfolding ◌>>=◌ making part u8_part u64_part bytes_part rest_part digest_part
reply_begins (Granted n us) is =
    (n, users_bytes us, (is.0, refl), (us, [], last_of.begins (users_bytes us) us [] is.1 (sym (append-nil (users_bytes us))), (refl, refl)))
reply_begins (Stored n) is = (n, [], (is, sym (append-nil (u64_bytes n))), (refl, refl))
reply_begins Given is = (refl, refl)
reply_begins (Kept b) is = (b, [], (refl, refl), (refl, refl))
reply_begins Nothing is = (refl, refl)
reply_begins (PutDone d) is = (d, [], (is, sym (append-nil d)), (refl, refl))
reply_begins (Item b) is = (b, [], (refl, refl), (refl, refl))
reply_begins (Refused n a) is = (n, u64_bytes a, (is.0, refl), (a, [], (is.1, sym (append-nil (u64_bytes a))), (refl, refl)))

-- ---- what is read

found : (message : List ℕ) (r : Reply) → ReadsTagged reply_kinds message (Ok r) → IsReply r × (message ≡ reply_bytes r)
found [] r read = absurd read
found (n ∷ rest) r begins = fields_spelled n rest r begins

pub only : (message : List ℕ) (x : Result Reply Refusal) → ReadsTagged reply_kinds message x → (r : Reply) → IsReply r → message ≡ reply_bytes r → (x ≡ Ok r) ⊎ (x ≡ Err NoMemory)
only message x read r is spelled =
    read_as_spelled reply_kinds fields_lawful (reply_bytes r) r x (reply_begins r is) (subst (λ m. ReadsTagged reply_kinds m x) spelled read)

pub found_if : (message : List ℕ) (x : Result Reply Refusal) → ReadsTagged reply_kinds message x → IfOk x (λ r. IsReply r × (message ≡ reply_bytes r))
found_if message (Ok r) read = found message r read
found_if message (Err e) read = tt

-- ---- where a reply ends

begins_more : (r : Reply) → IsReply r → EndsItself r → (more : List ℕ) → BeginsAs reply_kinds (reply_bytes r ++ more) r more
unfolding ◌>>=◌ making part u8_part u64_part bytes_part digest_part
begins_more (Granted n us) is ends more =
    (n, users_bytes us ++ more, (is.0, append_assoc (u64_bytes n) (users_bytes us) more), (us, more, last_of.begins (users_bytes us ++ more) us more is.1 refl, (refl, refl)))
begins_more (Stored n) is ends more = (n, more, (is, refl), (refl, refl))
begins_more Given is ends more = (refl, refl)
begins_more (Kept b) is ends more = absurd ends
begins_more Nothing is ends more = (refl, refl)
begins_more (PutDone d) is ends more = (d, more, (is, refl), (refl, refl))
begins_more (Item b) is ends more = absurd ends
begins_more (Refused n a) is ends more = (n, u64_bytes a ++ more, (is.0, refl), (a, more, (is.1, refl), (refl, refl)))

pub reply_ends : (r s : Reply) (more : List ℕ) → IsReply r → IsReply s → EndsItself r → reply_bytes s ≡ reply_bytes r ++ more → (s ≡ r) × (more ≡ [])
reply_ends r s more is_r is_s ends e =
    no_more reply_kinds fields_lawful (reply_bytes s) s r more (reply_begins s is_s)
    (subst (λ m. BeginsAs reply_kinds m r more) (sym e) (begins_more r is_r ends more))
