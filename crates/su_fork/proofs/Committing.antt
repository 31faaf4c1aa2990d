-- A commit that is made and then taken, as events.
use Rattle.std.proofs.Common.{◌≡◌, ℕ, Bool, true, false, cond, List, [], ◌∷◌, ◌++◌, nat_eq, refl, sym, ap, ◌∙◌, subst, append_assoc, append-nil, inl, inr, arith}
use Rattle.std.specs.List.{flat_map, Contains}
use Rattle.std.specs.Prelude.{◌⊎◌}
use Rattle.std.proofs.lemmas.Grind.{flat_map-append}
use Rattle.std.proofs.lemmas.List.Elements.{Contains-append_left, Contains-append_right, Contains-append_cases}
use Rattle.std.proofs.lemmas.Bool.{eq-eqb}
use Rattle.su_version.specs.Version.{Version}
use Rattle.su_legal.specs.Legal.{Committed, author_of, LegalAfter, MayJoin}
use Rattle.su_legal.specs.Act.{Act.Takes, Act.Signs}
use Rattle.su_legal.proofs.Public.{only_in}
use Rattle.su_view.specs.Holding.{MaySign}
use Rattle.su_fork.specs.Events.{World, Event, taking, signing, taken, list_of, all_taken, signed_by, versions_of, Run}
use Rattle.su_fork.specs.Premises.{NoForgery}
use Rattle.su_fork.specs.Calls.{holding_after, committing, CommitsIn}
use Rattle.su_fork.proofs.Runs.{run_more, list_own, is_held, taken_held}
use Rattle.su_fork.proofs.OwnKeys.{all_signed}

pub none_forged : (w : World) → Run w [] × NoForgery w [] (all_taken [])
none_forged w = (tt, record { signed = λ c key honest (i, l, e) own is. absurd (omega (arith, l)) })

module _ (w : World) (es : List Event) (k : ℕ) (c : Committed) where
  abbrev v : Version
  v = c.commit.version

  signs : Event
  signs = signing k v

  takes : Event
  takes = taking k (c ∷ [])

  both : (es ++ signing k v ∷ []) ++ taking k (c ∷ []) ∷ [] ≡ es ++ committing k c
  both = append_assoc es (signing k v ∷ []) (taking k (c ∷ []) ∷ [])

  held_so : list_of k (es ++ signing k v ∷ []) ≡ list_of k es
  held_so = list_own k es (Signs v) ∙ append-nil (list_of k es)

  held_then : list_of k (es ++ committing k c) ≡ list_of k es ++ c ∷ []
  held_then = ap (list_of k) (sym both) ∙ list_own k (es ++ signing k v ∷ []) (Takes (c ∷ [])) ∙ ap (λ l. l ++ c ∷ []) held_so

  taken_then : all_taken (es ++ committing k c) ≡ all_taken es ++ c ∷ []
  taken_then = flat_map-append (λ (e : Event). taken e.act) es (committing k c)

  signed_before : (u : ℕ) (x : Version) → Contains (versions_of w u es) x → Contains (versions_of w u (es ++ committing k c)) x
  unfolding versions_of
  signed_before u x there =
      subst (λ l. Contains l x) (sym (flat_map-append (signed_by w u) es (committing k c))) (Contains-append_left (flat_map (signed_by w u) es) (flat_map (signed_by w u) (committing k c)) x there)

  first_of : (b : Bool) (rest : List Version) → b ≡ true → Contains (cond b (v ∷ []) [] ++ rest) v
  first_of true rest is = (0, omega arith, refl)
  first_of false rest is = absurd cc

  signed_now : Contains (versions_of w (w.user k) (es ++ committing k c)) v
  unfolding versions_of
  signed_now =
      subst (λ l. Contains l v) (sym (flat_map-append (signed_by w (w.user k)) es (committing k c)))
      (Contains-append_right (flat_map (signed_by w (w.user k)) es) (flat_map (signed_by w (w.user k)) (committing k c)) v
      (first_of (nat_eq (w.user k) (w.user k)) (flat_map (signed_by w (w.user k)) (taking k (c ∷ []) ∷ [])) (eq-eqb (w.user k) (w.user k) refl)))

  pub commits_in : Run w es → NoForgery w es (all_taken es) → w.honest (w.user k) ≡ true → MaySign (holding_after w es k 0) v → MayJoin w.roster (list_of k es) c → CommitsIn w es k c
  commits_in r none h may joins = record {
    run = subst (Run w) both
        (run_more w (es ++ signing k v ∷ []) (taking k (c ∷ [])) (run_more w es (signing k v) r h may) h
        (subst (λ l. LegalAfter w.roster l (c ∷ [])) (sym held_so) (joins, tt)));
    no_forgery = record { signed = λ d key honest there own is. go d honest (Contains-append_cases (all_taken es) (c ∷ []) d (subst (λ l. Contains l d) taken_then there)) };
    signed = signed_now;
    held = held_then;
  }
    where
      go : (d : Committed) → w.honest (author_of d) ≡ true → Contains (all_taken es) d ⊎ Contains (c ∷ []) d
          → Contains (versions_of w (author_of d) (es ++ committing k c)) d.commit.version
      go d honest (inl before) =
          let (j, held) = taken_held es d before in
          signed_before (author_of d) d.commit.version
          (all_signed w es (all_taken es) none (author_of d) (list_of j es) (is_held w es es [] j r (sym (append-nil es))) honest d held refl)
      go d honest (inr here) =
          let same : d ≡ c = sym (only_in c d here) in
          subst (λ (x : Committed). Contains (versions_of w (author_of x) (es ++ committing k c)) x.commit.version) (sym same)
          (subst (λ u. Contains (versions_of w u (es ++ committing k c)) v) (sym may.0) signed_now)
