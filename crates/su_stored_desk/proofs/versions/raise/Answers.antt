use Rattle.std.proofs.Common.{◌≡◌, zero, ◌∙◌, ℕ, ◌+◌, ◌-◌, ◌<◌, ◌^◌, ◌++◌, ◌∷◌, [], List, map, take, drop, get_or, length, suc, min, sym, ap, subst, arith, drop-cons}
use Rattle.std.proofs.Math.ListN.{set}
use Rattle.std.proofs.lemmas.List.{length-take, length-map}
use Rattle.std.proofs.Math.Seq.{get_or-append_seam}
use Rattle.su_bytes.specs.declared.principals.Principal.{Principal}
use Rattle.su_desk.specs.Version.{raised}
use Rattle.su_desk.proofs.VersionNumbers.{next_changed, raised_one, raised_none}
use Rattle.su_stored_desk.proofs.versions.raise.Goals as goal
use Rattle.su_stored_desk.proofs.versions.raise.Goals.{then-raises, else-raises}

-- what wasn't raised yet is what it was
still_there : {A : Type 0} (f : A → A) (xs now : List A) (i : ℕ) (x : A) → i < length now → length now ≡ length xs → now ≡ map f (take i xs) ++ drop i xs → get_or now i x ≡ get_or xs i x
still_there f xs now i x within long is =
    let inside : i < length xs = omega arith in
    let front : length (map f (take i xs)) ≡ i = length-map (take i xs) f ∙ length-take i xs ∙ omega arith in
    ap (λ zs. get_or zs i x) (is ∙ ap (λ zs. map f (take i xs) ++ zs) (drop-cons xs i x inside))
    ∙ ap (λ n. get_or (map f (take i xs) ++ get_or xs i x ∷ drop (suc i) xs) n x) (sym front)
    ∙ get_or-append_seam (map f (take i xs)) (get_or xs i x) (drop (suc i) xs) x

-- a number below the last one is raised by one
saturated : (n k : ℕ) → n + 1 < 2 ^ 64 → k ≡ min (n + 1) (2 ^ 64 - 1) → k ≡ n + 1
saturated n k small is = omega arith

-- where one is set again with the same principal, the principals are the same
first_kept : (xs : List (Principal × ℕ)) (i : ℕ) (y x : Principal × ℕ) → i < length xs → x ≡ get_or xs i x → y.0 ≡ x.0 → map (λ v. v.0) (set xs i y) ≡ map (λ v. v.0) xs
first_kept [] i y x within here same = absurd (omega arith)
first_kept (z ∷ xs) zero y x within here same = ap (λ p. p ∷ map (λ v. v.0) xs) (same ∙ ap (λ v. v.0) here)
first_kept (z ∷ xs) (suc i) y x within here same = ap (λ ps. z.0 ∷ ps) (first_kept xs i y x (omega arith) here same)

pub loop-version-preserved : goal.loop-version-preserved
loop-version-preserved c = record {
  raised = λ small.
      let a = c.args.author in
      let w = c.args.written.now in
      let l = c.loop-version in
      let x = c.version-item.result in
      let within : l.version-index < length l.versions = omega (arith, c.loop-version-test.true, l.auto.versions) in
      let here : x ≡ get_or c.args.versions.now l.version-index x = c.version-item.is ∙ still_there (raised a w) c.args.versions.now l.versions l.version-index x within l.auto.versions (l.invariant.raised small) in
      let fits : x.1 + 1 < 2 ^ 64 = subst (λ (v : Principal × ℕ). v.1 + 1 < 2 ^ 64) (sym here) (small l.version-index x c.loop-version-test.true) in
      elim c.if-raises.branch [
        | then-raises b ↦ b.versions-is
            ∙ next_changed (raised a w) c.args.versions.now l.versions l.version-index x _ within l.auto.versions (l.invariant.raised small) c.version-item.is
            (let more : b.saturating_add-version.result ≡ (get_or l.versions l.version-index x).1 + 1 = saturated _ _ (subst (λ (v : Principal × ℕ). v.1 + 1 < 2 ^ 64) c.version-item.is fits) b.saturating_add-version.ensures in
            ap (λ n. ((get_or l.versions l.version-index x).0, n)) more
            ∙ raised_one a w x (get_or l.versions l.version-index x) c.raises.result c.raises.ensures b.if-raises.true c.version-item.is)
        | else-raises b ↦ b.versions-is
            ∙ next_changed (raised a w) c.args.versions.now l.versions l.version-index x _ within l.auto.versions (l.invariant.raised small) c.version-item.is
            (raised_none a w x _ c.raises.result c.raises.ensures b.if-raises.false c.version-item.is)
      ];
  same = elim c.if-raises.branch [
    | then-raises b ↦ ap (map (λ v. v.0)) b.versions-is ∙ first_kept c.loop-version.versions c.loop-version.version-index _ c.version-item.result (omega (arith, c.loop-version-test.true, c.loop-version.auto.versions)) c.version-item.is (ap (λ (v : Principal × ℕ). v.0) (sym c.version-item.is)) ∙ c.loop-version.invariant.same
    | else-raises b ↦ ap (map (λ v. v.0)) b.versions-is ∙ first_kept c.loop-version.versions c.loop-version.version-index _ c.version-item.result (omega (arith, c.loop-version-test.true, c.loop-version.auto.versions)) c.version-item.is (ap (λ (v : Principal × ℕ). v.0) (sym c.version-item.is)) ∙ c.loop-version.invariant.same
  ];
}
