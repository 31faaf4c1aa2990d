-- Calls of views as events; and a server that shows two lists.
use Rattle.std.proofs.Common.{◌≡◌, ◌≢◌, ℕ, true, List, [], ◌∷◌, ◌++◌, refl, sym, ap, ◌∙◌, subst, append_assoc, append-nil}
use Rattle.su_version.specs.Version.{Version}
use Rattle.su_legal.specs.Legal.{Committed, LegalAfter, Legal}
use Rattle.su_legal.specs.Act.{Act, Act.Takes, Act.Signs}
use Rattle.su_view.specs.Holding.{HoldingState, Took, MaySign}
use Rattle.su_view.specs.Acting.{after, Does}
use Rattle.su_fork.specs.Events.{World, Event, taking, signing, list_of, Run}
use Rattle.su_fork.specs.Calls.{holding_after, acting, Shown}
use Rattle.su_fork.proofs.Runs.{run_more, list_own, list_other}

none_held : (k : ℕ) → list_of k [] ≡ []
unfolding list_of
none_held k = refl

-- what client k holds when it holds this list
abbrev holding : World → ℕ → ℕ → List Committed → HoldingState
holding w k n list = record { roster = w.roster; user = w.user k; held = list; itemless = n }

pub at_first : (w : World) (k n : ℕ) → holding_after w [] k n ≡ record { roster = w.roster; user = w.user k; held = []; itemless = n }
at_first w k n = ap (holding w k n) (none_held k)

pub taking_runs : (w : World) (es : List Event) (k n : ℕ) (v : HoldingState) (more : List Committed) → Run w es → w.honest (w.user k) ≡ true
    → Took (holding_after w es k n) more v → Run w (es ++ taking k more ∷ []) × (v ≡ holding_after w (es ++ taking k more ∷ []) k n)
taking_runs w es k n v more r h t = (run_more w es (taking k more) r h t.may, t.becomes ∙ ap (holding w k n) (sym (list_own k es (Takes more))))

pub signing_runs : (w : World) (es : List Event) (k n : ℕ) (s : Version) → Run w es → w.honest (w.user k) ≡ true → MaySign (holding_after w es k n) s
    → Run w (es ++ signing k s ∷ []) × (holding_after w (es ++ signing k s ∷ []) k n ≡ holding_after w es k n)
signing_runs w es k n s r h m =
    (run_more w es (signing k s) r h m, ap (holding w k n) (list_own k es (Signs s) ∙ append-nil (list_of k es)))

pub others_stay : (w : World) (es : List Event) (j k n : ℕ) (x : Act) → j ≢ k → holding_after w (es ++ record { client = k; act = x } ∷ []) j n ≡ holding_after w es j n
others_stay w es j k n x other = ap (holding w j n) (list_other j k es x other)

-- ---- acts

-- what client k holds after one act more
after_is : (w : World) (es : List Event) (k n : ℕ) (act : Act) → after (holding_after w es k n) act ≡ holding_after w (es ++ record { client = k; act = act } ∷ []) k n
after_is w es k n (Takes more) = ap (holding w k n) (sym (list_own k es (Takes more)))
after_is w es k n (Signs s) = ap (holding w k n) (sym (list_own k es (Signs s) ∙ append-nil (list_of k es)))

pub acting_runs : (w : World) (es : List Event) (k n : ℕ) (acts : List Act) (v : HoldingState) → Run w es → w.honest (w.user k) ≡ true
    → Does (holding_after w es k n) acts v → Run w (es ++ acting k acts) × (v ≡ holding_after w (es ++ acting k acts) k n)
acting_runs w es k n [] v r h is = (subst (λ x. Run w x) (sym (append-nil es)) r, is ∙ ap (λ x. holding_after w x k n) (sym (append-nil es)))
acting_runs w es k n (act ∷ acts) v r h (may, rest) =
    let one : Event = record { client = k; act = act } in
    let more = acting_runs w (es ++ one ∷ []) k n acts v (run_more w es one r h may) h (subst (λ (u : HoldingState). Does u acts v) (after_is w es k n act) rest) in
    let same = append_assoc es (one ∷ []) (acting k acts) in
    (subst (λ x. Run w x) same more.0, more.1 ∙ ap (λ x. holding_after w x k n) same)

-- ---- a server may show any legal lists

pub can_show : (w : World) (j k : ℕ) (xs ys : List Committed) → j ≢ k → w.honest (w.user j) ≡ true → w.honest (w.user k) ≡ true
    → Legal w.roster xs → Legal w.roster ys → Shown w j xs k ys
can_show w j k xs ys n hj hk lx ly =
    let first = run_more w [] (taking j xs) tt hj (subst (λ l. LegalAfter w.roster l xs) (sym (none_held j)) lx) in
    let apart : k ≢ j = λ e. n (sym e) in
    let empty : list_of k ([] ++ taking j xs ∷ []) ≡ [] = list_other k j [] (Takes xs) apart ∙ none_held k in
    let one : List Event = [] ++ taking j xs ∷ [] in
    record {
      events = one ++ taking k ys ∷ [];
      run = run_more w one (taking k ys) first hk (subst (λ l. LegalAfter w.roster l ys) (sym empty) ly);
      first = list_other j k one (Takes ys) n ∙ list_own j [] (Takes xs) ∙ ap (λ l. l ++ xs) (none_held j);
      second = list_own k one (Takes ys) ∙ ap (λ l. l ++ ys) empty;
    }
