use Rattle.std.proofs.Common.{◌∙◌, [], map, sym, ap, subst, append-nil}
use Rattle.su_bytes.specs.Keys.{roster_keys}
use Rattle.su_bytes.specs.Principal.{principals}
use Rattle.su_used_keys.specs.UsedKeys.{HasJust}
use Rattle.su_table.specs.Tree.{genesis}
use Rattle.su_desk.specs.Applied.{tree_after}
use Rattle.su_stored_desk.specs.Keeping.{Keeps}
use Rattle.su_stored_desk.proofs.KeptOperations.{keeps_nothing}
use Rattle.su_stored_desk.proofs.Rightness.{at_tree, keeps_tree, right_at}
use Rattle.su_stored_desk.proofs.TrialLemmas.{numbers_first}
use Rattle.su_stored_forest.specs.Shows.{Holds}
use Rattle.su_stored_desk.proofs.desks.Desk.new.Goals as goal

pub returns-clause-right : goal.returns-clause-right
returns-clause-right g c =
    let ro = c.args.roster in
    right_at _ (record { roster = ro; history = [] }) (ap (λ h. record { roster = ro; history = h }) c.new.ensures.items)
    (subst (λ ks. Keeps ro [] ks (tree_after ro [])) (sym c.new-2.ensures) (at_tree ro [] [] genesis (keeps_nothing ro)))
    (subst (Holds c.in_ok-stored.stored) (keeps_tree ro [] [] genesis (keeps_nothing ro)) c.in_ok-stored.ensures.holds)
    c.in_ok-counters.ensures.value
    (subst (λ ks. HasJust ks c.in_ok-used.used) (sym (append-nil (roster_keys ro))) c.in_ok-used.ensures.value)

pub returns-clause-numbers : goal.returns-clause-numbers
returns-clause-numbers g c = ap (map (λ v. v.0)) c.in_ok-counters.ensures.value ∙ numbers_first c.args.roster [] (principals c.args.roster)
