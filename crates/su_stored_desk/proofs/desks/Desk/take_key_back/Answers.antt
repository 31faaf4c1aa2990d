use Rattle.std.proofs.Common.{◌≡◌, ◌∙◌, ◌-◌, ◌++◌, ◌∷◌, [], ap, subst, take}
use Rattle.su_desk.specs.Desk.{DeskState, with_entry}
use Rattle.su_desk.specs.History.{keys_after}
use Rattle.su_desk.specs.Trial.{tree_of}
use Rattle.su_used_keys.specs.UsedKeys.{HasJust}
use Rattle.su_stored_desk.specs.Right.{state_of}
use Rattle.su_stored_desk.proofs.NamedKeys.{key_taken_back, one_key_more}
use Rattle.su_stored_desk.proofs.Rightness.{keeps_tree, right_at}
use Rattle.su_stored_desk.proofs.TrialLemmas.{history_before, keeps_seen}
use Rattle.su_stored_forest.specs.Shows.{Holds}
use Rattle.su_stored_desk.specs.Keeping.{Keeps}
use Rattle.su_stored_desk.proofs.desks.Desk.take_key_back.Goals as goal

pub returns-clause-right : goal.returns-clause-right
returns-clause-right g c d e right named is numbers =
    let s = c.args.self.now in
    let k = c.args.key.now in
    let T = tree_of (state_of s) in
    let p = key_taken_back d.roster d.history e k s.kept T named
    (keeps_seen s.roster s.entries.items s.kept T (with_entry d e) is right.keeps) in
    let tree : T ≡ tree_of d = keeps_tree d.roster d.history s.kept T p.keeps in
    let entries : c.pop.new.self.items ≡ d.history = c.pop.ensures.rest ∙ ap (λ m. take (m - 1) s.entries.items) s.entries.ok.0 ∙ history_before s.roster s.entries.items d e is in
    let roster : s.roster ≡ d.roster = ap (λ (y : DeskState). y.roster) is in
    let keys : keys_after s.roster s.entries.items ≡ keys_after d.roster d.history ++ k ∷ []
    = ap (λ (y : DeskState). keys_after y.roster y.history) is ∙ one_key_more d.roster d.history e k named in
    right_at _ d (λ i. record { roster = roster i; history = entries i })
    (subst (Keeps d.roster d.history s.kept) tree p.keeps)
    (subst (Holds s.stored) tree right.holds)
    numbers
    (c.remove.ensures (keys_after d.roster d.history) p.unused (subst (λ ks. HasJust ks s.used) keys right.keys))
