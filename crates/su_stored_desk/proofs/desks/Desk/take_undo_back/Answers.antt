use Rattle.std.proofs.Common.{◌≡◌, ◌∙◌, ◌-◌, Some, None, refl, sym, ap, subst, take}
use Rattle.su_op.specs.Action.{named_key}
use Rattle.su_part_inverse.specs.Kept.{IsPutBack}
use Rattle.su_desk.specs.Desk.{DeskState, with_entry}
use Rattle.su_desk.specs.History.{keys_after}
use Rattle.su_desk.specs.Trial.{tree_of}
use Rattle.su_live.specs.Live.{find_live, without}
use Rattle.su_used_keys.specs.UsedKeys.{HasJust}
use Rattle.su_stored_desk.specs.Keeping.{Keeps, KeptOperation}
use Rattle.su_stored_desk.specs.Right.{state_of}
use Rattle.su_stored_desk.proofs.ByNumber.{insert_found}
use Rattle.su_stored_desk.proofs.NamedKeys.{same_keys}
use Rattle.su_stored_desk.proofs.Rightness.{right_at, shows}
use Rattle.su_stored_desk.proofs.TakingBack.{put_again}
use Rattle.su_stored_desk.proofs.TrialLemmas.{history_before, keeps_seen}
use Rattle.su_stored_forest.proofs.Public.{shows_holds}
use Rattle.su_stored_desk.proofs.desks.Desk.take_undo_back.Goals as goal

pub returns-in-Err-clause-given_back : goal.returns-in-Err-clause-given_back
returns-in-Err-clause-given_back g c = (refl, ap (λ (k : KeptOperation). record c.args.undone { operation = k }) c.in-Err.ensures.given_back)

pub returns-in-Err-clause-right : goal.returns-in-Err-clause-right
returns-in-Err-clause-right g c d e n sure undo is numbers back =
    let s = c.args.self.now in
    right_at _ (state_of s) refl (subst (λ ks. Keeps s.roster s.entries.items ks (tree_of (state_of s))) (sym c.in-Err.ensures.err) sure.right.keeps) sure.right.holds sure.right.counters sure.right.keys

pub unreachable-requires : goal.unreachable-requires
unreachable-requires g c =
    let k = c.args.undone.operation in
    let never : Some k ≡ None = sym (c.in_default-remove.ensures.value ∙ ap (find_live k.number) c.in_default.ensures.ok ∙ (insert_found k c.args.self.now.kept c.in_default.ensures.was).0) in
    cc

pub returns-in-Err-undo-clause-given_back : goal.returns-in-Err-undo-clause-given_back
returns-in-Err-undo-clause-given_back g c =
    let k = c.args.undone.operation in
    let both : Some c.in-Some.operation ≡ Some k = c.in-Some.ensures.value ∙ ap (find_live k.number) c.in_default.ensures.ok ∙ (insert_found k c.args.self.now.kept c.in_default.ensures.was).0 in
    let one : c.in-Some.operation ≡ k = cc in
    (refl, ap (λ (x : KeptOperation). record c.args.undone { operation = x }) one)

pub returns-in-Err-undo-clause-right : goal.returns-in-Err-undo-clause-right
returns-in-Err-undo-clause-right g c d e n sure undo is numbers back =
    let s = c.args.self.now in
    let k = c.args.undone.operation in
    let T = tree_of (state_of s) in
    let kept : c.remove.new.self ≡ s.kept = c.in-Some.ensures.others ∙ ap (without k.number) c.in_default.ensures.ok ∙ (insert_found k s.kept c.in_default.ensures.was).1 in
    right_at _ (state_of s) refl
    (subst (λ ks. Keeps s.roster s.entries.items ks T) (sym kept) sure.right.keeps)
    (shows_holds _ _ _ (c.in-Err-undo.ensures.err T (tree_of d) (shows _ s sure) (subst (λ (y : DeskState). IsPutBack c.args.undone.held (tree_of y) (tree_of d)) (sym is) back.back)))
    sure.right.counters sure.right.keys

pub returns-in-Err-undo-clause-refused : goal.returns-in-Err-undo-clause-refused
returns-in-Err-undo-clause-refused g c d e n sure is back =
    let s = c.args.self.now in
    c.in-Err-undo.ensures.refused (tree_of (state_of s)) (tree_of d) (shows _ s sure)
    (subst (λ (y : DeskState). IsPutBack c.args.undone.held (tree_of y) (tree_of d)) (sym is) back.back)

pub returns-clause-right : goal.returns-clause-right
returns-clause-right g c d e n sure undo is numbers back =
    let s = c.args.self.now in
    let u = c.args.undone in
    let T = tree_of (state_of s) in
    let keeps = put_again d.roster d.history e n u.operation s.kept T undo (keeps_seen s.roster s.entries.items s.kept T (with_entry d e) is sure.right.keeps) back.kept in
    let entries : c.pop.new.self.items ≡ d.history = c.pop.ensures.rest ∙ ap (λ m. take (m - 1) s.entries.items) s.entries.ok.0 ∙ history_before s.roster s.entries.items d e is in
    let roster : s.roster ≡ d.roster = ap (λ (y : DeskState). y.roster) is in
    right_at _ d (λ i. record { roster = roster i; history = entries i })
    (subst (λ ks. Keeps d.roster d.history ks (tree_of d)) (sym c.in_default.ensures.ok) keeps)
    (c.in_default-undo.ensures.done T (tree_of d) (shows _ s sure) (subst (λ (y : DeskState). IsPutBack u.held (tree_of y) (tree_of d)) (sym is) back.back))
    numbers
    (subst (λ ks. HasJust ks s.used) (ap (λ (y : DeskState). keys_after y.roster y.history) is ∙ same_keys d.roster d.history e (ap named_key undo)) sure.right.keys)
