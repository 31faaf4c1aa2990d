use Rattle.std.proofs.Common.{◌≡◌, ◌∙◌, List, ℕ, Some, sym, ap, subst}
use Rattle.std.specs.Option.{option_map}
use Rattle.su_op.specs.Area.{has}
use Rattle.su_table.specs.Tree.{Tree}
use Rattle.su_part_inverse.specs.Kept.{IsPutBack}
use Rattle.su_part_inverse.specs.Packed.{KeepsAlike}
use Rattle.su_part_inverse.specs.declared.inverses.Inverse.{Inverse}
use Rattle.su_live.specs.Live.{find_live, with_inverse}
use Rattle.su_live.proofs.Public.{no_inverse_put}
use Rattle.su_stored_desk.specs.Keeping.{KeptOperation, PutsBack}
use Rattle.su_stored_desk.proofs.ByNumber.{none_taken, put_own, put_twice, taken}
use Rattle.su_stored_desk.proofs.desks.Desk.put_back.Goals as goal

-- what keeps alike puts the same back
alike : (i j : Inverse) (F T : Tree) → KeepsAlike i j → IsPutBack i F T → IsPutBack j F T
alike i j F T a back = record { kept = a.kept T back.kept; others = λ c out. back.others c (ap (λ w. has w c) (sym a.areas) ∙ out) }

-- so does what was taken from an operation's place
lent : (ks : List KeptOperation) (n : ℕ) (i j : Inverse) (F T : Tree) → Some i ≡ option_map (λ (k : KeptOperation). k.inverse) (find_live n ks) → KeepsAlike i j → PutsBack ks n F T → IsPutBack j F T
lent ks n i j F T is a puts =
    let t = taken n ks i is in
    let both : Some puts.operation ≡ Some t.operation = sym puts.there ∙ t.found in
    let one : puts.operation ≡ t.operation = cc in
    alike i j F T a (subst (λ (x : Inverse). IsPutBack x F T) (ap (λ (x : KeptOperation). x.inverse) one ∙ sym t.same) puts.back)

-- what was taken comes back to its place
again : (ks ls : List KeptOperation) (n : ℕ) (i j e : Inverse) → Some i ≡ option_map (λ (k : KeptOperation). k.inverse) (find_live n ks) → ls ≡ with_inverse n e ks → j ≡ i → with_inverse n j ls ≡ ks
again ks ls n i j e is without same =
    let t = taken n ks i is in
    ap (with_inverse n j) without ∙ put_twice n e j ks ∙ ap (λ x. with_inverse n x ks) (same ∙ t.same) ∙ put_own n ks t.operation t.found

pub returns-in_default-clause-same : goal.returns-in_default-clause-same
returns-in_default-clause-same g c =
    let s = c.args.self.now in
    ap (λ ks. record s { kept = ks }) (c.in_default.ensures.others ∙ no_inverse_put c.args.number c.nothing-nothing.result s.kept (none_taken c.args.number s.kept c.in_default.ensures.value))

pub returns-in-Ok-clause-same : goal.returns-in-Ok-clause-same
returns-in-Ok-clause-same g c =
    let s = c.args.self.now in
    ap (λ ks. record s { kept = ks; stored = c.undo-answer.new.self })
    (c.replace_inverse-in-Ok.ensures.others ∙ again s.kept c.replace_inverse.new.self c.args.number c.in-Some.kept c.close.result c.nothing-nothing.result c.in-Some.ensures.value c.in-Some.ensures.others (c.close.ensures ∙ c.in-Ok.ensures.opened))

pub returns-in-Err-clause-same : goal.returns-in-Err-clause-same
returns-in-Err-clause-same g c =
    let s = c.args.self.now in
    ap (λ ks. record s { kept = ks })
    (c.replace_inverse-in-Err.ensures.others ∙ again s.kept c.replace_inverse.new.self c.args.number c.in-Some.kept c.in-Err.kept c.nothing-nothing.result c.in-Some.ensures.value c.in-Some.ensures.others c.in-Err.ensures.given_back)

pub returns-in-Ok-clause-done : goal.returns-in-Ok-clause-done
returns-in-Ok-clause-done g c F T shown puts =
    let s = c.args.self.now in
    c.undo-answer.ensures.done F T shown
    (lent s.kept c.args.number c.in-Some.kept c.inverse.result.now F T c.in-Some.ensures.value (subst (λ i. KeepsAlike i c.inverse.result.now) c.in-Ok.ensures.opened c.inverse.ensures) puts)

pub returns-in-Ok-clause-err : goal.returns-in-Ok-clause-err
returns-in-Ok-clause-err g c F T shown puts =
    let s = c.args.self.now in
    c.undo-answer.ensures.err F T shown
    (lent s.kept c.args.number c.in-Some.kept c.inverse.result.now F T c.in-Some.ensures.value (subst (λ i. KeepsAlike i c.inverse.result.now) c.in-Ok.ensures.opened c.inverse.ensures) puts)

pub returns-in-Ok-clause-refused : goal.returns-in-Ok-clause-refused
returns-in-Ok-clause-refused g c F T shown puts =
    let s = c.args.self.now in
    c.undo-answer.ensures.refused F T shown
    (lent s.kept c.args.number c.in-Some.kept c.inverse.result.now F T c.in-Some.ensures.value (subst (λ i. KeepsAlike i c.inverse.result.now) c.in-Ok.ensures.opened c.inverse.ensures) puts)
