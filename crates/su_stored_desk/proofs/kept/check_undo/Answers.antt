use Rattle.std.proofs.Common.{◌≡◌, ◌∙◌, ℕ, List, None, Some, cond, true, sym, ap, rules}
use Rattle.std.specs.Option.{option_or}
use Rattle.su_bytes.specs.Membership.{Membership, has_user}
use Rattle.su_bytes.specs.declared.refusals.Refusal.{Refusal}
use Rattle.su_bytes.specs.declared.refusals.Refusal.TheVariants.{NoUser, NotAuthor}
use Rattle.su_desk.specs.declared.entries.Entry.{Entry}
use Rattle.su_desk.specs.History.{entry_at}
use Rattle.su_desk.specs.Blocker.{blocker}
use Rattle.su_desk.specs.Answer.{author_refusal, blocked_refusal, live_refusal, undo_refusal}
use Rattle.su_desk.proofs.LiveNumbers.{by_blocker_alone}
use Rattle.su_stored_desk.proofs.ByNumber.{blocker_kept}
use Rattle.su_stored_desk.proofs.TrialLemmas.{refused_by}
use Rattle.su_stored_desk.proofs.kept.check_undo.Goals as goal

-- it is no live operation
by_live : (ro : Membership) (h : List Entry) (a n : ℕ) (r : Refusal) → has_user ro a ≡ true → live_refusal h n ≡ Some r → undo_refusal ro h a n ≡ Some r
by_live ro h a n r known is =
    ap (λ b. cond b (option_or (live_refusal h n) (option_or (author_refusal a (entry_at h n)) (blocked_refusal (blocker ro h n)))) (Some (NoUser a))) known
    ∙ ap (λ o. option_or o (option_or (author_refusal a (entry_at h n)) (blocked_refusal (blocker ro h n)))) is

-- it is another's
by_author : (ro : Membership) (h : List Entry) (a n : ℕ) (r : Refusal) → has_user ro a ≡ true → live_refusal h n ≡ None → author_refusal a (entry_at h n) ≡ Some r → undo_refusal ro h a n ≡ Some r
by_author ro h a n r known live is =
    ap (λ b. cond b (option_or (live_refusal h n) (option_or (author_refusal a (entry_at h n)) (blocked_refusal (blocker ro h n)))) (Some (NoUser a))) known
    ∙ ap (λ o. option_or o (option_or (author_refusal a (entry_at h n)) (blocked_refusal (blocker ro h n)))) live
    ∙ ap (λ o. option_or o (blocked_refusal (blocker ro h n))) is

pub returns-in_err-check_live-clause-refused : goal.returns-in_err-check_live-clause-refused
returns-in_err-check_live-clause-refused c kept =
    let known : has_user c.args.roster.now c.args.author ≡ true = search rules in
    refused_by (λ e. undo_refusal c.args.roster.now c.args.entries.now c.args.author c.args.number ≡ Some e) c.from_residual.result c.in_err-check_live.field-0.0 c.from_residual.ensures.1
    (by_live c.args.roster.now c.args.entries.now c.args.author c.args.number c.in_err-check_live.field-0.0 known (c.in_err-check_live.ensures.refused c.args.roster.now kept))

pub returns-then-ne-clause-refused : goal.returns-then-ne-clause-refused
returns-then-ne-clause-refused c kept =
    let known : has_user c.args.roster.now c.args.author ≡ true = search rules in
    let other : author_refusal c.args.author (entry_at c.args.entries.now c.args.number) ≡ Some (NotAuthor c.author-then-ne.result) = search rules in
    by_author c.args.roster.now c.args.entries.now c.args.author c.args.number (NotAuthor c.author-then-ne.result) known (c.in_ok-check_live.ensures.live c.args.roster.now kept) other

pub returns-in-Some-blocker-clause-refused : goal.returns-in-Some-blocker-clause-refused
returns-in-Some-blocker-clause-refused c kept =
    let known : has_user c.args.roster.now c.args.author ≡ true = search rules in
    let own : author_refusal c.args.author (entry_at c.args.entries.now c.args.number) ≡ None = search rules in
    let blocks : c.blocker.result ≡ blocker c.args.roster.now c.args.entries.now c.args.number
    = c.blocker.ensures ∙ blocker_kept c.args.roster.now c.args.entries.now c.args.kept.now kept.0 c.args.number kept.1 c.in_ok-check_live.ensures.kept in
    by_blocker_alone c.args.roster.now c.args.entries.now c.args.author c.args.number known (c.in_ok-check_live.ensures.live c.args.roster.now kept) own ∙ ap blocked_refusal (sym blocks ∙ c.in-Some-blocker.is)

pub returns-in-None-clause-accepted : goal.returns-in-None-clause-accepted
returns-in-None-clause-accepted c kept =
    let known : has_user c.args.roster.now c.args.author ≡ true = search rules in
    let own : author_refusal c.args.author (entry_at c.args.entries.now c.args.number) ≡ None = search rules in
    let blocks : c.blocker.result ≡ blocker c.args.roster.now c.args.entries.now c.args.number
    = c.blocker.ensures ∙ blocker_kept c.args.roster.now c.args.entries.now c.args.kept.now kept.0 c.args.number kept.1 c.in_ok-check_live.ensures.kept in
    by_blocker_alone c.args.roster.now c.args.entries.now c.args.author c.args.number known (c.in_ok-check_live.ensures.live c.args.roster.now kept) own ∙ ap blocked_refusal (sym blocks ∙ c.in-None.is)
