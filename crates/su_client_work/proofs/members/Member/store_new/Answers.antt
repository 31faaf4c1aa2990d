use Rattle.std.proofs.Common.{◌≡◌, Bool, false, MatchBool, length, sym, ap, subst, inr, ◌∙◌}
use Rattle.su_client.specs.Link.{LinkState, Follows}
use Rattle.su_client.specs.Following.{follows_on}
use Rattle.su_client.specs.Outbox.{contents, IsHandedIn}
use Rattle.su_client_work.specs.Member.{MemberState}
use Rattle.su_client_work.proofs.Asked.{clear_back, clear_from, clear_to}
use Rattle.su_client_work.proofs.Turns.{is_stored}
use Rattle.su_client_work.proofs.members.Member.store_new.Goals.{in-Ok-hand_over, in-Err}
use Rattle.su_client_work.proofs.members.Member.store_new.Goals as goal

-- what isn't left was put into the source within
put_within : (A : Type 0) (B : Type 0) (leaves : Bool) → leaves ≡ false → MatchBool leaves A B → B
put_within A B leaves none put = subst (λ (b : Bool). MatchBool b A B) none put

pub returns-clause-clear : goal.returns-clause-clear
returns-clause-clear g c = clear_back _ c.args.self.now _ _ _ _ (ap (λ (x : MemberState). x.holding) c.self.view_is) (ap (λ (x : MemberState). x.asked) c.self.view_is) c.make.ensures.clear

pub returns-clause-signs : goal.returns-clause-signs
returns-clause-signs g c =
    rw (sym c.self.view_is) (inr (
      c.in_ok-commit.commit,
      record {
        of_change = c.in_ok-commit.ensures.of_change;
        made = λ clear. c.in_ok-commit.ensures.made (clear_to _ _ _ clear);
        clear = λ clear. clear_from _ _ _ (c.make.ensures.clear (clear_to _ _ _ clear));
        signed = c.in_ok-commit.ensures.signed;
        next = λ i. record { keys = length (c.in_ok-commit.ensures.same_former i); leaf = c.in_ok-commit.ensures.used i };
      },
    ))

pub returns-clause-follows : goal.returns-clause-follows
returns-clause-follows g c =
    let begun = ap (λ (x : MemberState). x.link) c.self.view_is in
    let forgot = c.forget.ensures.client in
    let one = c.source_mut.ensures.value in
    let two = c.source_mut-2.ensures.value in
    let scratch = c.source_mut-scratch.ensures.value in
    let left = c.leave.ensures in
    let within = c.source_mut-3.ensures.value in
    let three = c.source_mut-4.ensures.value in
    let four = c.source_mut-5.ensures.value in
    let five = c.source_mut-6.ensures.value in
    let six = c.source_mut-outbox.ensures.value in
    let first : c.forget.new.self.client.link ≡ c.args.self.now.link =
    ap (λ o. o.link) forgot ∙ ap (λ o. o.client.link) within ∙ ap (λ o. o.source.client.link) left ∙ ap (λ o. o.source.client.link) scratch
    ∙ ap (λ o. o.source.source.client.link) two ∙ ap (λ o. o.source.source.source.client.link) one ∙ begun in
    let second : c.source_mut-outbox.result.now.client.link ≡ c.make.new.self.source.source.source.source.client.link = cc in
    follows_on c.args.self.now.link c.make.new.self.source.source.source.source.client.link c.hand_over.new.outbox.client.link
    (subst (λ (l : LinkState). Follows l c.make.new.self.source.source.source.source.client.link) first c.make.ensures.follows.1)
    (subst (λ (l : LinkState). Follows l c.hand_over.new.outbox.client.link) second c.hand_over.ensures.follows)

pub returns-clause-stored : goal.returns-clause-stored
returns-clause-stored g c =
    let begun = ap (λ (x : MemberState). x.link) c.self.view_is in
    let forgot = c.forget.ensures.client in
    let one = c.source_mut.ensures.value in
    let two = c.source_mut-2.ensures.value in
    let scratch = c.source_mut-scratch.ensures.value in
    let left = c.leave.ensures in
    let within = c.source_mut-3.ensures.value in
    let three = c.source_mut-4.ensures.value in
    let four = c.source_mut-5.ensures.value in
    let five = c.source_mut-6.ensures.value in
    let six = c.source_mut-outbox.ensures.value in
    let first : c.forget.new.self.client.link ≡ c.args.self.now.link =
    ap (λ o. o.link) forgot ∙ ap (λ o. o.client.link) within ∙ ap (λ o. o.source.client.link) left ∙ ap (λ o. o.source.client.link) scratch
    ∙ ap (λ o. o.source.source.client.link) two ∙ ap (λ o. o.source.source.source.client.link) one ∙ begun in
    let second : c.source_mut-outbox.result.now ≡ c.make.new.self.source.source.source.source = cc in
    let (here, asked, waits) = c.in_ok-commit.ensures.puts in
    let away = asked.0 ∙ ap (λ s. s.leaves) c.leave.ensures in
    elim c.match-hand_over.branch [
      | in-Ok-hand_over w ↦ rw w.result-is (record {
        signs = rw (sym c.self.view_is) (record {
          of_change = c.in_ok-commit.ensures.of_change;
          made = λ clear. c.in_ok-commit.ensures.made (clear_to _ _ _ clear);
          clear = λ clear. clear_from _ _ _ (c.make.ensures.clear (clear_to _ _ _ clear));
          signed = c.in_ok-commit.ensures.signed;
          next = λ i. record { keys = length (c.in_ok-commit.ensures.same_former i); leaf = c.in_ok-commit.ensures.used i };
        });
        stored = is_stored c.args.change c.in_ok-commit.commit c.in-Ok.bytes.items (contents here.source.source.source.waiting.items) (contents c.make.new.self.source.source.source.source.waiting.items) c.args.self.now.link
            here.source.source.source.client.link c.make.new.self.source.source.source.source.client.link c.hand_over.new.outbox.client.link w.in-Ok-hand_over.field-0
            (subst (λ (l : LinkState). Follows l here.source.source.source.client.link) first asked.1) (put_within _ _ _ away waits) c.in-Ok.ensures.value
            (subst (λ o. IsHandedIn (contents o.waiting.items) c.in-Ok.bytes.items o.client.link c.hand_over.new.outbox.client.link w.in-Ok-hand_over.field-0) second
            w.in-Ok-hand_over.ensures.handed_in);
      })
      | in-Err w ↦ rw w.result-is tt
    ]

-- ---- it was signed, and not handed in

pub returns-in_default-clause-clear : goal.returns-in_default-clause-clear
returns-in_default-clause-clear g c = clear_back _ c.args.self.now _ _ _ _ (ap (λ (x : MemberState). x.holding) c.self.view_is) (ap (λ (x : MemberState). x.asked) c.self.view_is) c.make.ensures.clear

pub returns-in_default-clause-signs : goal.returns-in_default-clause-signs
returns-in_default-clause-signs g c =
    rw (sym c.self.view_is) (inr (
      c.in_ok-commit.commit,
      record {
        of_change = c.in_ok-commit.ensures.of_change;
        made = λ clear. c.in_ok-commit.ensures.made (clear_to _ _ _ clear);
        clear = λ clear. clear_from _ _ _ (c.make.ensures.clear (clear_to _ _ _ clear));
        signed = c.in_ok-commit.ensures.signed;
        next = λ i. record { keys = length (c.in_ok-commit.ensures.same_former i); leaf = c.in_ok-commit.ensures.used i };
      },
    ))

-- ---- none was made

pub returns-in_err-commit-clause-clear : goal.returns-in_err-commit-clause-clear
returns-in_err-commit-clause-clear g c = clear_back _ c.args.self.now _ _ _ _ (ap (λ (x : MemberState). x.holding) c.self.view_is) (ap (λ (x : MemberState). x.asked) c.self.view_is) c.make.ensures.clear
