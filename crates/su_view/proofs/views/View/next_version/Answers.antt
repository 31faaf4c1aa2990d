use Rattle.std.proofs.Common.{◌≡◌, ◌≤◌, ◌+◌, ℕ, ap, ◌∙◌, sym, length, map, subst, arith}
use Rattle.su_bytes.specs.Principal.{principals}
use Rattle.su_format.specs.Format.{EachFrom}
use Rattle.su_version.specs.Version.{IsCarried}
use Rattle.su_stored_desk.specs.Asked.{NoneMixed}
use Rattle.su_view.specs.Joining.{AscendFrom}
use Rattle.su_view.specs.Drafting.{IsVersionOf}
use Rattle.su_view.specs.Viewed.{ViewOn}
use Rattle.su_view.proofs.MakeLemmas.{version_in_range, version_is, version_of}
use Rattle.su_view.proofs.views.View.next_version.Goals as goal

pub new-requires : goal.new-requires
new-requires g c =
    let (change, draft, named) = c.requires in
    let held = ap (λ (x : ViewOn g.row.S.Denot). x.holding) c.self.view_is in
    let user : c.self.inside.keeping.user ≤ 63 = omega (arith, c.number-user.ensures.value, c.number-user.ensures.range) in
    let count : c.principal_count-count.result ≡ length (principals c.self.inside.keeping.desk.state.settled.roster) =
    c.principal_count-count.ensures.value ∙ ap (λ ro. length (principals ro)) c.roster.ensures in
    version_in_range g.S.BlockSource.may_give c.self.inside.keeping c.self.invariant c.args.self.now.holding held change c.args.draft draft c.head-head.result c.args.digest c.in_ok-vector.vector
    user c.has_digest_length.ensures c.has_digest_length-2.ensures c.has_digest_length-3.ensures
    (subst (λ gs. (least : ℕ) → AscendFrom least gs → EachFrom IsCarried (λ g. g.0 + 1) least gs) c.as_slice-2.ensures.value c.are_carried.ensures.carried)
    (subst (λ gs. (least : ℕ) → AscendFrom least gs → least ≤ 16 → length gs + least ≤ 16) c.as_slice-2.ensures.value c.are_carried.ensures.few)
    (omega (arith, count, c.principal_count-count.ensures.some)) (omega (arith, count, c.principal_count-count.ensures.few))
    (c.in_ok-vector.ensures.value ∙ ap (map (λ n. n.1)) c.as_slice.ensures.value) c.in_ok-vector.ensures.range

pub returns-clause-value : goal.returns-clause-value
returns-clause-value g c clear change draft fits named =
    let held = ap (λ (x : ViewOn g.row.S.Denot). x.holding) c.self.view_is in
    c.new.ensures ∙ version_is g.S.BlockSource.may_give c.self.inside.keeping c.self.invariant c.args.self.now.holding held change c.args.draft draft c.head-head.result c.args.digest c.in_ok-vector.vector
    (c.self.invariant.legal (subst (λ (x : ViewOn g.row.S.Denot). NoneMixed g.S.BlockSource.may_give x.holding.roster x.asked) (sym c.self.view_is) clear)) fits
    c.head-head.ensures named (c.in_ok-vector.ensures.value ∙ ap (map (λ n. n.1)) c.as_slice.ensures.value)

pub returns-clause-of_change : goal.returns-clause-of_change
returns-clause-of_change g c change draft named =
    let held = ap (λ (x : ViewOn g.row.S.Denot). x.holding) c.self.view_is in
    subst (IsVersionOf c.args.self.now.holding change) (sym c.new.ensures)
    (version_of g.S.BlockSource.may_give c.self.inside.keeping c.self.invariant c.args.self.now.holding held change c.args.draft draft c.head-head.result c.args.digest c.in_ok-vector.vector c.head-head.ensures named)
