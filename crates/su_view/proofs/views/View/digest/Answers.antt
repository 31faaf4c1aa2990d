use Rattle.std.proofs.Common.{◌≡◌, ◌-◌, ◌<◌, Some, length, refl, sym, ap, ◌∙◌, arith}
use Rattle.std.specs.Option.{option_map}
use Rattle.std.proofs.lemmas.Option.{slice_get_read}
use Rattle.sha2.specs.Sha256.{sha256}
use Rattle.su_legal.specs.Legal.{Committed}
use Rattle.su_version.specs.Commit.{commit_bytes}
use Rattle.su_view.specs.Entry.{committed_at}
use Rattle.su_view.specs.Keeping.{holding_of}
use Rattle.su_view.specs.Viewed.{ViewOn}
use Rattle.su_view.proofs.KeepingLemmas.{digest_kept, length-held}
use Rattle.su_view.proofs.views.View.digest.Goals as goal

pub returns : goal.returns
returns g c =
    let k = c.self.inside.keeping in
    let held = length-held g.S.BlockSource.may_give k c.self.invariant in
    let number : c.number.result ≡ length (holding_of k).held = c.number.ensures ∙ ap (λ (v : ViewOn g.row.S.Denot). length v.holding.held) (sym c.self.view_is) in
    let within : c.args.number - 1 < length k.records.items = omega (arith, held, number, c.if-number-eq0.false, c.if-number.false) in
    ap Some c.digest.ensures
    ∙ sym (digest_kept g.S.BlockSource.may_give k c.self.invariant c.args.number c.index.result.now (omega (arith, c.if-number-eq0.false))
    (slice_get_read k.records.items (length k.records.items) (c.args.number - 1) c.index.result.now refl within c.index.ensures))
    ∙ ap (λ (v : ViewOn g.row.S.Denot). option_map (λ (d : Committed). sha256 (commit_bytes d.commit)) (committed_at v.holding.held c.args.number)) c.self.view_is
