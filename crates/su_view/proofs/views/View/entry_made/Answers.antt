use Rattle.std.proofs.Common.{◌≡◌, ◌-◌, ◌<◌, length, slice_get, refl, sym, ap, ◌∙◌, arith}
use Rattle.std.proofs.lemmas.Option.{slice_get_read}
use Rattle.su_legal.specs.Legal.{history}
use Rattle.su_version.specs.Version.{Version}
use Rattle.su_view.specs.Entry.{committed_at}
use Rattle.su_view.specs.Keeping.{holding_of}
use Rattle.su_view.specs.Viewed.{ViewOn}
use Rattle.su_view.proofs.KeepingLemmas.{change_kept, entry_kept, length-held, read_so}
use Rattle.su_view.proofs.views.View.entry_made.Goals as goal

pub returns : goal.returns
returns g c =
    let m = g.S.BlockSource.may_give in
    let k = c.self.inside.keeping in
    let kept = c.self.invariant in
    let x = c.in-Some.ensures.committed in
    let is : (holding_of k).held ≡ c.args.self.now.holding.held = ap (λ (v : ViewOn g.row.S.Denot). v.holding.held) c.self.view_is in
    let long = length-held m k kept in
    let same = ap length is in
    let within : c.args.number - 1 < length k.records.items = omega (arith, c.requires.some, c.requires.held, long, same) in
    let (there, spelled) = change_kept m k kept c.args.number x c.requires.some (ap (λ cs. committed_at cs c.args.number) is ∙ c.in-Some.ensures.found) in
    let change = read_so c.decode.result x.change c.in_ok-change.change c.in_ok-change.was (c.decode.ensures.only x.change spelled.0 spelled.1 c.in-Some.ensures.item_is) in
    ap (λ cs. slice_get (history cs) (c.args.number - 1)) (sym is)
    ∙ entry_kept m k kept (c.args.number - 1) c.index.result.now x c.author.result c.format.result c.in_ok-change.change
    (slice_get_read k.records.items (length k.records.items) (c.args.number - 1) c.index.result.now refl within c.index.ensures)
    there (c.author.ensures.value ∙ ap (λ (v : Version). v.author) c.version-version.ensures) (c.format.ensures ∙ ap (λ (v : Version). v.format) c.version-version.ensures) change
