use Rattle.std.proofs.Common.{◌≡◌, ◌-◌, ◌<◌, ◌≤◌, length, refl, ap, ◌∙◌, sym, subst, arith}
use Rattle.std.proofs.lemmas.Option.{slice_get_read}
use Rattle.su_view.specs.Entry.{AreBytesAt}
use Rattle.su_view.specs.Keeping.{holding_of}
use Rattle.su_view.specs.Viewed.{ViewOn}
use Rattle.su_view.proofs.KeepingLemmas.{entry_found, length-held}
use Rattle.su_view.proofs.views.View.entry.Goals as goal

pub returns : goal.returns
returns g c =
    let k = c.self.inside.keeping in
    let held = length-held g.S.BlockSource.may_give k c.self.invariant in
    let counted = c.self.invariant.counted in
    let number : c.number.result ≡ length (holding_of k).held = c.number.ensures ∙ ap (λ (v : ViewOn g.row.S.Denot). length v.holding.held) (sym c.self.view_is) in
    let within : c.args.number - 1 < length k.records.items = omega (arith, held, number, c.if-number-itemless.false, c.if-number.false) in
    let behind : k.itemless ≤ c.args.number - 1 = omega (arith, c.if-number-itemless.false) in
    let at_hand : c.args.number - 1 - k.itemless < length k.spellings.items = omega (arith, within, behind, counted) in
    subst (λ (v : ViewOn g.row.S.Denot). AreBytesAt v.holding.held c.args.number c.as_slice.result.now c.as_slice-2.result.now) c.self.view_is
    (entry_found g.S.BlockSource.may_give k c.self.invariant c.args.number c.index-spelling.result.now c.as_slice.result.now c.as_slice-2.result.now (omega (arith, c.if-number-itemless.false))
    behind
    (slice_get_read k.spellings.items (length k.spellings.items) (c.args.number - 1 - k.itemless) c.index-spelling.result.now refl at_hand c.index-spelling.ensures)
    c.as_slice.ensures.value c.as_slice-2.ensures.value)
