use Rattle.std.proofs.Common.{◌≡◌, ◌∙◌, ◌+◌, ◌<◌, ◌^◌, length, rules, sym, ap, subst}
use Rattle.su_part.specs.declared.fetches.Wanted.TheVariants.{Write}
use Rattle.su_part_forest.specs.Loading.{HasAt}
use Rattle.su_perform.proofs.PerformLemmas.{written}
use Rattle.su_perform.proofs.write.AcceptedWrite.perform.Goals as goal

pub returns-clause-loaded : goal.returns-clause-loaded
returns-clause-loaded c T h is has =
    let x = c.args.self.now in
    let f = c.args.forest.now in
    let same_off : c.write.inside.off ≡ x.write.now.off = ap (λ w. w.off) c.write.view_is in
    let same_length : length c.as_slice.result.now ≡ length x.write.now.bytes = ap length (c.as_slice.ensures.value ∙ ap (λ w. w.bytes) c.write.view_is) in
    let small : x.write.now.off + length x.write.now.bytes < 2 ^ 32 = search rules in
    c.write_at.ensures.loaded T h
    (subst (λ k. HasAt x.place (Write k (length c.as_slice.result.now)) f) (sym same_off) (subst (λ k. HasAt x.place (Write x.write.now.off k) f) (sym same_length) (written f T h x.place x.size x.write.now.off (length x.write.now.bytes) is small has)))
