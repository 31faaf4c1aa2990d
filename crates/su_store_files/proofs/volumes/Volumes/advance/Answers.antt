use Rattle.std.proofs.Common.{◌≡◌, [], ◌∷◌, ◌++◌, ap, sym, subst, ◌∙◌, length, option_to_list, arith}
use Rattle.std.specs.List.{All}
use Rattle.su_store_files.proofs.FoundLemmas.{advances, on_both}
use Rattle.su_store_files.proofs.volumes.Volumes.advance.Goals as goal

pub returns-in-Ok-clause-held : goal.returns-in-Ok-clause-held
returns-in-Ok-clause-held g c records held =
    let settled = c.settle.ensures.held records held in
    c.go_on.ensures.held (let sound = c.in-Some.ensures.sound records settled in c.in-Ok.ensures.anew sound.0 sound.1) records (c.take_next.ensures.held records settled)

pub returns-in-Ok-clause-found : goal.returns-in-Ok-clause-found
returns-in-Ok-clause-found g c =
    let V = g.V.Volume in
    let others = c.take_next.new.self.later.items in
    let behind = ap (λ l. l.items) (sym c.settle.ensures.later) ∙ c.take_next.ensures.taken ∙ ap (λ o. others ++ option_to_list o) c.in-Some.is in
    let later = ap (λ l. l.items) c.go_on.ensures.later in
    let files = ap (λ v. v.past.places.items) c.take_next.ensures.same ∙ ap (λ v. v.past.places.items) c.in_ok-settle.ensures.same in
    let shut = ap (λ v. v.current) c.take_next.ensures.same in
    on_both _ (λ now past.
    advances V g.met.V.Volume.shows_counted c.args.self.now c.go_on.new.self c.settle.new.self.current c.in-Some.next c.open.new.self others c.requires.through c.in_ok-settle.ensures.clean behind c.in-Ok.ensures.found c.in-Ok.ensures.clean later now
    (λ all. let was = past all in (subst (All V.is_clean) files was.0, subst V.is_clean shut was.1)))
    c.go_on.ensures.current c.go_on.ensures.clean

pub returns-in_default-clause-found : goal.returns-in_default-clause-found
returns-in_default-clause-found g c clean =
    let none : c.args.self.now.later.items ≡ [] = ap (λ l. l.items) (sym c.settle.ensures.later) ∙ c.take_next.ensures.none c.in_default.is in
    absurd (omega (arith, c.requires.more, ap length none))
