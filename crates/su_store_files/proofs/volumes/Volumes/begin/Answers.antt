use Rattle.std.proofs.Common.{◌≡◌, ap, sym, subst, ◌∙◌}
use Rattle.std.specs.List.{All}
use Rattle.su_store_files.proofs.FoundLemmas.{begins_new, on_both, through_either}
use Rattle.su_store_files.proofs.volumes.Volumes.begin.Goals as goal

pub returns-then-len-ne0-clause-held : goal.returns-then-len-ne0-clause-held
returns-then-len-ne0-clause-held g c records held = c.halt-then-len-ne0.ensures.held records (c.settle.ensures.held records held)

pub returns-clause-held : goal.returns-clause-held
returns-clause-held g c records held = c.go_on.ensures.held (c.in-Ok.ensures.empty 0) records (c.settle.ensures.held records held)

pub returns-clause-found : goal.returns-clause-found
returns-clause-found g c =
    let V = g.V.Volume in
    let later = ap (λ l. l.items) c.go_on.ensures.later ∙ ap (λ l. l.items) c.settle.ensures.later ∙ c.requires.end.1 in
    let files = ap (λ v. v.past.places.items) c.in_ok-settle.ensures.same in
    on_both _ (λ now past.
    begins_new V g.met.V.Volume.shows_counted c.args.self.now c.go_on.new.self c.settle.new.self.current c.in-Ok.file c.requires.end.0 c.requires.end.1 c.in_ok-settle.ensures.clean c.in-Ok.ensures.shown later now
    (λ all. let was = past all in (subst (All V.is_clean) files was.0, was.1)))
    c.go_on.ensures.current c.go_on.ensures.clean

pub returns-clause-end : goal.returns-clause-end
returns-clause-end g c =
    let V = g.V.Volume in (
      through_either V c.go_on.new.self c.settle.new.self.current c.in-Ok.file c.settle.new.self.kept c.go_on.result (sym c.len-2.ensures ∙ c.if-len-ne0.false) c.settle.ensures.shut c.go_on.ensures.current c.go_on.ensures.old,
      ap (λ l. l.items) c.go_on.ensures.later ∙ ap (λ l. l.items) c.settle.ensures.later ∙ c.requires.end.1,
    )
