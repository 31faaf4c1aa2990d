use Rattle.std.proofs.Common.{Some, Box, refl, sym, ap, ◌∙◌}
use Rattle.std.specs.Box.{with_value}
use Rattle.std.specs.Global.{Global}
use Rattle.std.specs.Map.{values_of}
use Rattle.std.specs.Option.{option_map}
use Rattle.su_live.specs.declared.operations.LiveOperation.{LiveOperation}
use Rattle.su_live.specs.Live.{unboxed, with_inverse}
use Rattle.su_live.proofs.LiveLemmas.{no_inverse_put}
use Rattle.su_live.proofs.BoxLemmas.{found_box, inverse_box}
use Rattle.su_live.proofs.live.LiveOperations.replace_inverse.Goals as goal

pub returns-in_default-clause-value : goal.returns-in_default-clause-value
returns-in_default-clause-value g c =
    ap (option_map (λ (k : LiveOperation g.row.I.Denot). k.inverse)) (found_box c.args.number c.self.inside.operations.entries _ _ _ _ c.self.invariant c.self.view_is c.in_default.ensures.value)

pub returns-in_default-clause-others : goal.returns-in_default-clause-others
returns-in_default-clause-others g c =
    ap (λ m. values_of (unboxed m.entries)) c.get_mut.follows.holds-at-none ∙ c.self.view_is
    ∙ sym (no_inverse_put c.args.number c.args.inverse c.args.self.now (sym (found_box c.args.number c.self.inside.operations.entries _ _ _ _ c.self.invariant c.self.view_is c.in_default.ensures.value)))

pub invariant_of-self-2 : goal.invariant_of-self-2
invariant_of-self-2 g c =
    let found = sym (ap Some c.deref_mut.ensures.value ∙ found_box c.args.number c.self.inside.operations.entries _ _ _ _ c.self.invariant c.self.view_is c.in-Some.ensures.value) in
    let b : Box (LiveOperation g.row.I.Denot) Global = with_value c.in-Some.boxed.now (record c.deref_mut.result.now { inverse = c.replace-old.new.dest }) in
    (inverse_box c.args.number c.replace-old.new.dest c.deref_mut.result.now b c.args.self.now c.self.inside.operations.entries (c.get_mut.follows.lender b).entries c.self.inside.readers c.self.inside.scanned
    c.self.invariant c.self.view_is found refl (c.get_mut.follows.holds b).0).0

pub returns-clause-value : goal.returns-clause-value
returns-clause-value g c =
    ap Some (c.replace-old.ensures.value ∙ ap (λ (k : LiveOperation g.row.I.Denot). k.inverse) c.deref_mut.ensures.value)
    ∙ ap (option_map (λ (k : LiveOperation g.row.I.Denot). k.inverse)) (found_box c.args.number c.self.inside.operations.entries _ _ _ _ c.self.invariant c.self.view_is c.in-Some.ensures.value)

pub returns-clause-others : goal.returns-clause-others
returns-clause-others g c =
    let found = sym (ap Some c.deref_mut.ensures.value ∙ found_box c.args.number c.self.inside.operations.entries _ _ _ _ c.self.invariant c.self.view_is c.in-Some.ensures.value) in
    let b : Box (LiveOperation g.row.I.Denot) Global = with_value c.in-Some.boxed.now (record c.deref_mut.result.now { inverse = c.replace-old.new.dest }) in
    (inverse_box c.args.number c.replace-old.new.dest c.deref_mut.result.now b c.args.self.now c.self.inside.operations.entries (c.get_mut.follows.lender b).entries c.self.inside.readers c.self.inside.scanned
    c.self.invariant c.self.view_is found refl (c.get_mut.follows.holds b).0).1
    ∙ ap (λ i. with_inverse c.args.number i c.args.self.now) c.replace-old.ensures.after
