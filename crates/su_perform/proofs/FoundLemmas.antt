-- What is found in a tree is so in each that agrees with it, and tells the plan.
use Rattle.std.proofs.Common.{◌≡◌, ◌∙◌, sym, ap, subst, ℕ, Bool, true, nat_eq, not, List, [], ◌∷◌, ◌++◌, Option, Some}
use Rattle.su_bytes.specs.Membership.{Membership}
use Rattle.su_bytes.specs.declared.file_ids.FileId.{FileId}
use Rattle.su_bytes.specs.Place.{Place}
use Rattle.su_node.specs.Field.{Field.KindOf}
use Rattle.su_table.specs.Cell.{Cell.At, val}
use Rattle.su_table.specs.Tree.{Tree}
use Rattle.su_table.specs.Query.{body, value_number, links_at, size_at, is_free_at, is_pointer_free}
use Rattle.su_op.specs.declared.areas.Area.{Area}
use Rattle.su_op.specs.declared.operations.Op.{Op}
use Rattle.su_op.specs.declared.operations.Op.TheVariants as op
use Rattle.su_perform.specs.declared.accepted.Accepted.{Accepted}
use Rattle.su_perform.specs.declared.accepted.Accepted.TheVariants as accepted
use Rattle.su_op.specs.DropBody.{group_home, unless_led}
use Rattle.su_op.specs.Action.{Action}
use Rattle.su_op.specs.Operation.{rule_by_user, rule_of, why}
use Rattle.su_perform.specs.Accepted.{planned, FitsIn}
use Rattle.su_op.specs.Rule.{Plan, Rule, Rule.Accept, Rule.Demand, Rule.Find, plan_of}
use Rattle.su_op.specs.Create.{create_plan}
use Rattle.su_op.specs.Take.{take_plan}
use Rattle.su_op.specs.Rename.{rename_plan}
use Rattle.su_op.specs.DropBody.{drop_plan}
use Rattle.su_bytes.specs.declared.refusals.Refusal.{Refusal}
use Rattle.std.specs.FinMap.{get}
use Rattle.std.proofs.lemmas.Bool.{and_parts}
use Rattle.su_op.specs.Growth.{AreFreeFor}
use Rattle.su_op.proofs.GrowthLemmas.{create_free}
use Rattle.su_op.proofs.RuleLemmas.{Gives, gives_of}
use Rattle.su_op.specs.Write.{write_plan}
use Rattle.su_op.specs.Unlink.{unlink_plan}
use Rattle.su_op.specs.Truncate.{truncate_plan}
use Rattle.su_op.specs.Link.{link_plan}
use Rattle.su_op.proofs.RuleLemmas.{AgreeOn, later, left, right, kind_same, links_same, size_same}
use Rattle.su_asked.specs.Asked.{home_areas, named, linked, leaving, sized, at_body, asked, asked_first, asked_then}
use Rattle.su_perform.specs.Found.{Found, FoundIsLocal, FoundTellsPlan, FoundFits}
use Rattle.su_asked.proofs.AskedLemmas.{home_same, here, first_home, next_home, third_home, moved_same, led_same}

-- ---- in trees that agree

module _ {T V : Tree} where
  at_file : (f : FileId) (p : Place) → AgreeOn (home_areas f) T V → body V f ≡ Some p → body T f ≡ Some p
  at_file f p agree is = sym (home_same f agree) ∙ is

  links_stay : (p : Place) (w : List Area) → AgreeOn (linked p ++ w) T V → links_at T p ≡ links_at V p
  links_stay p w agree = sym (ap value_number (links_same (later agree)))

  size_stays : (p : Place) → AgreeOn (sized p) T V → size_at T p ≡ size_at V p
  size_stays p agree = sym (ap value_number (size_same (later agree)))

  local : (a : ℕ) (o : Op) (x : Accepted) → AgreeOn (asked_first a o) T V → AgreeOn (asked_then T a o) T V → Found V a o x → Found T a o x
  local a (op.Create c) (accepted.Create x) first agree found =
      record { of = found.of; by = found.by; directory = at_file c.dir x.directory (first_home c.dir (c.file ∷ []) _ first) found.directory }
  local a (op.Unlink u) (accepted.Unlink x) first agree found =
      let place = at_file u.file x.place (next_home u.dir u.file [] _ first) found.place in
      let file = here (body T u.file) (leaving u.name) x.place place (right (at_body (body T u.dir) (named u.name)) _ agree) in
      record {
        of = found.of;
        directory = at_file u.dir x.directory (first_home u.dir (u.file ∷ []) _ first) found.directory;
        place = place;
        links = links_stay x.place _ file ∙ found.links;
      }
  local a (op.Write w) (accepted.Write x) first agree found =
      let place = at_file w.file x.place (first_home w.file [] _ first) found.place in
      record { of = found.of; place = place; size = size_stays x.place (here (body T w.file) sized x.place place agree) ∙ found.size }
  local a (op.Truncate t) (accepted.Truncate x) first agree found =
      let place = at_file t.file x.place (first_home t.file [] _ first) found.place in
      record { of = found.of; place = place; size = size_stays x.place (here (body T t.file) sized x.place place agree) ∙ found.size }
  local a (op.Take t) (accepted.Take x) first agree found =
      record { of = found.of; by = found.by; place = at_file t.file x.place (first_home t.file [] _ first) found.place }
  local a (op.Link l) (accepted.Link x) first agree found =
      let place = at_file l.file x.place (next_home l.dir l.file [] _ first) found.place in
      let file = here (body T l.file) linked x.place place (right (at_body (body T l.dir) (named l.name)) _ agree) in
      record {
        of = found.of;
        directory = at_file l.dir x.directory (first_home l.dir (l.file ∷ []) _ first) found.directory;
        place = place;
        links = links_stay x.place [] file ∙ found.links;
      }
  local a (op.Rename r) (accepted.Rename x) first agree found =
      record {
        of = found.of;
        places = record {
          source = at_file r.from_ x.source (first_home r.from_ (r.to_ ∷ r.file ∷ []) _ first) found.places.source;
          target = at_file r.to_ x.target (next_home r.from_ r.to_ (r.file ∷ []) _ first) found.places.target;
          moved = sym (moved_same V T r (home_same r.file (third_home r.from_ r.to_ r.file _ first))) ∙ found.places.moved;
        };
      }
  local a (op.Drop d) (accepted.Drop x) first agree found =
      let kind = kind_same first in
      let stale = ap (λ v. unless_led V (a, d.body) (group_home v)) kind ∙ led_same (a, d.body) (group_home (val T (At (a, d.body) KindOf))) agree in
      record { of = found.of; by = found.by; home = sym stale ∙ found.home }
  local a _ _ first agree found = absurd found

pub found_is_local : FoundIsLocal
found_is_local V T a o x agree =
    let all : AgreeOn (asked T a o) T V = record { each = agree } in
    local {T = T} {V = V} a o x (left (asked_first a o) _ all) (right (asked_first a o) _ all)

-- ---- the plan

-- the rule has this plan
record Plans (r : Rule) (q : Plan) : Type 0 where
  is : plan_of r ≡ q

past : {b : Bool} {e : Refusal} {k : Rule} {q : Plan} → Plans k q → Plans (Demand b e k) q
past h = record { is = h.is }

at_place : {o : Option Place} {e : Refusal} {k : Place → Rule} {q : Plan} (p : Place) → o ≡ Some p → Plans (k p) q → Plans (Find o e k) q
at_place {o} {e} {k} p is h = record { is = ap (λ z. plan_of (Find z e k)) is ∙ h.is }

ends : {p q : Plan} → p ≡ q → Plans (Accept p) q
ends e = record { is = e }

tells : (ro : Membership) (T : Tree) (y : Action) (o : Op) (x : Accepted) → Found T y.author o x → Plans (rule_by_user ro T y o) (planned T x)
tells ro T y (op.Create c) (accepted.Create x) found =
    past (past (past (at_place x.directory found.directory (past (past (past (past (ends
    (ap (λ z. create_plan z c x.directory) (sym found.by) ∙ ap (λ z. create_plan x.author z x.directory) (sym found.of))))))))))
tells ro T y (op.Unlink u) (accepted.Unlink x) found =
    past (past (at_place x.directory found.directory (at_place x.place found.place (past (past (past (past (past (ends
    (ap (λ n. unlink_plan n u x.directory x.place) found.links ∙ ap (λ z. unlink_plan x.links z x.directory x.place) (sym found.of)))))))))))
tells ro T y (op.Write w) (accepted.Write x) found =
    past (past (at_place x.place found.place (past (past (past (ends
    (ap (λ n. write_plan n w x.place) found.size ∙ ap (λ z. write_plan x.size z x.place) (sym found.of))))))))
tells ro T y (op.Truncate t) (accepted.Truncate x) found =
    past (at_place x.place found.place (past (past (past (ends
    (ap (λ n. truncate_plan n t x.place) found.size ∙ ap (λ z. truncate_plan x.size z x.place) (sym found.of)))))))
tells ro T y (op.Take t) (accepted.Take x) found =
    past (past (at_place x.place found.place (past (ends
    (ap (λ z. take_plan (get T.inodes x.place) z t x.place) (sym found.by) ∙ ap (λ z. take_plan (get T.inodes x.place) x.author z x.place) (sym found.of))))))
tells ro T y (op.Link l) (accepted.Link x) found =
    past (past (at_place x.directory found.directory (at_place x.place found.place (past (past (past (past (past (past (ends
    (ap (λ n. link_plan n l x.directory x.place) found.links ∙ ap (λ z. link_plan x.links z x.directory x.place) (sym found.of))))))))))))
tells ro T y (op.Rename r) (accepted.Rename x) found =
    past (past (at_place x.source found.places.source (at_place x.target found.places.target (past (past (past (past (past (past (past (past (ends
    (ap (λ o. rename_plan o r x.source x.target) found.places.moved ∙ ap (λ z. rename_plan x.moved z x.source x.target) (sym found.of))))))))))))))
tells ro T y (op.Drop d) (accepted.Drop x) found =
    past (at_place x.home found.home (ends (ap (λ z. drop_plan z d x.home) (sym found.by) ∙ ap (λ z. drop_plan x.author z x.home) (sym found.of))))
tells ro T y _ _ found = absurd found

pub found_tells_plan : FoundTellsPlan
found_tells_plan ro T y x found = (tells ro T y y.op x found).is

-- ---- what fits

-- of an accepted action whose rule gives this plan
fits : (ro : Membership) (T : Tree) (y : Action) (o : Op) (x : Accepted) → Found T y.author o x → Gives (rule_by_user ro T y o) (plan_of (rule_by_user ro T y o)) → FitsIn T x
fits ro T y (op.Create c) (accepted.Create x) found (number, (dir, (file, (d, at_d, (kind, (holder, (free, (name, is)))))))) =
    let at : d ≡ x.directory = let a = at_d in let b = found.directory in cc in
    let both = and_parts (is_pointer_free T c.file) (is_free_at T (y.author, c.body)) free in
    let bare = create_free T y.author c d name both.1 both.0 in
    let there = subst (λ z. AreFreeFor T (create_plan y.author c z).edits) at bare in
    let by = subst (λ z. AreFreeFor T (create_plan z c x.directory).edits) (sym found.by) there in
    subst (λ z. AreFreeFor T (create_plan x.author z x.directory).edits) (sym found.of) by
fits ro T y (op.Unlink u) (accepted.Unlink x) found given = found.links
fits ro T y (op.Write w) (accepted.Write x) found given = found.size
fits ro T y (op.Truncate t) (accepted.Truncate x) found given = found.size
fits ro T y (op.Take t) (accepted.Take x) found (group, (touch, (f, at_f, (free, is)))) =
    let both = and_parts (not (nat_eq f.0 y.author)) (is_free_at T (y.author, t.body)) free in
    let by = subst (λ z. is_free_at T (z, t.body) ≡ true) (sym found.by) both.1 in
    subst (λ z. is_free_at T (x.author, z.body) ≡ true) (sym found.of) by
fits ro T y (op.Link l) (accepted.Link x) found given = found.links
fits ro T y (op.Rename r) (accepted.Rename x) found given = cc
fits ro T y (op.Drop d) (accepted.Drop x) found given = cc
fits ro T y _ _ found given = absurd found

pub found_fits : FoundFits
unfolding why
found_fits ro T y x found accepted =
    let given = gives_of (rule_of ro T y) accepted in
    fits ro T y y.op x found given.1
