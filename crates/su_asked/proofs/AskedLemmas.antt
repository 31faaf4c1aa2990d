-- Rules refuse alike in trees that agree on the cells that are asked for.
use Rattle.std.proofs.Common.{◌≡◌, ◌∙◌, sym, ap, refl, subst, ℕ, Bool, true, false, not, ◌&&◌, ◌||◌, nat_eq, nat_lt, List, [], ◌∷◌, ◌++◌, Option, Some, None}
use Rattle.su_op.specs.Limits.{most_links}
use Rattle.std.specs.Option.{is_some}
use Rattle.std.specs.Bool.{if◌then◌else◌}
use Rattle.su_bytes.specs.Membership.{Membership}
use Rattle.su_bytes.specs.declared.file_ids.FileId.{FileId}
use Rattle.su_bytes.specs.declared.file_ids.FileId.TheVariants.{User, Group}
use Rattle.su_bytes.specs.declared.formats.Format.{Format}
use Rattle.su_bytes.specs.declared.refusals.Refusal.{Refusal}
use Rattle.su_bytes.specs.Place.{Place, GroupFile}
use Rattle.su_node.specs.Field.{Field.KindOf}
use Rattle.su_table.specs.Tree.{Tree}
use Rattle.su_table.specs.Cell.{Cell.At, val}
use Rattle.su_table.specs.Query.{body, home_body, pointer_body, is_nothing, is_dir_kind, is_file_kind, value_number, is_link_to, is_pointer_free, is_free_at, is_dir_at}
use Rattle.su_op.specs.declared.areas.Area.{Area}
use Rattle.su_op.specs.declared.operations.Op.{Op}
use Rattle.su_op.specs.declared.operations.Op.TheVariants as op
use Rattle.su_op.specs.declared.create.Create.{Create}
use Rattle.su_op.specs.declared.unlink.Unlink.{Unlink}
use Rattle.su_op.specs.declared.truncate.Truncate.{Truncate}
use Rattle.su_op.specs.declared.take.Take.{Take}
use Rattle.su_op.specs.declared.link.Link.{Link}
use Rattle.su_op.specs.declared.rename.Rename.{Rename}
use Rattle.su_op.specs.Writing.{Writing}
use Rattle.su_op.specs.declared.drop_body.DropBody.{DropBody}
use Rattle.su_op.specs.DropBody.{drop_rule, group_home, leads_here, unless_led}
use Rattle.su_op.specs.Rule.{Plan, Rule, Rule.Accept, Rule.Demand, Rule.Find, refusal}
use Rattle.su_op.specs.Create.{create_rule}
use Rattle.su_op.specs.Unlink.{unlink_rule}
use Rattle.su_op.specs.Write.{write_rule}
use Rattle.su_op.specs.Truncate.{truncate_rule}
use Rattle.su_op.specs.Take.{take_rule}
use Rattle.su_op.specs.Link.{link_rule}
use Rattle.su_op.specs.Rename.{rename_rule, moved, moves_directory, stays}
use Rattle.su_op.specs.Action.{Action}
use Rattle.su_op.specs.Operation.{rule_by_user, why}
use Rattle.su_op.proofs.RuleLemmas.{AgreeOn, later, left, right, kind_same, links_same, name_same, pointer_same}
use Rattle.su_asked.specs.Asked.{home_areas, homes, named, linked, leaving, sized, kind_of, at_body, pointer_of, asked, asked_first, asked_then, SameBare, RefusalsAreLocal, AskedInTwoRounds}

-- two rules refuse alike
pub record Alike (r s : Rule) : Type 0 where
  pub refusals : refusal r ≡ refusal s

pub same_end : {p q : Plan} → Alike (Accept p) (Accept q)
same_end = record { refusals = refl }

pub same_demand : {b c : Bool} {e : Refusal} {k l : Rule} → b ≡ c → Alike k l → Alike (Demand b e k) (Demand c e l)
same_demand {b} {c} {e} {k} {l} s h = subst (λ x. Alike (Demand b e k) (Demand x e l)) s (here b)
  where
    here : (x : Bool) → Alike (Demand x e k) (Demand x e l)
    here true = record { refusals = h.refusals }
    here false = record { refusals = refl }

pub same_find : {o : Option Place} {q : Option Place} {e : Refusal} {k l : Place → Rule} → o ≡ q → ((p : Place) → q ≡ Some p → Alike (k p) (l p)) → Alike (Find o e k) (Find q e l)
same_find {o} {q} {e} {k} {l} s h = subst (λ x. Alike (Find x e k) (Find q e l)) (sym s) (here q h)
  where
    here : (x : Option Place) → ((p : Place) → x ≡ Some p → Alike (k p) (l p)) → Alike (Find x e k) (Find x e l)
    here None g = record { refusals = refl }
    here (Some p) g = record { refusals = (g p refl).refusals }

pub moved_same : (V T : Tree) (r : Rename) → body V r.file ≡ body T r.file → moved V r ≡ moved T r
moved_same V T r e = ap (λ o. if stays r then None else o) e

moving_same : (V T : Tree) (o : Option Place) → ((f : Place) → o ≡ Some f → is_dir_at V f ≡ is_dir_at T f) → moves_directory V o ≡ moves_directory T o
moving_same V T None at = refl
moving_same V T (Some f) at = at f refl

moved_is : (T : Tree) (r : Rename) (f : Place) → moved T r ≡ Some f → body T r.file ≡ Some f
moved_is T r f = go (stays r)
  where
    go : (b : Bool) → (if b then None else body T r.file) ≡ Some f → body T r.file ≡ Some f
    go true e = absurd cc
    go false e = e

module _ {T V : Tree} where
  pub home_same : (f : FileId) → AgreeOn (home_areas f) T V → body V f ≡ body T f
  unfolding body
  home_same (User u i) agree = ap (λ v. home_body v (User u i) (u, i)) (kind_same agree)
  home_same (Group g k) agree = ap pointer_body (pointer_same agree)

  pub free_same : (f : FileId) → AgreeOn (home_areas f) T V → is_pointer_free V f ≡ is_pointer_free T f
  free_same (User u i) agree = refl
  free_same (Group g k) agree = ap is_nothing (pointer_same agree)

  pub here : (o : Option Place) (areas : Place → List Area) (p : Place) → o ≡ Some p → AgreeOn (at_body o areas) T V → AgreeOn (areas p) T V
  here o areas p is agree = subst (λ x. AgreeOn (at_body x areas) T V) is agree

  create_alike : (ro : Membership) (a : ℕ) (c : Create) → AgreeOn (asked_first a (op.Create c)) T V → AgreeOn (asked_then T a (op.Create c)) T V → Alike (create_rule ro V a c) (create_rule ro T a c)
  create_alike ro a c first agree =
      let files = left (homes (c.dir ∷ c.file ∷ [])) _ first in
      let pointer = free_same c.file (left (home_areas c.file) [] (right (home_areas c.dir) _ files)) in
      let place = ap is_nothing (kind_same (right (homes (c.dir ∷ c.file ∷ [])) _ first)) in
      same_demand refl (same_demand refl (same_demand refl (same_find (home_same c.dir (left (home_areas c.dir) _ files)) (λ d is.
      let at = here (body T c.dir) (named c.name) d is agree in
      same_demand (ap is_dir_kind (kind_same at)) (same_demand refl (same_demand (ap (λ x. x && is_free_at V (a, c.body)) pointer ∙ ap (λ x. is_pointer_free T c.file && x) place)
      (same_demand (ap is_nothing (name_same (later at))) same_end)))))))

  unlink_alike : (ro : Membership) (a : ℕ) (u : Unlink) → AgreeOn (asked_first a (op.Unlink u)) T V → AgreeOn (asked_then T a (op.Unlink u)) T V → SameBare (op.Unlink u) V T → Alike (unlink_rule ro V a u) (unlink_rule ro T a u)
  unlink_alike ro a u first agree bare =
      let files = left (homes (u.dir ∷ u.file ∷ [])) _ first in
      let dirs = at_body (body T u.dir) (named u.name) in
      same_demand refl (same_demand refl (same_find (home_same u.dir (left (home_areas u.dir) _ files)) (λ d is. same_find (home_same u.file (left (home_areas u.file) [] (right (home_areas u.dir) _ files))) (λ f at_f.
      let at = here (body T u.dir) (named u.name) d is (left dirs _ agree) in
      same_demand (ap is_dir_kind (kind_same at)) (same_demand refl (same_demand refl (same_demand (ap (λ v. is_link_to v u.file) (name_same (later at)))
      (same_demand (bare f at_f) same_end))))))))

  write_alike : (ro : Membership) (a : ℕ) (v : Format) (w : Writing) → AgreeOn (asked_first a (op.Write w)) T V → AgreeOn (asked_then T a (op.Write w)) T V → Alike (write_rule ro V a v w) (write_rule ro T a v w)
  write_alike ro a v w first agree =
      same_demand refl (same_demand refl (same_find (home_same w.file (left (home_areas w.file) [] (left (homes (w.file ∷ [])) _ first))) (λ f is.
      let at = here (body T w.file) sized f is agree in
      same_demand (ap is_file_kind (kind_same at)) (same_demand refl (same_demand refl same_end)))))

  truncate_alike : (ro : Membership) (a : ℕ) (v : Format) (t : Truncate) → AgreeOn (asked_first a (op.Truncate t)) T V → AgreeOn (asked_then T a (op.Truncate t)) T V → Alike (truncate_rule ro V a v t) (truncate_rule ro T a v t)
  truncate_alike ro a v t first agree =
      same_demand refl (same_find (home_same t.file (left (home_areas t.file) [] (left (homes (t.file ∷ [])) _ first))) (λ f is.
      let at = here (body T t.file) sized f is agree in
      same_demand (ap is_file_kind (kind_same at)) (same_demand refl (same_demand refl same_end))))

  take_alike : (ro : Membership) (a : ℕ) (t : Take) → AgreeOn (asked_first a (op.Take t)) T V → Alike (take_rule ro V a t) (take_rule ro T a t)
  take_alike ro a t first =
      let free = ap is_nothing (kind_same (right (homes (t.file ∷ [])) _ first)) in
      same_demand refl (same_demand refl (same_find (home_same t.file (left (home_areas t.file) [] (left (homes (t.file ∷ [])) _ first))) (λ f is.
      same_demand (ap (λ x. not (nat_eq f.0 a) && x) free) same_end)))

  link_alike : (ro : Membership) (a : ℕ) (l : Link) → AgreeOn (asked_first a (op.Link l)) T V → AgreeOn (asked_then T a (op.Link l)) T V → Alike (link_rule ro V a l) (link_rule ro T a l)
  link_alike ro a l first agree =
      let files = left (homes (l.dir ∷ l.file ∷ [])) _ first in
      let dirs = at_body (body T l.dir) (named l.name) in
      same_demand refl (same_demand refl (same_find (home_same l.dir (left (home_areas l.dir) _ files)) (λ d is. same_find (home_same l.file (left (home_areas l.file) [] (right (home_areas l.dir) _ files))) (λ f at_f.
      let at = here (body T l.dir) (named l.name) d is (left dirs _ agree) in
      let file = here (body T l.file) linked f at_f (right dirs _ agree) in
      let links = ap value_number (links_same (later file)) in
      same_demand (ap is_dir_kind (kind_same at)) (same_demand (ap is_file_kind (kind_same file)) (same_demand refl (same_demand refl (same_demand (ap is_nothing (name_same (later at)))
      (same_demand (ap (λ n. nat_lt n most_links) links) same_end)))))))))

  rename_alike : (ro : Membership) (a : ℕ) (r : Rename) → AgreeOn (asked_first a (op.Rename r)) T V → AgreeOn (asked_then T a (op.Rename r)) T V → Alike (rename_rule ro V a r) (rename_rule ro T a r)
  rename_alike ro a r first agree =
      let named_all = left (homes (r.from_ ∷ r.to_ ∷ r.file ∷ [])) _ first in
      let rest = right (home_areas r.from_) _ named_all in
      let froms = at_body (body T r.from_) (named r.old_) in
      let tos = at_body (body T r.to_) (named r.new_) in
      let others = right froms _ agree in
      let files = right tos _ others in
      let goes = moved_same V T r (home_same r.file (left (home_areas r.file) [] (right (home_areas r.to_) _ rest))) in
      let directory = ap (moves_directory V) goes ∙ moving_same V T (moved T r) (λ f is. ap is_dir_kind (kind_same (here (body T r.file) linked f (moved_is T r f is) files))) in
      same_demand refl (same_demand refl (same_find (home_same r.from_ (left (home_areas r.from_) _ named_all)) (λ d is. same_find (home_same r.to_ (left (home_areas r.to_) _ rest)) (λ t at_t.
      let at = here (body T r.from_) (named r.old_) d is (left froms _ agree) in
      let to = here (body T r.to_) (named r.new_) t at_t (left tos _ others) in
      same_demand (ap (λ o. stays r || is_some o) goes)
      (same_demand (ap is_dir_kind (kind_same at)) (same_demand (ap is_dir_kind (kind_same to)) (same_demand refl (same_demand refl (same_demand (ap (λ v. is_link_to v r.file) (name_same (later at)))
      (same_demand (ap is_nothing (name_same (later to))) (same_demand (ap not directory) same_end)))))))))))

  pub led_same : (p : Place) (o : Option GroupFile) → AgreeOn (pointer_of o) T V → unless_led V p o ≡ unless_led T p o
  led_same p None agree = refl
  led_same p (Some home) agree = ap (λ v. if leads_here v p then None else Some home) (pointer_same agree)

  drop_alike : (a : ℕ) (d : DropBody) → AgreeOn (asked_first a (op.Drop d)) T V → AgreeOn (asked_then T a (op.Drop d)) T V → Alike (drop_rule V a d) (drop_rule T a d)
  drop_alike a d first agree =
      let kind = kind_same first in
      same_demand (ap (λ v. not (is_nothing v)) kind)
      (same_find (ap (λ v. unless_led V (a, d.body) (group_home v)) kind ∙ led_same (a, d.body) (group_home (val T (At (a, d.body) KindOf))) agree) (λ home is. same_end))

  alike_of : (ro : Membership) (x : Action) (o : Op) → AgreeOn (asked_first x.author o) T V → AgreeOn (asked_then T x.author o) T V → SameBare o V T → Alike (rule_by_user ro V x o) (rule_by_user ro T x o)
  alike_of ro x (op.Create c) first agree bare = create_alike ro x.author c first agree
  alike_of ro x (op.Unlink u) first agree bare = unlink_alike ro x.author u first agree bare
  alike_of ro x (op.Write w) first agree bare = write_alike ro x.author x.format w first agree
  alike_of ro x (op.Truncate t) first agree bare = truncate_alike ro x.author x.format t first agree
  alike_of ro x (op.Take t) first agree bare = take_alike ro x.author t first
  alike_of ro x (op.Link l) first agree bare = link_alike ro x.author l first agree
  alike_of ro x (op.Rename r) first agree bare = rename_alike ro x.author r first agree
  alike_of ro x (op.Drop d) first agree bare = drop_alike x.author d first agree

  -- ---- what is asked for then

  bodies_same : (f : FileId) (areas : Place → List Area) → AgreeOn (home_areas f) T V → at_body (body V f) areas ≡ at_body (body T f) areas
  bodies_same f areas agree = ap (λ o. at_body o areas) (home_same f agree)

  pub first_home : (f : FileId) (fs : List FileId) (w : List Area) → AgreeOn (homes (f ∷ fs) ++ w) T V → AgreeOn (home_areas f) T V
  first_home f fs w agree = left (home_areas f) (homes fs) (left (homes (f ∷ fs)) w agree)

  pub next_home : (f g : FileId) (fs : List FileId) (w : List Area) → AgreeOn (homes (f ∷ g ∷ fs) ++ w) T V → AgreeOn (home_areas g) T V
  next_home f g fs w agree = left (home_areas g) (homes fs) (right (home_areas f) (homes (g ∷ fs)) (left (homes (f ∷ g ∷ fs)) w agree))

  pub third_home : (f g h : FileId) (w : List Area) → AgreeOn (homes (f ∷ g ∷ h ∷ []) ++ w) T V → AgreeOn (home_areas h) T V
  third_home f g h w agree =
      left (home_areas h) [] (right (home_areas g) _ (right (home_areas f) (homes (g ∷ h ∷ [])) (left (homes (f ∷ g ∷ h ∷ [])) w agree)))

  then_same : (a : ℕ) (o : Op) → AgreeOn (asked_first a o) T V → asked_then V a o ≡ asked_then T a o
  then_same a (op.Create c) first = bodies_same c.dir (named c.name) (first_home c.dir (c.file ∷ []) _ first)
  then_same a (op.Unlink u) first =
      ap (λ w. w ++ at_body (body V u.file) (leaving u.name)) (bodies_same u.dir (named u.name) (first_home u.dir (u.file ∷ []) _ first))
      ∙ ap (λ w. at_body (body T u.dir) (named u.name) ++ w) (bodies_same u.file (leaving u.name) (next_home u.dir u.file [] _ first))
  then_same a (op.Write w) first = bodies_same w.file sized (first_home w.file [] _ first)
  then_same a (op.Truncate t) first = bodies_same t.file sized (first_home t.file [] _ first)
  then_same a (op.Take t) first = bodies_same t.file kind_of (first_home t.file [] _ first)
  then_same a (op.Link l) first =
      ap (λ w. w ++ at_body (body V l.file) linked) (bodies_same l.dir (named l.name) (first_home l.dir (l.file ∷ []) _ first))
      ∙ ap (λ w. at_body (body T l.dir) (named l.name) ++ w) (bodies_same l.file linked (next_home l.dir l.file [] _ first))
  then_same a (op.Rename r) first =
      ap (λ w. w ++ (at_body (body V r.to_) (named r.new_) ++ at_body (body V r.file) linked)) (bodies_same r.from_ (named r.old_) (first_home r.from_ (r.to_ ∷ r.file ∷ []) _ first))
      ∙ ap (λ w. at_body (body T r.from_) (named r.old_) ++ (w ++ at_body (body V r.file) linked)) (bodies_same r.to_ (named r.new_) (next_home r.from_ r.to_ (r.file ∷ []) _ first))
      ∙ ap (λ w. at_body (body T r.from_) (named r.old_) ++ (at_body (body T r.to_) (named r.new_) ++ w)) (bodies_same r.file linked (third_home r.from_ r.to_ r.file _ first))
  then_same a (op.Drop d) first = ap (λ v. pointer_of (group_home v)) (kind_same first)

pub refusals_are_local : RefusalsAreLocal
unfolding why
refusals_are_local ro V T x agree bare =
    let all : AgreeOn (asked T x.author x.op) T V = record { each = agree } in
    let alike = same_demand refl (alike_of {T = T} {V = V} ro x x.op (left (asked_first x.author x.op) _ all) (right (asked_first x.author x.op) _ all) bare) in
    alike.refusals

pub asked_in_two_rounds : AskedInTwoRounds
asked_in_two_rounds V T a o agree = then_same {T = T} {V = V} a o (record { each = agree })
