-- What a history tells of an entry of one operation without its change: which file's bytes it changes.
use Rattle.std.proofs.Common.{◌≡◌, ◌∷◌, ◌||◌, Bool, false, [], sym, subst}
use Rattle.std.proofs.Math.Bool.{or-false}
use Rattle.su_bytes.specs.Place.{file_eq}
use Rattle.su_bytes.specs.declared.file_ids.FileId.{FileId}
use Rattle.su_bytes.specs.declared.file_ids.Kind.{Kind}
use Rattle.su_bytes.specs.declared.file_ids.Kind.TheVariants.{File, Dir}
use Rattle.su_op.specs.declared.operations.Op.{Op}
use Rattle.su_op.specs.declared.operations.Op.TheVariants.{Create, Unlink, Write, Truncate, Take, Link, Rename, Drop}
use Rattle.su_op.specs.declared.operations.Change.{Change}
use Rattle.su_op.specs.declared.operations.Change.TheVariants.{Do, Undo, Rekey}
use Rattle.su_desk.specs.declared.fillings.Filling.{Filling}
use Rattle.su_desk.specs.declared.fillings.Filling.TheVariants.{Makes, Edits, Neither}
use Rattle.su_desk.specs.Filling.{filling, filling_by, filling_made}
use Rattle.su_person.specs.LastChange.{changes_bytes, does_change}

-- that is the answer whether the bytes of file f are changed, where one file alone is
abbrev pub Tells : FileId → Filling → Bool → Type 0
Tells f (Makes g) answer = answer ≡ file_eq f g
Tells f (Edits g) answer = answer ≡ file_eq f g
Tells f Neither answer = Unit {0}

made_tells : (f g : FileId) (k : Kind) → Tells f (filling_made k g) (file_eq f g || false)
made_tells f g File = or-false (file_eq f g)
made_tells f g Dir = tt

operation_tells : (f : FileId) (op : Op) → Tells f (filling_by op) (changes_bytes f op || false)
operation_tells f (Create c) = made_tells f c.file c.kind
operation_tells f (Unlink u) = tt
operation_tells f (Write w) = or-false (file_eq f w.file)
operation_tells f (Truncate t) = or-false (file_eq f t.file)
operation_tells f (Take t) = tt
operation_tells f (Link l) = tt
operation_tells f (Rename r) = tt
operation_tells f (Drop d) = tt

change_tells : (f : FileId) (c : Change) → Tells f (filling c) (does_change f c)
change_tells f (Do []) = tt
change_tells f (Do (op ∷ [])) = operation_tells f op
change_tells f (Do (op ∷ next ∷ ops)) = tt
change_tells f (Undo n) = tt
change_tells f (Rekey k) = tt

pub told : (f : FileId) (c : Change) (x : Filling) → x ≡ filling c → Tells f x (does_change f c)
told f c x is = subst (λ (y : Filling). Tells f y (does_change f c)) (sym is) (change_tells f c)
