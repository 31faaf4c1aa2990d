-- The cells that the check of an operation may ask for, whatever it answers.
use Rattle.std.specs.Prelude.{◌≡◌, ℕ, true, List, [], ◌∷◌, ◌++◌, Option, Some, None, ⊤}
use Rattle.su_bytes.specs.declared.file_ids.FileId.{FileId}
use Rattle.su_bytes.specs.declared.file_ids.FileId.TheVariants.{User, Group}
use Rattle.su_bytes.specs.Membership.{Membership}
use Rattle.su_bytes.specs.Place.{Place, GroupFile}
use Rattle.su_node.specs.Name.{Name}
use Rattle.su_node.specs.Field.{Field.KindOf}
use Rattle.su_table.specs.Tree.{Tree}
use Rattle.su_table.specs.Cell.{Cell, Cell.At, val}
use Rattle.su_table.specs.Query.{body, is_bare_at}
use Rattle.su_op.specs.declared.areas.Area.{Area}
use Rattle.su_op.specs.declared.areas.Area.TheVariants.{Pointer as PointerArea}
use Rattle.su_op.specs.declared.operations.Op.{Op}
use Rattle.su_op.specs.declared.operations.Op.TheVariants.{Create, Unlink, Write, Truncate, Take, Link, Rename, Drop}
use Rattle.su_op.specs.Area.{kind_cell, links_cell, size_cell, name_cell, has}
use Rattle.su_op.specs.Action.{Action}
use Rattle.su_op.specs.DropBody.{group_home}
use Rattle.su_op.specs.Operation.{why}

-- the cell that tells where a file's body stands
abbrev pub home_areas : FileId → List Area
home_areas (User u i) = kind_cell (u, i) ∷ []
home_areas (Group g k) = PointerArea (g, k) ∷ []

-- what is asked of a directory about a name
abbrev pub named : Name → Place → List Area
named x d = kind_cell d ∷ name_cell x d ∷ []

-- what is asked of what gets a name or moves
abbrev pub linked : Place → List Area
linked f = kind_cell f ∷ links_cell f ∷ []

-- What is asked of what goes. The name is one of the directory that lost it: of what goes, any name
-- tells whether it has some.
abbrev pub leaving : Name → Place → List Area
leaving x f = kind_cell f ∷ links_cell f ∷ name_cell x f ∷ []

-- what is asked of a file that is written or cut
abbrev pub sized : Place → List Area
sized f = kind_cell f ∷ size_cell f ∷ []

-- areas at a body, if there is one
abbrev pub at_body : Option Place → (Place → List Area) → List Area
at_body None areas = []
at_body (Some p) areas = areas p

-- the pointer of a group file, if there is one
abbrev pub pointer_of : Option GroupFile → List Area
pointer_of None = []
pointer_of (Some home) = PointerArea home ∷ []

-- the files that an operation names
abbrev pub files_named : Op → List FileId
files_named (Create c) = c.dir ∷ c.file ∷ []
files_named (Unlink u) = u.dir ∷ u.file ∷ []
files_named (Write w) = w.file ∷ []
files_named (Truncate t) = t.file ∷ []
files_named (Take t) = t.file ∷ []
files_named (Link l) = l.dir ∷ l.file ∷ []
files_named (Rename r) = r.from_ ∷ r.to_ ∷ r.file ∷ []
files_named (Drop d) = []

-- the place of its author's at which an operation makes an inode, or drops one
abbrev pub own_place : ℕ → Op → Option Place
own_place a (Create c) = Some (a, c.body)
own_place a (Take t) = Some (a, t.body)
own_place a (Drop d) = Some (a, d.body)
own_place a _ = None

-- where files stand
abbrev pub homes : List FileId → List Area
homes [] = []
homes (f ∷ fs) = home_areas f ++ homes fs

-- what is asked of a place of one's own, and of what is taken over
abbrev pub kind_of : Place → List Area
kind_of p = kind_cell p ∷ []

-- The areas that the check of an operation by user a asks for first, whatever stands in the tree:
-- where the files stand that it names, and what stands at the place of the author's.
abbrev pub asked_first : ℕ → Op → List Area
asked_first a op = homes (files_named op) ++ at_body (own_place a op) kind_of

-- Those that it may ask for then in T: of what stands there the kind, a name, the links or the size;
-- and the pointer of the group file that a body was made for.
abbrev pub asked_then : Tree → ℕ → Op → List Area
asked_then T a (Create c) = at_body (body T c.dir) (named c.name)
asked_then T a (Unlink u) =
    at_body (body T u.dir) (named u.name) ++ at_body (body T u.file) (leaving u.name)
asked_then T a (Write w) = at_body (body T w.file) sized
asked_then T a (Truncate t) = at_body (body T t.file) sized
asked_then T a (Take t) = at_body (body T t.file) kind_of
asked_then T a (Link l) = at_body (body T l.dir) (named l.name) ++ at_body (body T l.file) linked
asked_then T a (Rename r) =
    at_body (body T r.from_) (named r.old_)
    ++ (at_body (body T r.to_) (named r.new_) ++ at_body (body T r.file) linked)
asked_then T a (Drop d) = pointer_of (group_home (val T (At (a, d.body) KindOf)))

-- all that it may ask for
abbrev pub asked : Tree → ℕ → Op → List Area
asked T a op = asked_first a op ++ asked_then T a op

-- the trees have the same values in the areas
abbrev pub AgreeIn : List Area → Tree → Tree → Type 0
AgreeIn w V T = (c : Cell) → has w c ≡ true → val V c ≡ val T c

-- Whether a directory has names is no cell: an unlink asks for it of the file that goes.
abbrev pub SameBare : Op → Tree → Tree → Type 0
SameBare (Unlink u) V T = (f : Place) → body T u.file ≡ Some f → is_bare_at V f ≡ is_bare_at T f
SameBare _ V T = ⊤

-- In each tree that agrees with T on the cells that the check of an action may ask for, the action is
-- accepted or refused alike, with the same refusal.
abbrev pub RefusalsAreLocal : Type 0
RefusalsAreLocal =
    (ro : Membership) (V T : Tree) (x : Action)
    → AgreeIn (asked T x.author x.op) V T → SameBare x.op V T → why ro V x ≡ why ro T x

-- What may be asked for then is known from what is asked for first.
abbrev pub AskedInTwoRounds : Type 0
AskedInTwoRounds =
    (V T : Tree) (a : ℕ) (op : Op)
    → AgreeIn (asked_first a op) V T → asked_then V a op ≡ asked_then T a op
