-- What the check of an operation finds, by operations.
use Rattle.std.specs.Prelude.{◌≡◌, ℕ, Option, Some, None}
use Rattle.su_bytes.specs.Place.{Place}
use Rattle.su_bytes.specs.Membership.{Membership}
use Rattle.su_table.specs.Tree.{Tree}
use Rattle.su_table.specs.Query.{body, links_at, size_at}
use Rattle.su_op.specs.Writing.{Writing}
use Rattle.su_op.specs.declared.create.Create.{Create}
use Rattle.su_perform.specs.declared.create.AcceptedCreate.{AcceptedCreate}
use Rattle.su_op.specs.declared.unlink.Unlink.{Unlink}
use Rattle.su_perform.specs.declared.unlink.AcceptedUnlink.{AcceptedUnlink}
use Rattle.su_perform.specs.declared.write.AcceptedWrite.{AcceptedWrite}
use Rattle.su_op.specs.declared.truncate.Truncate.{Truncate}
use Rattle.su_perform.specs.declared.truncate.AcceptedTruncate.{AcceptedTruncate}
use Rattle.su_op.specs.declared.take.Take.{Take}
use Rattle.su_perform.specs.declared.take.AcceptedTake.{AcceptedTake}
use Rattle.su_op.specs.declared.link.Link.{Link}
use Rattle.su_perform.specs.declared.link.AcceptedLink.{AcceptedLink}
use Rattle.su_op.specs.declared.rename.Rename.{Rename}
use Rattle.su_perform.specs.declared.rename.AcceptedRename.{AcceptedRename}
use Rattle.su_op.specs.declared.drop_body.DropBody.{DropBody}
use Rattle.su_perform.specs.declared.drop_body.AcceptedDrop.{AcceptedDrop}
use Rattle.su_op.specs.DropBody.{stale_home}
use Rattle.su_op.specs.Rename.{moved}
use Rattle.su_op.specs.declared.operations.Op.{Op}
use Rattle.su_op.specs.declared.operations.Op.TheVariants as op
use Rattle.su_perform.specs.declared.accepted.Accepted.{Accepted}
use Rattle.su_perform.specs.declared.accepted.Accepted.TheVariants as accepted
use Rattle.su_op.specs.Action.{Action}
use Rattle.su_op.specs.Operation.{rule_of, why}
use Rattle.su_perform.specs.Accepted.{planned, FitsIn}
use Rattle.su_op.specs.Rule.{plan_of}
use Rattle.su_asked.specs.Asked.{AgreeIn, asked}

-- where the directory stands
pub record FoundCreate (T : Tree) (a : ℕ) (c : Create) (x : AcceptedCreate) : Type 0 where
  pub of : x.create.now ≡ c
  pub by : x.author ≡ a
  pub directory : body T c.dir ≡ Some x.directory

-- where the directory and the file stand, and how many links the file has
pub record FoundUnlink (T : Tree) (u : Unlink) (x : AcceptedUnlink) : Type 0 where
  pub of : x.unlink.now ≡ u
  pub directory : body T u.dir ≡ Some x.directory
  pub place : body T u.file ≡ Some x.place
  pub links : links_at T x.place ≡ x.links

-- where the file stands, and its size
pub record FoundWrite (T : Tree) (w : Writing) (x : AcceptedWrite) : Type 0 where
  pub of : x.write.now ≡ w
  pub place : body T w.file ≡ Some x.place
  pub size : size_at T x.place ≡ x.size

pub record FoundTruncate (T : Tree) (t : Truncate) (x : AcceptedTruncate) : Type 0 where
  pub of : x.truncate.now ≡ t
  pub place : body T t.file ≡ Some x.place
  pub size : size_at T x.place ≡ x.size

-- where the file stands
pub record FoundTake (T : Tree) (a : ℕ) (t : Take) (x : AcceptedTake) : Type 0 where
  pub of : x.take.now ≡ t
  pub by : x.author ≡ a
  pub place : body T t.file ≡ Some x.place

-- where the directory and the file stand, and how many links the file has
pub record FoundLink (T : Tree) (l : Link) (x : AcceptedLink) : Type 0 where
  pub of : x.link.now ≡ l
  pub directory : body T l.dir ≡ Some x.directory
  pub place : body T l.file ≡ Some x.place
  pub links : links_at T x.place ≡ x.links

-- where both directories stand, and a file that goes from one to the other
pub record FoundPlaces (T : Tree) (r : Rename) (here there : Place) (goes : Option Place)
    : Type 0 where
  pub source : body T r.from_ ≡ Some here
  pub target : body T r.to_ ≡ Some there
  pub moved : moved T r ≡ goes

pub record FoundRename (T : Tree) (r : Rename) (x : AcceptedRename) : Type 0 where
  pub of : x.rename.now ≡ r
  pub places : FoundPlaces T r x.source x.target x.moved

-- for which group file the body was made
pub record FoundDrop (T : Tree) (a : ℕ) (d : DropBody) (x : AcceptedDrop) : Type 0 where
  pub of : x.dropped.now ≡ d
  pub by : x.author ≡ a
  pub home : stale_home T (a, d.body) ≡ Some x.home

-- The accepted operation is this one, by user a, and what its check found is so in T.
abbrev pub Found : Tree → ℕ → Op → Accepted → Type 0
Found T a (op.Create c) (accepted.Create x) = FoundCreate T a c x
Found T a (op.Unlink u) (accepted.Unlink x) = FoundUnlink T u x
Found T a (op.Write w) (accepted.Write x) = FoundWrite T w x
Found T a (op.Truncate t) (accepted.Truncate x) = FoundTruncate T t x
Found T a (op.Take t) (accepted.Take x) = FoundTake T a t x
Found T a (op.Link l) (accepted.Link x) = FoundLink T l x
Found T a (op.Rename r) (accepted.Rename x) = FoundRename T r x
Found T a (op.Drop d) (accepted.Drop x) = FoundDrop T a d x
Found T a _ _ = ⊥

-- What was found in one tree is so in each that agrees with it on the cells that the check of the
-- operation may ask for.
abbrev pub FoundIsLocal : Type 0
FoundIsLocal =
    (V T : Tree) (a : ℕ) (o : Op) (x : Accepted)
    → AgreeIn (asked T a o) V T → Found V a o x → Found T a o x

-- What was found tells the plan: an accepted operation does what its rule has behind all checks.
abbrev pub FoundTellsPlan : Type 0
FoundTellsPlan =
    (ro : Membership) (T : Tree) (y : Action) (x : Accepted)
    → Found T y.author y.op x → plan_of (rule_of ro T y) ≡ planned T x

-- Where no check refuses, the accepted operation can be performed.
abbrev pub FoundFits : Type 0
FoundFits =
    (ro : Membership) (T : Tree) (y : Action) (x : Accepted)
    → Found T y.author y.op x → why ro T y ≡ None → FitsIn T x
