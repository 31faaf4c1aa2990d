-- A file of the store, as its calls see it.
use Rattle.std.specs.Prelude.{◌≡◌, ℕ, Bool, false, refl}
use Rattle.std.specs.Coded.{Coded, code_by, coded×, coded_ℕ, coded_bool}
use Rattle.sqlite.specs.Store.{Ghosts}
use Rattle.sqlite.specs.Tree.{Trees}
use Rattle.sqlite.specs.Held.{Held, state, held_code}
use Rattle.sqlite.specs.State.{State, HasCleanDisk}
use Rattle.su_store.specs.Kept.{nothing}
use Rattle.su_store.specs.Tables.{Stands, no_schema, store_schema}
use Rattle.su_store.specs.Changes.{HasRecords}

-- the connection, how many records there are, and whether a failed call has spent it
pub record File (S : Type 0) : Type 0 where
  pub held : Held S
  pub count : ℕ
  pub is_spent : Bool

-- how a proof tells two files apart
abbrev pub file_code : {S : Type 0} → Coded S → Coded (File S)
file_code {S} store =
    code_by (Held S × (ℕ × Bool)) (coded× (held_code store) (coded× coded_ℕ coded_bool))
    (λ f. (f.held, (f.count, f.is_spent)))
    (λ p. record { held = p.0; count = p.1.0; is_spent = p.1.1 }) (λ _. refl)

-- a file that isn't spent has the two tables
abbrev pub IsReady : {S : Type 0} → Ghosts S → Held S → Bool → Type 0
IsReady g held is_spent =
    is_spent ≡ false → HasCleanDisk (state g held) → (state g held).now.schema ≡ store_schema

-- A file that no call has failed: it counts the records that it shows, and a crash leaves what it
-- shows.
pub record IsAtRest {S : Type 0} (g : Ghosts S) (f : File S) : Type 0 where
  pub counted : HasRecords f.count (state g f.held).now.trees
  pub settled : (db : Trees) → (state g f.held).may_leave db → db ≡ (state g f.held).now.trees

-- A store's file is left as it is, and a new one keeps nothing yet.
pub record BeginsFrom (old new : State) : Type 0 where
  pub schema : new.now.schema ≡ store_schema
  pub same : old.now.schema ≡ store_schema → new.now.trees ≡ old.now.trees
  pub fresh : old.now.schema ≡ no_schema → Stands nothing new.now.trees
