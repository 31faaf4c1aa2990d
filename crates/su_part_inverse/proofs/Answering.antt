-- What answers bring.
use Rattle.std.proofs.Common.{◌≡◌, ◌⊎◌, inl, inr, refl, true, false, Option, Some, None, Result, Ok, Err, OnOk, OnErr, sym, subst}
use Rattle.std.specs.Prelude.{IsErr, IsOk, is_some}

-- where it is no error, what it brings
pub ok_of : {A E : Type 0} {P : Type 0} (r : Result A E) → IsOk r → OnOk r P → P
ok_of (Ok x) is p = p
ok_of (Err e) is p = absurd (let z : false ≡ true = is in cc)

-- whatever is answered, P holds of what is x after an answer and y after an error
pub either_way : {A E X : Type 0} (P : X → Type 0) (r : Result A E) (x y z : X) → OnOk r (P x) → OnErr r (P y) → z ≡ x → z ≡ y → P z
either_way P (Ok a) x y z p q e d = subst P (sym e) p
either_way P (Err a) x y z p q e d = subst P (sym d) q

-- where it is one, what it brings
pub err_of : {A E : Type 0} {P : Type 0} (r : Result A E) → IsErr r → OnErr r P → P
err_of (Ok x) is p = absurd (let z : false ≡ true = is in cc)
err_of (Err e) is p = p

pub ok_or_not : {A E : Type 0} (r : Result A E) → IsOk r ⊎ IsErr r
ok_or_not (Ok x) = inl refl
ok_or_not (Err e) = inr refl

pub not_some : {X : Type 0} (o : Option X) → is_some o ≡ false → o ≡ None
not_some None e = refl
not_some (Some x) e = absurd cc
