-- Questions one after another.
use Rattle.std.specs.Prelude.{◌≡◌, ◌⊎◌, Result, Ok, Err, IfOk, IfErr}
use Rattle.std.proofs.Common.{inl, inr, subst, sym}
use Rattle.su_bytes.specs.declared.refusals.Refusal.{Refusal}
use Rattle.su_bytes.specs.declared.refusals.Refusal.TheVariants.{NoMemory}
use Rattle.su_table.specs.Tree.{Tree}
use Rattle.su_reading.specs.Reading.{Inquiry, WorksOut}

-- what holds if a result is a value, or a refusal
pub ok_weaker : {A : Type 0} (r : Result A Refusal) (P Q : A → Type 0) → ((a : A) → P a → Q a) → IfOk r P → IfOk r Q
ok_weaker (Ok a) P Q f h = f a h
ok_weaker (Err e) P Q f h = tt

pub err_weaker : {A : Type 0} (r : Result A Refusal) (P Q : Refusal → Type 0) → ((e : Refusal) → P e → Q e) → IfErr r P → IfErr r Q
err_weaker (Ok a) P Q f h = tt
err_weaker (Err e) P Q f h = f e h

pub ok_is : {A : Type 0} {r : Result A Refusal} (P : A → Type 0) (a : A) → r ≡ Ok a → P a → IfOk r P
ok_is P a is h = subst (λ w. IfOk w P) (sym is) h

pub ok_got : {A : Type 0} {r : Result A Refusal} (P : A → Type 0) (a : A) → r ≡ Ok a → IfOk r P → P a
ok_got P a is h = subst (λ w. IfOk w P) is h

pub err_is : {A : Type 0} {r : Result A Refusal} (P : Refusal → Type 0) (e : Refusal) → r ≡ Err e → P e → IfErr r P
err_is P e is h = subst (λ w. IfErr w P) (sym is) h

pub err_got : {A : Type 0} {r : Result A Refusal} (P : Refusal → Type 0) (e : Refusal) → r ≡ Err e → IfErr r P → P e
err_got P e is h = subst (λ w. IfErr w P) is h

module _ {R : Type 0} {shows : R → Tree → Type 0} {fails : Tree → R → Refusal → Type 0}
    {follows : R → R → Type 0} where
  -- nothing was asked, and the value is an answer
  pub answered : {A : Type 0} {IsAnswer : Tree → A → Type 0} {IsRefusal : Tree → Refusal → Type 0} {result : Result A Refusal} {r : R} (a : A)
      → result ≡ Ok a → follows r r → ((T : Tree) → shows r T → IsAnswer T a) → Inquiry shows fails follows r r result IsAnswer IsRefusal
  answered {IsAnswer = IsAnswer} {IsRefusal = IsRefusal} {r = r} a is itself so = record {
    still = λ T h. h;
    answer = λ T h. ok_is (IsAnswer T) a is (so T h);
    refused = λ T h. subst (λ w. IfErr w (λ e. fails T r e ⊎ (e ≡ NoMemory) ⊎ IsRefusal T e)) (sym is) tt;
    comes = itself;
  }

  -- nothing was asked, and it is refused: for want of memory, or as it is meant
  pub refused_so : {A : Type 0} {IsAnswer : Tree → A → Type 0} {IsRefusal : Tree → Refusal → Type 0} {result : Result A Refusal} {r : R} (e : Refusal)
      → result ≡ Err e → follows r r → ((T : Tree) → shows r T → (e ≡ NoMemory) ⊎ IsRefusal T e) → Inquiry shows fails follows r r result IsAnswer IsRefusal
  refused_so {IsAnswer = IsAnswer} {IsRefusal = IsRefusal} {r = r} e is itself so = record {
    still = λ T h. h;
    answer = λ T h. subst (λ w. IfOk w (IsAnswer T)) (sym is) tt;
    refused = λ T h. err_is (λ y. fails T r y ⊎ (y ≡ NoMemory) ⊎ IsRefusal T y) e is (inr (so T h));
    comes = itself;
  }

  -- a question was refused, and so is the whole
  pub refused_on : {A B : Type 0} {IsA : Tree → A → Type 0} {NoA : Tree → Refusal → Type 0} {IsB : Tree → B → Type 0} {NoB : Tree → Refusal → Type 0}
      {first : Result A Refusal} {result : Result B Refusal} {r s : R} (e : Refusal)
      → first ≡ Err e → result ≡ Err e → ((T : Tree) → shows r T → NoA T e → (e ≡ NoMemory) ⊎ NoB T e)
      → Inquiry shows fails follows r s first IsA NoA → Inquiry shows fails follows r s result IsB NoB
  refused_on {NoA = NoA} {IsB = IsB} {NoB = NoB} {s = s} e was is so h = record {
    still = h.still;
    answer = λ T shown. subst (λ w. IfOk w (IsB T)) (sym is) tt;
    refused = λ T shown. err_is (λ y. fails T s y ⊎ (y ≡ NoMemory) ⊎ NoB T y) e is
        (elim (err_got (λ y. fails T s y ⊎ (y ≡ NoMemory) ⊎ NoA T y) e was (h.refused T shown)) [
          | inl failed ↦ inl failed
          | inr (inl none) ↦ inr (inl none)
          | inr (inr why) ↦ inr (so T shown why)
        ]);
    comes = h.comes;
  }

  -- a question was answered, and then the rest was, of which what it answers or refuses is so for the whole
  pub after : {A B C : Type 0} {IsA : Tree → A → Type 0} {NoA : Tree → Refusal → Type 0} {IsB : Tree → B → Type 0} {NoB : Tree → Refusal → Type 0} {IsC : Tree → C → Type 0} {NoC : Tree → Refusal → Type 0}
      {first : Result A Refusal} {rest : Result B Refusal} {result : Result C Refusal} {r s t : R} (a : A)
      → first ≡ Ok a → ((x y z : R) → follows x y → follows y z → follows x z)
      → Inquiry shows fails follows r s first IsA NoA → Inquiry shows fails follows s t rest IsB NoB
      → ((T : Tree) → shows r T → IsA T a → IfOk rest (IsB T) → IfOk result (IsC T))
      → ((T : Tree) → shows r T → IsA T a → IfErr rest (λ e. fails T t e ⊎ (e ≡ NoMemory) ⊎ NoB T e) → IfErr result (λ e. fails T t e ⊎ (e ≡ NoMemory) ⊎ NoC T e))
      → Inquiry shows fails follows r t result IsC NoC
  after {IsA = IsA} {r = r} {s = s} {t = t} a was on h1 h2 ok err = record {
    still = λ T shown. h2.still T (h1.still T shown);
    answer = λ T shown. ok T shown (ok_got (IsA T) a was (h1.answer T shown)) (h2.answer T (h1.still T shown));
    refused = λ T shown. err T shown (ok_got (IsA T) a was (h1.answer T shown)) (h2.refused T (h1.still T shown));
    comes = on r s t h1.comes h2.comes;
  }

  -- the same where the rest's result is that of the whole
  pub on : {A B : Type 0} {IsA : Tree → A → Type 0} {NoA : Tree → Refusal → Type 0} {IsB IsC : Tree → B → Type 0} {NoB NoC : Tree → Refusal → Type 0}
      {first : Result A Refusal} {rest : Result B Refusal} {r s t : R} (a : A)
      → first ≡ Ok a → ((x y z : R) → follows x y → follows y z → follows x z)
      → Inquiry shows fails follows r s first IsA NoA → Inquiry shows fails follows s t rest IsB NoB
      → ((T : Tree) → shows r T → IsA T a → (b : B) → IsB T b → IsC T b)
      → ((T : Tree) → shows r T → IsA T a → (e : Refusal) → NoB T e → NoC T e)
      → Inquiry shows fails follows r t rest IsC NoC
  on {IsB = IsB} {IsC = IsC} {NoB = NoB} {NoC = NoC} {rest = rest} {t = t} a was follows_on h1 h2 ok err =
      after a was follows_on h1 h2
      (λ T shown is. ok_weaker rest (IsB T) (IsC T) (ok T shown is))
      (λ T shown is. err_weaker rest (λ e. fails T t e ⊎ (e ≡ NoMemory) ⊎ NoB T e) (λ e. fails T t e ⊎ (e ≡ NoMemory) ⊎ NoC T e)
      (λ e. elim [ inl failed ↦ inl failed | inr (inl none) ↦ inr (inl none) | inr (inr why) ↦ inr (inr (err T shown is e why)) ]))

  -- what is told is told of what follows from it
  pub so : {A : Type 0} {IsA IsB : Tree → A → Type 0} {NoA NoB : Tree → Refusal → Type 0} {result : Result A Refusal} {r s : R}
      → ((T : Tree) → shows r T → (a : A) → IsA T a → IsB T a) → ((T : Tree) → shows r T → (e : Refusal) → NoA T e → NoB T e)
      → Inquiry shows fails follows r s result IsA NoA → Inquiry shows fails follows r s result IsB NoB
  so {IsA = IsA} {IsB = IsB} {NoA = NoA} {NoB = NoB} {result = result} {s = s} ok err h = record {
    still = h.still;
    answer = λ T shown. ok_weaker result (IsA T) (IsB T) (ok T shown) (h.answer T shown);
    refused = λ T shown. err_weaker result (λ e. fails T s e ⊎ (e ≡ NoMemory) ⊎ NoA T e) (λ e. fails T s e ⊎ (e ≡ NoMemory) ⊎ NoB T e)
        (λ e. elim [ inl failed ↦ inl failed | inr (inl none) ↦ inr (inl none) | inr (inr why) ↦ inr (inr (err T shown e why)) ]) (h.refused T shown);
    comes = h.comes;
  }

  -- ---- questions one after another, and what they end with

  -- one was answered, and then another was asked
  pub joined : {A B : Type 0} {IsA : Tree → A → Type 0} {NoA : Tree → Refusal → Type 0} {IsB : Tree → B → Type 0} {NoB : Tree → Refusal → Type 0} {first : Result A Refusal} {rest : Result B Refusal} {r s t : R} (a : A)
      → first ≡ Ok a → ((x y z : R) → follows x y → follows y z → follows x z)
      → Inquiry shows fails follows r s first IsA NoA → Inquiry shows fails follows s t rest IsB NoB
      → Inquiry shows fails follows r t rest (λ T b. IsA T a × IsB T b) (λ T e. IsA T a × NoB T e)
  joined a was follows_on h1 h2 = on a was follows_on h1 h2 (λ T shown is b so. (is, so)) (λ T shown is e why. (is, why))

  module _ {A B D : Type 0} {IsA : Tree → A → Type 0} {NoA : Tree → Refusal → Type 0} {asked : Result A Refusal} {view : B → D} {meant : Tree → Result D Refusal} {result : Result B Refusal} {r s : R} where
    -- what was answered makes the value
    pub ends_ok : (a : A) (b : B) → asked ≡ Ok a → result ≡ Ok b → Inquiry shows fails follows r s asked IsA NoA → ((T : Tree) → IsA T a → meant T ≡ Ok (view b)) → WorksOut shows fails follows r s result view meant
    ends_ok a b was is h whole = record {
      still = h.still;
      answer = λ T shown. ok_is (λ y. meant T ≡ Ok (view y)) b is (whole T (ok_got (IsA T) a was (h.answer T shown)));
      refused = λ T shown. subst (λ w. IfErr w (λ e. fails T s e ⊎ (e ≡ NoMemory) ⊎ (meant T ≡ Err e))) (sym is) tt;
      comes = h.comes;
    }

    -- what was answered makes a refusal; or memory was wanting
    pub ends_err : (a : A) (e : Refusal) → asked ≡ Ok a → result ≡ Err e → Inquiry shows fails follows r s asked IsA NoA → ((T : Tree) → IsA T a → (e ≡ NoMemory) ⊎ (meant T ≡ Err e)) → WorksOut shows fails follows r s result view meant
    ends_err a e was is h whole = record {
      still = h.still;
      answer = λ T shown. subst (λ w. IfOk w (λ y. meant T ≡ Ok (view y))) (sym is) tt;
      refused = λ T shown. err_is (λ y. fails T s y ⊎ (y ≡ NoMemory) ⊎ (meant T ≡ Err y)) e is (inr (whole T (ok_got (IsA T) a was (h.answer T shown))));
      comes = h.comes;
    }

    -- it was refused
    pub stops : (e : Refusal) → asked ≡ Err e → result ≡ Err e → Inquiry shows fails follows r s asked IsA NoA → ((T : Tree) → NoA T e → meant T ≡ Err e) → WorksOut shows fails follows r s result view meant
    stops e was is h whole = refused_on e was is (λ T shown why. inr (whole T why)) h

  -- the last answer is the whole's
  pub ends : {B D : Type 0} {IsA : Tree → B → Type 0} {NoA : Tree → Refusal → Type 0} {view : B → D} {meant : Tree → Result D Refusal} {result : Result B Refusal} {r s : R}
      → Inquiry shows fails follows r s result IsA NoA → ((T : Tree) (b : B) → IsA T b → meant T ≡ Ok (view b)) → ((T : Tree) (e : Refusal) → NoA T e → meant T ≡ Err e) → WorksOut shows fails follows r s result view meant
  ends h ok err = so (λ T shown. ok T) (λ T shown. err T) h

  module _ {B D : Type 0} {view : B → D} {meant : Tree → Result D Refusal} {result : Result B Refusal} {r : R} where
    -- nothing was asked
    pub ok_at_once : (b : B) → result ≡ Ok b → follows r r → ((T : Tree) → meant T ≡ Ok (view b)) → WorksOut shows fails follows r r result view meant
    ok_at_once b is itself h = answered b is itself (λ T shown. h T)

    pub err_at_once : (e : Refusal) → result ≡ Err e → follows r r → ((T : Tree) → (e ≡ NoMemory) ⊎ (meant T ≡ Err e)) → WorksOut shows fails follows r r result view meant
    err_at_once e is itself h = refused_so e is itself (λ T shown. h T)
