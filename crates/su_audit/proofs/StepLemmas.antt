-- One record of a log.
use Rattle.std.proofs.Common.{◌≡◌, ℕ, ◌+◌, Bool, false, ◌⊎◌, List, [], ◌∷◌, ◌++◌, length, inl, inr, refl, ap, sym, subst, ◌∙◌, append_assoc}
use Rattle.std.specs.Prelude.{◌≢◌, ⊤, Result, Ok, Err, IfErr, OnOk, Contains}
use Rattle.std.proofs.lemmas.List.Elements.{Contains-append_left, Contains-push, Contains-push_cases}
use Rattle.su_op.specs.declared.operations.Change.{Change}
use Rattle.su_change.specs.Item.{item_bytes}
use Rattle.su_bytes.specs.declared.refusals.Refusal.TheVariants.{NoMemory, MissingBlock, Malformed}
use Rattle.sha2.specs.Sha256.{sha256}
use Rattle.su_block.specs.Memory.{HasItemOf}
use Rattle.su_no_blocks.specs.declared.sources.NoBlocks.{NoBlocks}
use Rattle.su_legal.specs.Legal.{Committed}
use Rattle.su_stored_desk.proofs.Public.{gives_never, quiet_is_clear}
use Rattle.su_version.specs.Commit.{Commit, IsCommit, commit_bytes}
use Rattle.su_view.specs.Holding.{HoldingState, Took}
use Rattle.su_view.specs.Joining.{IsRefusedCommit}
use Rattle.su_view.specs.Viewed.{FailsToLoad, Grows, IsClear, ViewOn, desk_of}
use Rattle.su_view.specs.declared.refusals.ViewRefusal.{ViewRefusal}
use Rattle.su_view.specs.declared.refusals.ViewRefusal.TheVariants.{Plain}
use Rattle.su_log.specs.Part.{part_bytes}
use Rattle.su_log.specs.Log.{LogRecord, record_bytes}
use Rattle.su_log.specs.Record.{BeginsWithRecord, StopsSo}
use Rattle.su_log.specs.declared.records.Stop.TheVariants.{Cut}
use Rattle.su_audit.specs.declared.steps.NotTaken.{NotTaken}
use Rattle.su_audit.specs.declared.steps.NotTaken.TheVariants.{Refused, Unloaded}
use Rattle.su_audit.specs.declared.steps.Step.{Step}
use Rattle.su_audit.specs.declared.steps.Step.TheVariants as step
use Rattle.su_audit.specs.Step.{IfRefused, IsRefusedRecord, IsRefusedNext, TakesRecord, Takes, Steps}

-- a source that gives more
pub wider_source : (MayGive More : List ℕ → Type 0) (v : HoldingState) (c : Commit) (e : ViewRefusal) → ((s : List ℕ) → MayGive s → More s) → IsRefusedCommit MayGive v c e → IsRefusedCommit More v c e
wider_source MayGive More v c e more (inl not_next) = inl not_next
wider_source MayGive More v c e more (inr (bytes, gives, digest, next, why)) = inr (bytes, more bytes gives, digest, next, why)

-- Each item so far is held, or one with its digest.
module _ (had mid : List (List ℕ)) (item : List ℕ) (kept : (s : List ℕ) → Contains had s → Contains mid s) (held : HasItemOf mid (sha256 item)) where
  pub each_is_held : (s : List ℕ) → Contains (had ++ item ∷ []) s → HasItemOf mid (sha256 s)
  each_is_held s there = go (Contains-push_cases had item s there)
    where
      go : Contains had s ⊎ (item ≡ s) → HasItemOf mid (sha256 s)
      go (inl here) = (s, kept s here, refl)
      go (inr same) = subst (λ x. HasItemOf mid (sha256 x)) same held

  pub none_so_far : (digest : List ℕ) → ¬ HasItemOf mid digest → ¬ HasItemOf (had ++ item ∷ []) digest
  none_so_far digest none (s, there, is) = let (x, x_there, x_is) = each_is_held s there in none (x, x_there, x_is ∙ is)

-- what a commit is refused with that is offered with an item
abbrev pub IsRefusedOffer : HoldingState → Commit → List ℕ → ViewRefusal → Type 0
IsRefusedOffer v c item e =
    (e ≡ Plain NoMemory) ⊎ ((e ≡ Plain MissingBlock) × (sha256 item ≢ c.version.change)) ⊎ IsRefusedCommit (λ i. i ≡ item) v c e

module _ (had : List (List ℕ)) (item : List ℕ) (v : HoldingState) (bytes : List ℕ) (c : Commit) (good : IsCommit c) (is : bytes ≡ commit_bytes c) (source : List ℕ)
    (lacks : sha256 source ≢ c.version.change → ¬ HasItemOf (had ++ item ∷ []) c.version.change) (given : Contains (had ++ item ∷ []) source) where
  refused_offered : (e : ViewRefusal) → IsRefusedOffer v c source e → IsRefusedRecord v had bytes item e
  refused_offered e (inl memory) = inl memory
  refused_offered e (inr (inl (missing, other))) = inr (inr (inr (c, good, is, inl (missing, lacks other))))
  refused_offered e (inr (inr refused)) =
      inr (inr (inr (c, good, is, inr (wider_source (λ s. s ≡ source) (Contains (had ++ item ∷ [])) v c e (λ s same. subst (Contains (had ++ item ∷ [])) (sym same) given) refused))))

  pub refused_join : (r : Result ⊤ NotTaken) → IfErr r (IfRefused (IsRefusedOffer v c source)) → IfErr r (IfRefused (IsRefusedRecord v had bytes item))
  refused_join (Ok x) why = tt
  refused_join (Err (Refused e)) why = refused_offered e why
  refused_join (Err Unloaded) why = tt

-- ---- over a source that never gives anything

abbrev gives_nothing : NoBlocks → List ℕ → Type 0
gives_nothing s i = ⊥

-- nothing was mixed up
clear_always : (w : ViewOn NoBlocks) → IsClear gives_nothing w
clear_always w = quiet_is_clear gives_nothing (desk_of w) (gives_never gives_nothing (λ s i none. none) (desk_of w))

pub took_always : (w x : ViewOn NoBlocks) (more : List Committed) → Grows gives_nothing w more x → Took w.holding more x.holding
took_always w x more grows = record { may = grows.may (clear_always x); becomes = grows.becomes }

-- what is told of what a view refused that had an item
pub told_so : (w x : ViewOn NoBlocks) (c : Commit) (item : List ℕ) (is_named : Bool) (e : ViewRefusal) (told : NotTaken) → (is_named ≡ false → sha256 item ≢ c.version.change)
    → ((told ≡ Unloaded) × FailsToLoad e) ⊎ ((told ≡ Refused e) × (FailsToLoad e → (e ≡ Plain NoMemory) ⊎ ((e ≡ Plain MissingBlock) × (is_named ≡ false))))
    → (IsClear gives_nothing x → FailsToLoad e ⊎ ((e ≡ Plain MissingBlock) × (sha256 item ≢ c.version.change)) ⊎ IsRefusedCommit (λ i. i ≡ item) w.holding c e)
    → IfRefused (IsRefusedOffer w.holding c item) told
told_so w x c item is_named e told other (inl (unloaded, _)) why = subst (IfRefused (IsRefusedOffer w.holding c item)) (sym unloaded) tt
told_so w x c item is_named e told other (inr (same, loads)) why = subst (IfRefused (IsRefusedOffer w.holding c item)) (sym same) (go (why (clear_always x)))
  where
    load : (e ≡ Plain NoMemory) ⊎ ((e ≡ Plain MissingBlock) × (is_named ≡ false)) → IsRefusedOffer w.holding c item e
    load (inl memory) = inl memory
    load (inr (missing, is)) = inr (inl (missing, other is))

    go : FailsToLoad e ⊎ ((e ≡ Plain MissingBlock) × (sha256 item ≢ c.version.change)) ⊎ IsRefusedCommit (λ i. i ≡ item) w.holding c e → IsRefusedOffer w.holding c item e
    go (inl fails) = load (loads fails)
    go (inr refused) = inr refused

-- what no record comes of
refused_stop : (v : HoldingState) (had : List (List ℕ)) (at place : ℕ) (input : List ℕ) → StopsSo (Cut at) place input → IsRefusedNext v had place input (Plain (Malformed at))
refused_stop v had at place input (inl (same, goes_on, none)) = inl (ap (λ (p : ℕ). Plain (Malformed p)) same, goes_on, none)
refused_stop v had at place input (inr (first, rest, begins, same, none)) = inr (first, rest, begins, inl (ap (λ (p : ℕ). Plain (Malformed p)) same, none))

pub refused_step : (v v' : HoldingState) (had has : List (List ℕ)) (at place : ℕ) (input : List ℕ) (Left : ℕ → List ℕ → Type 0) (result : Step) → result ≡ step.Refused (Plain (Malformed at)) → StopsSo (Cut at) place input
    → Steps place v had input Left v' has result
refused_step v v' had has at place input Left result is stops = subst (Steps place v had input Left v' has) (sym is) (refused_stop v had at place input stops)

-- a record that is refused
pub refused_record : (v : HoldingState) (had : List (List ℕ)) (place : ℕ) (input : List ℕ) (r : LogRecord) (rest : List ℕ) (e : ViewRefusal) → BeginsWithRecord input r rest → IsRefusedRecord v had r.commit r.item e
    → IsRefusedNext v had place input e
refused_record v had place input r rest e b why = inr (r.commit, b.rest, b.commit, inr (r.item, rest, b.item, why))

-- what is held by then is this item, or one that was before
module _ (had mid : List (List ℕ)) (item : List ℕ) (more : (s : List ℕ) → Contains mid s → Contains had s ⊎ (s ≡ item)) where
  pub one_of : (s : List ℕ) → Contains mid s → Contains (had ++ item ∷ []) s
  one_of s there = go (more s there)
    where
      go : Contains had s ⊎ (s ≡ item) → Contains (had ++ item ∷ []) s
      go (inl before) = Contains-append_left had (item ∷ []) s before
      go (inr same) = subst (Contains (had ++ item ∷ [])) (sym same) (Contains-push had item)

  pub takes_join : (v v' : HoldingState) (has : List (List ℕ)) (c : Commit) (bytes source : List ℕ) (r : Result ⊤ NotTaken) → bytes ≡ commit_bytes c → Contains (had ++ item ∷ []) source
      → has ≡ mid → ((s : List ℕ) → Contains (had ++ item ∷ []) s → HasItemOf mid (sha256 s))
      → OnOk r ((change : Change) × (item_bytes change ≡ source) × Took v (record { commit = c; change = change } ∷ []) v') → OnOk r (TakesRecord v had (record { commit = bytes; item = item }) v' has)
  takes_join v v' has c bytes source (Err e) is given same kept took = tt
  takes_join v v' has c bytes source (Ok x) is given same kept (change, of_source, took) = record {
    taken = record { commit = c; change = change };
    bytes_are = is;
    took = took;
    given = subst (Contains (had ++ item ∷ [])) (sym of_source) given;
    no_more = λ s there. one_of s (subst (λ l. Contains l s) same there);
    kept = λ s there. subst (λ l. HasItemOf l (sha256 s)) (sym same) (kept s there);
  }

-- a record whose commit is taken
pub takes_record : (v v' : HoldingState) (had has : List (List ℕ)) (place : ℕ) (input : List ℕ) (r : LogRecord) (rest : List ℕ) (Left : ℕ → List ℕ → Type 0)
    → BeginsWithRecord input r rest → Left (place + length (record_bytes r)) rest → TakesRecord v had r v' has → Takes place v had input Left v' has
takes_record v v' had has place input r rest Left b left takes = record {
  first = r;
  rest = rest;
  begins = b.commit.whole ∙ ap (λ x. part_bytes r.commit ++ x) b.item.whole ∙ sym (append_assoc (part_bytes r.commit) (part_bytes r.item) rest);
  left = left;
  takes = takes;
}
