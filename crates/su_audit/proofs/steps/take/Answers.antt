use Rattle.std.proofs.Common.{◌≡◌, ◌⊎◌, ℕ, List, [], ◌∷◌, ◌++◌, subst, sym, ap, ◌∙◌}
use Rattle.std.specs.Prelude.{Contains, Err}
use Rattle.std.proofs.lemmas.List.Elements.{Contains-push}
use Rattle.sha2.specs.Sha256.{sha256}
use Rattle.su_block.specs.Memory.{HasItemOf}
use Rattle.su_log.specs.Record.{IsRead}
use Rattle.su_version.specs.Version.{Version}
use Rattle.su_audit.proofs.StepLemmas.{one_of, each_is_held, none_so_far, takes_join, refused_join}
use Rattle.su_audit.proofs.steps.take.Goals as goal

pub returns-in-Ok-get-clause-took : goal.returns-in-Ok-get-clause-took
returns-in-Ok-get-clause-took c =
    let had = c.args.items.now.items in
    let item = c.args.next.item.items in
    let mid = c.put.new.self.items in
    let read = subst (IsRead c.args.next.bytes.items) c.in-Ok-commit.is c.requires.read in
    let more : (x : List ℕ) → Contains mid x → Contains had x ⊎ (x ≡ item) = λ x there. subst (λ (l : List ℕ). Contains had x ⊎ (x ≡ l)) c.as_slice.ensures.value (c.put.ensures.more x there) in
    let held : HasItemOf mid (sha256 item) = subst (HasItemOf mid) (c.in-Ok.ensures.digest ∙ ap sha256 c.as_slice.ensures.value) c.in-Ok.ensures.held in
    let given : Contains (had ++ item ∷ []) c.in-Ok-get.found.items = one_of had mid item more c.in-Ok-get.found.items c.in-Ok-get.ensures.given in
    takes_join had mid item more c.args.view.now.holding c.join.new.view.holding c.get.new.self.items c.in-Ok-commit.commit c.args.next.bytes.items c.in-Ok-get.found.items c.join.result
    read.found.1 given c.get.ensures.kept (each_is_held had mid item c.put.ensures.kept held) c.join.ensures.took

pub returns-in-Ok-get-clause-refused : goal.returns-in-Ok-get-clause-refused
returns-in-Ok-get-clause-refused c =
    let had = c.args.items.now.items in
    let item = c.args.next.item.items in
    let mid = c.put.new.self.items in
    let read = subst (IsRead c.args.next.bytes.items) c.in-Ok-commit.is c.requires.read in
    let more : (x : List ℕ) → Contains mid x → Contains had x ⊎ (x ≡ item) = λ x there. subst (λ (l : List ℕ). Contains had x ⊎ (x ≡ l)) c.as_slice.ensures.value (c.put.ensures.more x there) in
    let names : c.change-change.result ≡ c.in-Ok-commit.commit.version.change = c.change-change.ensures ∙ ap (λ (v : Version). v.change) c.version.ensures.value in
    let given : Contains (had ++ item ∷ []) c.in-Ok-get.found.items = one_of had mid item more c.in-Ok-get.found.items c.in-Ok-get.ensures.given in
    let same : sha256 c.in-Ok-get.found.items ≡ c.in-Ok-commit.commit.version.change = c.in-Ok-get.ensures.checked ∙ names in
    refused_join had item c.args.view.now.holding c.args.next.bytes.items c.in-Ok-commit.commit read.found.0 read.found.1 c.in-Ok-get.found.items
    (λ other. absurd (other same)) given c.join.result c.join.ensures.refused

pub returns-in-Err-MissingBlock-clause-took : goal.returns-in-Err-MissingBlock-clause-took
returns-in-Err-MissingBlock-clause-took c =
    let had = c.args.items.now.items in
    let item = c.args.next.item.items in
    let mid = c.put.new.self.items in
    let read = subst (IsRead c.args.next.bytes.items) c.in-Ok-commit.is c.requires.read in
    let more : (x : List ℕ) → Contains mid x → Contains had x ⊎ (x ≡ item) = λ x there. subst (λ (l : List ℕ). Contains had x ⊎ (x ≡ l)) c.as_slice.ensures.value (c.put.ensures.more x there) in
    let held : HasItemOf mid (sha256 item) = subst (HasItemOf mid) (c.in-Ok.ensures.digest ∙ ap sha256 c.as_slice.ensures.value) c.in-Ok.ensures.held in
    let given : Contains (had ++ item ∷ []) c.args.next.item.items = Contains-push had item in
    takes_join had mid item more c.args.view.now.holding c.join-in-Err-MissingBlock.new.view.holding c.get.new.self.items c.in-Ok-commit.commit c.args.next.bytes.items c.args.next.item.items c.join-in-Err-MissingBlock.result
    read.found.1 given c.get.ensures.kept (each_is_held had mid item c.put.ensures.kept held) c.join-in-Err-MissingBlock.ensures.took

pub returns-in-Err-MissingBlock-clause-refused : goal.returns-in-Err-MissingBlock-clause-refused
returns-in-Err-MissingBlock-clause-refused c =
    let had = c.args.items.now.items in
    let item = c.args.next.item.items in
    let mid = c.put.new.self.items in
    let read = subst (IsRead c.args.next.bytes.items) c.in-Ok-commit.is c.requires.read in
    let held : HasItemOf mid (sha256 item) = subst (HasItemOf mid) (c.in-Ok.ensures.digest ∙ ap sha256 c.as_slice.ensures.value) c.in-Ok.ensures.held in
    let names : c.change-change.result ≡ c.in-Ok-commit.commit.version.change = c.change-change.ensures ∙ ap (λ (v : Version). v.change) c.version.ensures.value in
    let given : Contains (had ++ item ∷ []) c.args.next.item.items = Contains-push had item in
    let none : ¬ HasItemOf mid c.change-change.result = c.get.ensures.missing (c.in-Err-MissingBlock.is ∙ ap (λ e. Err e) c.in-Err-MissingBlock.field-0-is) in
    refused_join had item c.args.view.now.holding c.args.next.bytes.items c.in-Ok-commit.commit read.found.0 read.found.1 c.args.next.item.items
    (λ _. none_so_far had mid item c.put.ensures.kept held c.in-Ok-commit.commit.version.change (subst (λ d. ¬ HasItemOf mid d) names none)) given
    c.join-in-Err-MissingBlock.result c.join-in-Err-MissingBlock.ensures.refused

pub join-requires-in-Err-MissingBlock-clause-other : goal.join-requires-in-Err-MissingBlock-clause-other
join-requires-in-Err-MissingBlock-clause-other c =
    let mid = c.put.new.self.items in
    let held : HasItemOf mid (sha256 c.args.next.item.items) = subst (HasItemOf mid) (c.in-Ok.ensures.digest ∙ ap sha256 c.as_slice.ensures.value) c.in-Ok.ensures.held in
    let names : c.change-change.result ≡ c.in-Ok-commit.commit.version.change = c.change-change.ensures ∙ ap (λ (v : Version). v.change) c.version.ensures.value in
    let none : ¬ HasItemOf mid c.change-change.result = c.get.ensures.missing (c.in-Err-MissingBlock.is ∙ ap (λ e. Err e) c.in-Err-MissingBlock.field-0-is) in
    λ _ same. none (subst (HasItemOf mid) (same ∙ sym names) held)
