use Rattle.std.proofs.Common.{◌≡◌, sym, ap, ◌∙◌, subst, refl}
use Rattle.std.specs.Prelude.{Contains, None, Some, IfErr}
use Rattle.std.specs.Ordering.{nat_cmp}
use Rattle.std.specs.Cmp.Lexicographic.{slice_cmp}
use Rattle.std.specs.BTreeMap.{is_at}
use Rattle.std.proofs.lemmas.Result.{IfOk-weaker}
use Rattle.sha2.specs.Sha256.{sha256}
use Rattle.std.specs.Map.{values_of}
use Rattle.su_bytes.specs.declared.refusals.Refusal.TheVariants.{MissingBlock, NoMemory}
use Rattle.su_block.specs.Memory.{held_under}
use Rattle.su_block.proofs.Holding.{found_has_digest, none_has_digest, same_digest, own_digest, held_is}
use Rattle.su_block.proofs.memory.MemoryBlocksBlockSource.get.Goals as goal

pub returns-in_default-clause-missing : goal.returns-in_default-clause-missing
returns-in_default-clause-missing c = λ _ has.
    let key = c.as_bytes.result.now in
    let there = subst (λ m. Contains m.items has.0) (sym c.self.view_is) has.1 in
    none_has_digest (is_at (slice_cmp nat_cmp key)) key (own_digest key) c.self.inside.blocks.entries c.self.invariant (sym c.in_default.ensures.value) has.0 there (has.2 ∙ sym c.as_bytes.ensures)

pub returns-clause-checked : goal.returns-clause-checked
returns-clause-checked c =
    let key = c.as_bytes.result.now in
    let found = found_has_digest (is_at (slice_cmp nat_cmp key)) key (same_digest key) c.self.inside.blocks.entries c.self.invariant c.in-Some.item.now (sym c.in-Some.ensures.value) in
    IfOk-weaker c.copy.result (λ copy. copy.items ≡ c.in-Some.item.now) (λ copy. sha256 copy.items ≡ c.args.digest) (λ item is. ap sha256 is ∙ found.1 ∙ c.as_bytes.ensures) c.copy.ensures.value

pub returns-in_default-clause-none : goal.returns-in_default-clause-none
returns-in_default-clause-none c =
    let key = c.as_bytes.result.now in
    let none : held_under c.args.self.now.items c.args.digest ≡ None =
    ap (λ m. held_under m.items c.args.digest) (sym c.self.view_is)
    ∙ ap (held_under (values_of c.self.inside.blocks.entries)) (sym c.as_bytes.ensures)
    ∙ sym (held_is key c.self.inside.blocks.entries c.self.invariant)
    ∙ sym c.in_default.ensures.value in
    (λ _. none, λ _. refl)

-- what was found is held under the digest
found_under : (c : goal.After-copy) → held_under c.args.self.now.items c.args.digest ≡ Some c.in-Some.item.now
found_under c =
    let key = c.as_bytes.result.now in
    ap (λ m. held_under m.items c.args.digest) (sym c.self.view_is)
    ∙ ap (held_under (values_of c.self.inside.blocks.entries)) (sym c.as_bytes.ensures)
    ∙ sym (held_is key c.self.inside.blocks.entries c.self.invariant)
    ∙ sym c.in-Some.ensures.value

pub returns-clause-under : goal.returns-clause-under
returns-clause-under c =
    let some = found_under c in
    IfOk-weaker c.copy.result (λ copy. copy.items ≡ c.in-Some.item.now) _ (λ item is. some ∙ ap Some (sym is)) c.copy.ensures.value

pub returns-clause-none : goal.returns-clause-none
returns-clause-none c = (
  λ missing. let other : MissingBlock ≡ NoMemory = subst (λ r. IfErr r (λ e. e ≡ NoMemory)) missing c.copy.ensures.refused in absurd (cc),
  λ none. let other = sym none ∙ found_under c in absurd (cc),
)
