use Rattle.std.proofs.Common.{◌≡◌, ◌∙◌, ◌++◌, ◌∷◌, [], ℕ, ◌+◌, ◌<◌, ◌^◌, length, arith, refl, sym, ap, subst}
use Rattle.std.specs.List.{All}
use Rattle.su_bytes.specs.declared.principals.Principal.{Principal}
use Rattle.su_desk.specs.Desk.{DeskState, with_entry}
use Rattle.su_desk.specs.History.{entry_by, rekey_by, keys_after}
use Rattle.su_desk.specs.Trial.{tree_of}
use Rattle.su_desk.specs.declared.entries.Entry.{Entry}
use Rattle.su_desk.proofs.VersionNumbers.{counters_next, versions_within}
use Rattle.su_used_keys.specs.UsedKeys.{HasJust}
use Rattle.su_stored_desk.specs.Right.{state_of}
use Rattle.su_stored_desk.proofs.NamedKeys.{keeps_rekey, one_key_more}
use Rattle.su_stored_desk.proofs.Rightness.{keeps_tree, right_at}
use Rattle.su_stored_forest.specs.Shows.{Holds}
use Rattle.su_stored_desk.specs.Keeping.{Keeps}
use Rattle.su_stored_desk.proofs.desks.Desk.rekey.Goals as goal

pub returns-clause-right : goal.returns-clause-right
returns-clause-right g c right =
    let s = c.args.self.now in
    let k = c.args.key in
    let e : Entry = rekey_by c.args.author c.args.format k in
    let d : DeskState = with_entry (state_of s) e in
    let entries : c.push_reserved.new.self.items ≡ s.entries.items ++ e ∷ []
    = c.push_reserved.ensures.items ∙ ap (λ (x : Entry). c.reserve.new.self.items ++ x ∷ []) (c.new-2.ensures ∙ ap (entry_by c.args.author c.args.format) c.in_ok-change.ensures) ∙ ap (λ h. h ++ e ∷ []) c.in_ok-reserve.ensures.items in
    let keeps = keeps_rekey s.roster s.entries.items s.kept (tree_of (state_of s)) c.args.author c.args.format k right.keeps c.requires (c.in_ok-check_key.ensures.accepted right) in
    let tree : tree_of (state_of s) ≡ tree_of d = keeps_tree s.roster d.history s.kept (tree_of (state_of s)) keeps in
    let small : length s.entries.items + 1 < 2 ^ 64 = let m = c.reserve.new.self.small in let n = s.entries.small in omega (arith, s.entries.ok.0, c.in_ok-reserve.ensures.ok, c.in_ok-reserve.ensures.len) in
    right_at _ d (ap (λ h. record { roster = s.roster; history = h }) entries)
    (subst (Keeps s.roster d.history s.kept) tree keeps)
    (subst (Holds s.stored) tree right.holds)
    (counters_next s.roster s.entries.items e [] s.counters.len s.counters.items c.deref_mut.result.now c.raise.new.versions _ refl right.counters s.counters.ok.0 c.deref_mut.ensures.value
    (c.raise.ensures.raised (subst (All (λ (v : Principal × ℕ). v.1 + 1 < 2 ^ 64)) (sym (c.deref_mut.ensures.value ∙ right.counters)) (versions_within s.roster s.entries.items small))))
    (subst (λ ks. HasJust ks c.add.new.self) (sym (one_key_more s.roster s.entries.items e k refl))
    (c.add.ensures (keys_after s.roster s.entries.items) (c.in_ok-reserve-2.ensures.kept (keys_after s.roster s.entries.items) right.keys)))
