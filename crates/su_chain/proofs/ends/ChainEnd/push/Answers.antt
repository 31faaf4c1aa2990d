use Rattle.std.proofs.Common.{◌≡◌, ◌<◌, length, arith, ap, ◌∙◌, sym, refl, subst, ◌++◌}
use Rattle.std.specs.Prelude.{option_to_list}
use Rattle.std.proofs.Math.ListN.{set}
use Rattle.su_used_keys.specs.UsedKeys.{HasJust}
use Rattle.su_version.specs.Version.{Version}
use Rattle.su_version.specs.Chain.{chain_keys, key_after}
use Rattle.su_chain.specs.ChainEnd.{user_at}
use Rattle.su_chain.specs.declared.ends.UserKey.{UserKey}
use Rattle.su_chain.proofs.EndLemmas.{author_key, end_further, user_read, user_within, vector_long}
use Rattle.su_chain.proofs.ends.ChainEnd.push.Goals as goal

pub after-requires-clause-user : goal.after-requires-clause-user
after-requires-clause-user c =
    let (cs, end, next) = c.requires.next in
    let author : c.from-author.result ≡ c.args.commit.now.version.author =
    c.from-author.ensures ∙ c.number.ensures.value ∙ c.author.ensures.value ∙ ap (λ (v : Version). v.author) c.version-version.ensures.value in
    let inside : c.from-author.result < length c.args.self.now.users.items = omega (arith, end.users) in
    author_key c.args.roster.now cs c.args.self.now end c.args.commit.now next c.version-version.ensures.commit.version.author c.index.result.now
    (user_read c.args.self.now.users.items c.from-author.result c.index.result.now c.index.ensures inside ∙ ap (user_at c.args.self.now.users.items) author)

pub set-requires : goal.set-requires
set-requires c =
    let (cs, end, next) = c.requires.next in
    vector_long c.args.roster.now cs c.args.self.now end c.args.commit.now next ∙ ap length (sym (c.vector.ensures ∙ ap (λ (v : Version). v.vector) c.version-version.ensures.value))

pub returns : goal.returns
returns c cs end next =
    let user = c.version-version.ensures.commit.version.author in
    let within = user_within c.args.self.now.users.items c.args.commit.now.version.author end.users user in
    let author : c.from-author.result ≡ c.args.commit.now.version.author =
    c.from-author.ensures ∙ c.number.ensures.value ∙ c.author.ensures.value ∙ ap (λ (v : Version). v.author) c.version-version.ensures.value in
    let inside : c.from-author.result < length c.args.self.now.users.items = omega (arith, end.users) in
    let read = user_read c.args.self.now.users.items c.from-author.result c.index.result.now c.index.ensures inside ∙ ap (user_at c.args.self.now.users.items) author in
    end_further c.args.roster.now cs c.args.self.now end c.args.commit.now _ c.after.result next user within
    (c.after.ensures.key ∙ ap (λ (x : UserKey). key_after x.key c.args.commit.now.version.next_key) read)
    c.after.ensures.leaf
    (λ i. set c.args.self.now.users.items (author i) c.after.result)
    refl c.requires.digest
    (c.format-self.ensures ∙ ap (λ (v : Version). v.format) c.version-version.ensures.value)
    (c.set.ensures ∙ c.vector.ensures ∙ ap (λ (v : Version). v.vector) c.version-version.ensures.value)
    (subst (λ next. HasJust (chain_keys c.args.roster.now cs ++ option_to_list next) c.add_key.new.used) (c.next_key.ensures ∙ ap (λ (v : Version). v.next_key) c.version-version.ensures.value)
    (c.add_key.ensures (chain_keys c.args.roster.now cs) end.used))
