use Rattle.std.proofs.Common.{◌⊎◌, ◌<◌, inl, ◌≡◌, ◌∙◌, [], Some, sym, ap}
use Rattle.su_desk.specs.History.{entry_by}
use Rattle.su_legal.specs.Legal.{entry_made, entry_of}
use Rattle.su_version.specs.Version.{Version}
use Rattle.su_bytes.specs.declared.refusals.Refusal.TheVariants.{MissingBlock, NoMemory}
use Rattle.su_reasons.proofs.Public.{refused_by}
use Rattle.su_why.proofs.Listed.{behind, entry_there, read_so, refused_so, spelled_at}
use Rattle.su_why.proofs.entries.entry_behind.Goals as goal

pub returns-in_err-commit-clause-refused : goal.returns-in_err-commit-clause-refused
returns-in_err-commit-clause-refused g c =
    let v = c.args.view.now.holding in
    let found = c.in-Some.ensures in
    let k = found.committed in
    let spelled = spelled_at v.roster [] v.held c.head-head.ensures.chain c.head-head.ensures.changes c.args.before k (behind v.held c.args.before k found.found) in
    refused_by (λ e. (e ≡ NoMemory) ⊎ ((e ≡ MissingBlock) × (0 < v.itemless))) c.from_residual.result c.in_err-commit.field-0.0 c.from_residual.ensures.1
    (inl (refused_so c.decode.result k.commit c.in_err-commit.field-0.0 c.in_err-commit.was (c.decode.ensures.only k.commit spelled.is_commit found.commit_is)))

pub returns-in_err-change-clause-refused : goal.returns-in_err-change-clause-refused
returns-in_err-change-clause-refused g c =
    let v = c.args.view.now.holding in
    let found = c.in-Some.ensures in
    let k = found.committed in
    let spelled = spelled_at v.roster [] v.held c.head-head.ensures.chain c.head-head.ensures.changes c.args.before k (behind v.held c.args.before k found.found) in
    refused_by (λ e. (e ≡ NoMemory) ⊎ ((e ≡ MissingBlock) × (0 < v.itemless))) c.from_residual-in_err-change.result c.in_err-change.field-0.0 c.from_residual-in_err-change.ensures.1
    (inl (refused_so c.decode-2.result k.change c.in_err-change.field-0.0 c.in_err-change.was (c.decode-2.ensures.only k.change spelled.is_change spelled.has_item found.item_is)))

pub returns-clause-value : goal.returns-clause-value
returns-clause-value g c =
    let v = c.args.view.now.holding in
    let found = c.in-Some.ensures in
    let k = found.committed in
    let at = behind v.held c.args.before k found.found in
    let spelled = spelled_at v.roster [] v.held c.head-head.ensures.chain c.head-head.ensures.changes c.args.before k at in
    let commit : c.in_ok-commit.commit ≡ k.commit = read_so c.decode.result k.commit c.in_ok-commit.commit c.in_ok-commit.was (c.decode.ensures.only k.commit spelled.is_commit found.commit_is) in
    let change : c.in_ok-change.change ≡ k.change = read_so c.decode-2.result k.change c.in_ok-change.change c.in_ok-change.was (c.decode-2.ensures.only k.change spelled.is_change spelled.has_item found.item_is) in
    let author : c.author.result ≡ c.in_ok-commit.commit.version.author = c.author.ensures.value ∙ ap (λ (x : Version). x.author) c.version-version.ensures.value in
    let format : c.format.result ≡ c.in_ok-commit.commit.version.format = c.format.ensures ∙ ap (λ (x : Version). x.format) c.version-version.ensures.value in
    let made : entry_by c.author.result c.format.result c.in_ok-change.change ≡ entry_of k
    = ap (λ a. entry_by a c.format.result c.in_ok-change.change) author
    ∙ ap (λ f. entry_by c.in_ok-commit.commit.version.author f c.in_ok-change.change) format
    ∙ ap (λ m. entry_made m c.in_ok-change.change) commit ∙ ap (λ x. entry_made k.commit x) change in
    entry_there v.held c.args.before k at ∙ ap Some (sym made)
