use Rattle.std.proofs.Common.{◌≡◌, true, false, map, sym, ap, ◌∙◌, subst}
use Rattle.std.specs.List.{list_any, AllByRecursion}
use Rattle.su_vector.specs.Vector.{numbers_after}
use Rattle.su_version.specs.Chain.{is_that_group}
use Rattle.su_version.proofs.Chaining.{counts_from, groups_known, vector_after}
use Rattle.su_version.proofs.chains.counts_on.Goals as goal

pub returns-then-have_groups : goal.returns-then-have_groups
returns-then-have_groups c =
    let ro = c.args.roster.now in
    let commit = c.args.commit.now in
    let same = c.version-version.ensures.value in
    let numbers = c.numbers-numbers.ensures ∙ c.vector.ensures ∙ ap (λ v. v.vector) same in
    let author = c.author-author.ensures.value ∙ ap (λ v. v.author) same in
    let groups = c.groups-then-have_groups.ensures ∙ ap (λ v. v.groups) same in
    let checked = c.groups.ensures ∙ ap (λ v. v.groups) same in
    let after : numbers_after c.args.principals.now c.numbers.result.now c.author-author.result (map (λ g. g.0) c.groups-then-have_groups.result.now)
    ≡ numbers_after c.args.principals.now c.args.before.now commit.version.author (map (λ g. g.0) commit.version.groups) =
    λ i. numbers_after c.args.principals.now (c.numbers.ensures i) (author i) (map (λ g. g.0) (groups i)) in
    let known = subst (AllByRecursion (λ g. list_any (is_that_group g.0) c.args.principals.now ≡ true)) checked (c.have_groups.ensures.0 c.if-have_groups.true) in (
      λ yes. counts_from ro c.args.before.now commit c.args.principals.now c.requires known (sym numbers ∙ c.are_numbers_after.ensures.0 yes ∙ after),
      λ counts. c.are_numbers_after.ensures.1 (numbers ∙ vector_after ro c.args.before.now commit c.args.principals.now c.requires counts ∙ sym after),
    )

pub returns-else-have_groups : goal.returns-else-have_groups
returns-else-have_groups c =
    let checked = c.groups.ensures ∙ ap (λ v. v.groups) c.version-version.ensures.value in (
      λ yes. let no : true ≡ false = sym yes ∙ c.if-have_groups.false in absurd (cc),
      λ counts. c.have_groups.ensures.1 (subst (AllByRecursion (λ g. list_any (is_that_group g.0) c.args.principals.now ≡ true)) (sym checked) (groups_known c.args.roster.now c.args.before.now c.args.commit.now c.args.principals.now c.requires counts)),
    )
