use Rattle.std.proofs.Common.{ap, refl, subst}
use Rattle.std.specs.Prelude.{option_copied}
use Rattle.std.specs.FinMap.{get}
use Rattle.su_part.proofs.LoadLemmas.{less}
use Rattle.su_part.specs.Part.{StandsJust}
use Rattle.su_part.specs.declared.fetches.Wanted.TheVariants.{Nothing}
use Rattle.su_part_forest.proofs.Reading.{just_some, there_loaded}
use Rattle.su_stored_forest.proofs.reads.StoredForestTreeReader.head.Goals as goal

pub returns-in-Some : goal.returns-in-Some
returns-in-Some g c = record {
  finds = record {
    still = λ T shown. record { stands = c.fetch.ensures.loads.stands T shown.stands shown.free; free = less shown.free c.fetch.ensures.loads.no_more; taken = record { users = shown.taken.users; groups = shown.taken.groups } };
    answer = λ T shown.
        let stands = c.fetch.ensures.loads.stands T shown.stands shown.free in
        let just = c.inode.ensures.there T stands (there_loaded c.fetch.new.self T stands c.args.place Nothing c.in_ok-fetch.ensures.has) in
        let j = just_some (get T.inodes c.args.place) c.in-Some.inode.now (subst (λ o. StandsJust o (get T.inodes c.args.place)) (ap option_copied c.in-Some.is) just) in
        rw (j.1, c.home.ensures j.0 j.2, c.kind.ensures j.0 j.2, c.links.ensures j.0 j.2, c.size.ensures j.0 j.2) refl;
    refused = λ T shown. tt;
    comes = record { source = c.fetch.ensures.loads.follows; no_more = c.fetch.ensures.loads.no_more; keeps = c.fetch.ensures.loads.keeps };
  };
}

pub returns-in-None : goal.returns-in-None
returns-in-None g c = record {
  finds = record {
    still = λ T shown. record { stands = c.fetch.ensures.loads.stands T shown.stands shown.free; free = less shown.free c.fetch.ensures.loads.no_more; taken = record { users = shown.taken.users; groups = shown.taken.groups } };
    answer = λ T shown.
        let stands = c.fetch.ensures.loads.stands T shown.stands shown.free in
        let just = c.inode.ensures.there T stands (there_loaded c.fetch.new.self T stands c.args.place Nothing c.in_ok-fetch.ensures.has) in
        let none = (subst (λ o. StandsJust o (get T.inodes c.args.place)) (ap option_copied c.in-None.is) just) in
        rw none refl;
    refused = λ T shown. tt;
    comes = record { source = c.fetch.ensures.loads.follows; no_more = c.fetch.ensures.loads.no_more; keeps = c.fetch.ensures.loads.keeps };
  };
}
