use Rattle.std.proofs.Common.{◌≡◌, ◌∙◌, Some, None, ap, inl, inr, refl, sym}
use Rattle.std.specs.Prelude.{Ok, Err}
use Rattle.std.specs.Option.{ok_or, option_map}
use Rattle.std.proofs.lemmas.Result.{err_from_is_err_and}
use Rattle.su_bytes.specs.declared.refusals.Refusal.TheVariants.{WrongKind}
use Rattle.su_node.specs.Inode.{bytes_of, within}
use Rattle.su_part_tree.specs.Loading.{IsLoadRefusal}
use Rattle.su_part.proofs.LoadLemmas.{answered, err_is, err_of, handed_on, loads_on}
use Rattle.su_part_forest.proofs.Reading.{kept_on, load_refused, part_at, part_none}
use Rattle.su_part_forest.proofs.forests.PartForest.read_at.Goals as goal

pub returns-in_err-place-clause-refused : goal.returns-in_err-place-clause-refused
returns-in_err-place-clause-refused g c T h free =
    let p = err_from_is_err_and c.from_residual.result c.from_residual.ensures.1 in
    let is : c.body_of.result ≡ Err p.0 = cc (c.in_err-place.was, p.2) in
    err_is c.from_residual.result p.0 _ p.1 (inl (err_of c.body_of.result p.0 IsLoadRefusal is c.body_of.ensures.loads.refused))

pub returns-in_err-place-clause-loads : goal.returns-in_err-place-clause-loads
returns-in_err-place-clause-loads g c =
    let p = err_from_is_err_and c.from_residual.result c.from_residual.ensures.1 in
    let is : c.body_of.result ≡ Err p.0 = cc (c.in_err-place.was, p.2) in
    handed_on p.0 is (load_refused c.from_residual.result p.0 p.1 (err_of c.body_of.result p.0 IsLoadRefusal is c.body_of.ensures.loads.refused)) c.body_of.ensures.loads

pub returns-in_err-bytes-in-Some-clause-refused : goal.returns-in_err-bytes-in-Some-clause-refused
returns-in_err-bytes-in-Some-clause-refused g c T h free =
    let p = err_from_is_err_and c.from_residual-in_err-bytes-in-Some.result c.from_residual-in_err-bytes-in-Some.ensures.1 in
    let is : c.bytes_at.result ≡ Err p.0 = cc (c.in_err-bytes-in-Some.was, p.2) in
    err_is c.from_residual-in_err-bytes-in-Some.result p.0 _ p.1 (inl (err_of c.bytes_at.result p.0 IsLoadRefusal is c.bytes_at.ensures.loads.refused))

pub returns-in_err-bytes-in-Some-clause-loads : goal.returns-in_err-bytes-in-Some-clause-loads
returns-in_err-bytes-in-Some-clause-loads g c =
    let p = err_from_is_err_and c.from_residual-in_err-bytes-in-Some.result c.from_residual-in_err-bytes-in-Some.ensures.1 in
    let is : c.bytes_at.result ≡ Err p.0 = cc (c.in_err-bytes-in-Some.was, p.2) in
    loads_on kept_on g.met.S.BlockSource.follows_on c.body_of.ensures.loads
    (handed_on p.0 is (load_refused c.from_residual-in_err-bytes-in-Some.result p.0 p.1 (err_of c.bytes_at.result p.0 IsLoadRefusal is c.bytes_at.ensures.loads.refused)) c.bytes_at.ensures.loads)

pub returns-in-Some-2-clause-ok : goal.returns-in-Some-2-clause-ok
returns-in-Some-2-clause-ok g c T h free =
    let after = c.body_of.ensures.loads.stands T h free in
    let there = part_at T c.args.file (λ o. option_map (within c.args.off c.args.len) (bytes_of o)) refl c.in-Some.place (sym c.in-Some.is ∙ c.in_ok-place.ensures.value T h free) in
    there ∙ ap (λ o. ok_or o (WrongKind c.args.file)) (sym (ap (option_map (λ v. v.items)) (sym c.in-Some-2.is) ∙ c.in_ok-bytes-in-Some.ensures.value T after (λ a b i m. free a b i (c.body_of.ensures.loads.no_more b m))))

pub returns-in-Some-2-clause-loads : goal.returns-in-Some-2-clause-loads
returns-in-Some-2-clause-loads g c = loads_on kept_on g.met.S.BlockSource.follows_on c.body_of.ensures.loads (answered (Ok (Some _)) tt c.bytes_at.ensures.loads)

pub returns-in-None-2-clause-refused : goal.returns-in-None-2-clause-refused
returns-in-None-2-clause-refused g c T h free =
    let after = c.body_of.ensures.loads.stands T h free in
    let there = part_at T c.args.file (λ o. option_map (within c.args.off c.args.len) (bytes_of o)) refl c.in-Some.place (sym c.in-Some.is ∙ c.in_ok-place.ensures.value T h free) in
    inr (there ∙ ap (λ o. ok_or o (WrongKind c.args.file)) (sym (ap (option_map (λ v. v.items)) (sym c.in-None-2.is) ∙ c.in_ok-bytes-in-Some.ensures.value T after (λ a b i m. free a b i (c.body_of.ensures.loads.no_more b m)))))

pub returns-in-None-2-clause-loads : goal.returns-in-None-2-clause-loads
returns-in-None-2-clause-loads g c = loads_on kept_on g.met.S.BlockSource.follows_on c.body_of.ensures.loads (answered (Ok None) tt c.bytes_at.ensures.loads)

pub returns-in-None-clause-refused : goal.returns-in-None-clause-refused
returns-in-None-clause-refused g c T h free = inr (part_none T c.args.file _ (sym c.in-None.is ∙ c.in_ok-place.ensures.value T h free))

pub returns-in-None-clause-loads : goal.returns-in-None-clause-loads
returns-in-None-clause-loads g c = answered (Ok None) tt c.body_of.ensures.loads
