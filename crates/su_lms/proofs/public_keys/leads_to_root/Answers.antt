use Rattle.std.proofs.Common.{◌≡◌, List, ℕ, ap, sym, ◌∙◌}
use Rattle.sha_lanes.specs.Run.{run_at}
use Rattle.su_lms.specs.OneTime.{hash_of_ends}
use Rattle.su_lms.specs.Signature.{candidate_root, root_from, lms_of, ots_of, id_of, leaf_of}
use Rattle.std.proofs.lemmas.Bool.Decides.{Decides-eqb}
use Rattle.std.proofs.lemmas.Slice.Eq.{slice_eq-Decides}
use Rattle.su_lms.proofs.Verifying.{root_of_ends}
use Rattle.su_lms.proofs.public_keys.leads_to_root.Goals as goal

pub returns : goal.returns
returns c = λ message ends.
    let key : List ℕ = c.args.key.now in
    let signature : List ℕ = c.args.signature.now in
    let end : ℕ → List ℕ = λ i. (run_at c.args.ends.now i).value in
    let one_time : c.key_of_ends-one_time_key.result ≡ hash_of_ends (ots_of key) (id_of key) (leaf_of signature) end =
    c.key_of_ends-one_time_key.ensures
    ∙ ap (λ ots. hash_of_ends ots c.id_of-id.result c.number_at.result end) c.number_at-ots.ensures
    ∙ ap (λ id. hash_of_ends (ots_of key) id c.number_at.result end) c.id_of-id.ensures
    ∙ ap (λ q. hash_of_ends (ots_of key) (id_of key) q end) c.number_at.ensures in
    let root : c.root_from-root.result ≡ candidate_root (lms_of key) (ots_of key) (id_of key) message signature =
    c.root_from-root.ensures
    ∙ ap (λ lms. root_from lms c.number_at-ots.result c.id_of-id.result signature c.key_of_ends-one_time_key.result) c.number_at-2.ensures
    ∙ ap (λ ots. root_from (lms_of key) ots c.id_of-id.result signature c.key_of_ends-one_time_key.result) c.number_at-ots.ensures
    ∙ ap (λ id. root_from (lms_of key) (ots_of key) id signature c.key_of_ends-one_time_key.result) c.id_of-id.ensures
    ∙ ap (root_from (lms_of key) (ots_of key) (id_of key) signature) one_time
    ∙ sym (root_of_ends key message signature end ends) in
    let same = slice_eq-Decides Decides-eqb c.root_from-root.result c.part_at.result c.eq.result c.eq.ensures in (
      (λ equal. record {
        public_key = c.requires.public_key;
        shape = c.requires.shape;
        root = sym root ∙ same.0 equal ∙ c.part_at.ensures;
      }),
      (λ signed. same.1 (root ∙ signed.root ∙ sym c.part_at.ensures)),
    )
