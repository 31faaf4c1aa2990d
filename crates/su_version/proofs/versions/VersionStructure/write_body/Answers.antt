use Rattle.std.proofs.Common.{◌≡◌, ℕ, List, ◌++◌, append_assoc, subst, ◌∙◌}
use Rattle.std.proofs.lemmas.Result.{on_ok_weaker}
use Rattle.su_version.specs.Version.{body_bytes}
use Rattle.su_version.proofs.versions.VersionStructure.write_body.Goals as goal

-- the parts behind one another
written : (w author prev change handle groups vector key a b c d e f g : List ℕ) → a ≡ w ++ author → b ≡ a ++ prev → c ≡ b ++ change → d ≡ c ++ handle → e ≡ d ++ groups → f ≡ e ++ vector → g ≡ f ++ key
    → g ≡ w ++ (author ++ (prev ++ (change ++ (handle ++ (groups ++ (vector ++ key))))))
written w author prev change handle groups vector key a b c d e f g ma mb mc md me mf mg =
    let all : g ≡ ((((((w ++ author) ++ prev) ++ change) ++ handle) ++ groups) ++ vector) ++ key = cc in
    all ∙ simp append_assoc

pub returns : goal.returns
unfolding body_bytes
returns c =
    on_ok_weaker c.write_key.result
    (λ last. subst (λ v. c.write_key.new.writer ≡ c.args.writer.now ++ body_bytes v) c.self.view_is
    (written c.args.writer.now _ _ _ _ _ _ _ _ _ _ _ _ _ _ c.in_ok-put_user.ensures.ok c.in_ok-put_digest.ensures.ok c.in_ok-put_digest-2.ensures.ok c.in_ok-put_digest-3.ensures.ok (rw c.as_slice.ensures.value at c.in_ok-write_groups.ensures) (rw c.numbers.ensures at c.in_ok-write_vector.ensures) last))
    c.write_key.ensures
