use Rattle.std.proofs.Common.{◌≡◌, ◌++◌, ◌+◌, length, take, drop, replicate, refl, ap, ◌∙◌, arith}
use Rattle.std.specs.Prelude.{codes}
use Rattle.su_lms.specs.Strings.{u32str}
use Rattle.su_lms.specs.KeyFile.{key_file_bytes}
use Rattle.su_lms.proofs.Spelling.{six_written}
use Rattle.su_lms.proofs.key_files.KeyFile.encode.Goals as goal

pub returns : goal.returns
unfolding key_file_bytes
returns c =
    let id_size : length c.args.self.now.id ≡ 16 = omega arith in
    let seed_size : length c.args.self.now.seed ≡ 32 = omega arith in
    six_written (codes "SK01") (u32str c.args.self.now.params.lms) (u32str c.args.self.now.params.ots) c.args.self.now.id c.args.self.now.seed (u32str c.args.self.now.next) _ _ _ _ _ _
    refl refl refl id_size seed_size refl
    (c.write_at.ensures ∙ ap (λ b. take 0 (replicate 64 0) ++ b ++ drop (0 + length b) (replicate 64 0)) c.to_be_bytes.ensures)
    (c.write_at-2.ensures ∙ ap (λ b. take 4 c.write_at.new.bytes ++ b ++ drop (4 + length b) c.write_at.new.bytes) c.to_be_bytes-2.ensures)
    (c.write_at-3.ensures ∙ ap (λ b. take 8 c.write_at-2.new.bytes ++ b ++ drop (8 + length b) c.write_at-2.new.bytes) c.to_be_bytes-3.ensures)
    c.write_at-4.ensures c.write_at-5.ensures
    (c.write_at-6.ensures ∙ ap (λ b. take 60 c.write_at-5.new.bytes ++ b ++ drop (60 + length b) c.write_at-5.new.bytes) c.to_be_bytes-4.ensures)
