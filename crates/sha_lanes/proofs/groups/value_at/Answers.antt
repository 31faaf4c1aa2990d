use Rattle.std.proofs.Common.{◌≡◌, ◌+◌, ◌*◌, ◌-◌, ◌++◌, ℕ, List, take, slice_index, refl, ap, sym, ◌∙◌, arith}
use Rattle.std.specs.Int.{w32, to_be_bytes}
use Rattle.std.proofs.lemmas.List.{length-take-le}
use Rattle.sha_lanes.specs.Lanes.{lane}
use Rattle.sha_lanes.proofs.Bytes.{digest_none, put_more}
use Rattle.sha_lanes.proofs.LaneLemmas.{word_of_lane}
use Rattle.sha_lanes.proofs.groups.value_at.Goals as goal
use borrow.Rule.Slice.PartMut.{put_mid, post_of, same_len_mid}

pub loop-k-init : goal.loop-k-init
loop-k-init c = record { size = refl; front = sym (digest_none _) }

pub loop-k-preserved : goal.loop-k-preserved
loop-k-preserved c =
    let k : ℕ = c.loop-k.k in
    let words : List ℕ = lane c.args.l c.args.words.now in
    let four : ℕ = 4 * k + 4 - 4 * k in
    let read : c.number_at.result ≡ slice_index words k = c.number_at.ensures ∙ sym (word_of_lane c.args.words.now c.args.l k) in
    let word : c.copy_from_slice.new.self ≡ to_be_bytes w32 (slice_index words k) = c.copy_from_slice.ensures.after ∙ c.to_be_bytes.ensures ∙ ap (to_be_bytes w32) read in
    record {
      size = same_len_mid (4 * k) four c.loop-k.bytes c.copy_from_slice.new.self c.copy_from_slice.ensures.len ∙ c.loop-k.invariant.size;
      front = put_more words c.loop-k.bytes (put_mid (4 * k) four c.loop-k.bytes c.copy_from_slice.new.self) k (post_of (4 * k) four c.loop-k.bytes)
          (length-take-le (4 * k) c.loop-k.bytes (omega arith)) c.loop-k.invariant.front (ap (λ b. take (4 * k) c.loop-k.bytes ++ (b ++ post_of (4 * k) four c.loop-k.bytes)) word);
    }
