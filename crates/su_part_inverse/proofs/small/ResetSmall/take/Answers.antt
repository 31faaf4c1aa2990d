use Rattle.std.proofs.Common.{◌≡◌, ℕ, ◌<◌, subst, arith}
use Rattle.std.specs.Prelude.{Ok, Err}
use Rattle.su_format.specs.Part.{u8_bytes}
use Rattle.su_format.proofs.Public.{u8_of}
use Rattle.su_part_inverse.specs.Small.{Reads}
use Rattle.su_part_inverse.proofs.SmallReads.{reads_part, reads_area, first_refused, first_err, none_so, last_refused, last_err, last_read, reset_begun, nothing_ends, links_begun, links_last, links_end, no_reset}
use Rattle.su_part_inverse.proofs.small.ResetSmall.take.Goals as goal

pub returns-in_err-kind : goal.returns-in_err-kind
returns-in_err-kind c =
    let old = c.args.reader.now in
    first_refused reset_begun old.left old.left _ (reads_part u8_of old old (Err _) c.in_err-kind.ensures.takes) _ _ c.from_residual.ensures.1

pub returns-in_err-area-in-0 : goal.returns-in_err-area-in-0
returns-in_err-area-in-0 c =
    let old = c.args.reader.now in
    let mid = c.take_u8.new.self in
    let kind = subst (λ (n : ℕ). Reads (λ (m : ℕ). m < 256) u8_bytes old.left (Ok n) mid.left) c.in-0.is (reads_part u8_of old mid (Ok _) c.in_ok-kind.ensures.takes) in
    last_refused reset_begun _ _ 0 kind nothing_ends _ mid.left (reads_area mid.left mid.left (Err _) (λ a rest at. tt) c.in_err-area-in-0.ensures.refused) _ _ c.from_residual-in_err-area-in-0.ensures.1

pub returns-in_ok-area-in-0 : goal.returns-in_ok-area-in-0
returns-in_ok-area-in-0 c =
    let old = c.args.reader.now in
    let mid = c.take_u8.new.self in
    let kind = subst (λ (n : ℕ). Reads (λ (m : ℕ). m < 256) u8_bytes old.left (Ok n) mid.left) c.in-0.is (reads_part u8_of old mid (Ok _) c.in_ok-kind.ensures.takes) in
    last_read reset_begun _ _ 0 kind nothing_ends _ _ (reads_area mid.left _ (Ok _) c.in_ok-area-in-0.ensures.value (λ a rest at. tt))

pub returns-in_err-place-in-1 : goal.returns-in_err-place-in-1
returns-in_err-place-in-1 c =
    let old = c.args.reader.now in
    let mid = c.take_u8.new.self in
    let kind = subst (λ (n : ℕ). Reads (λ (m : ℕ). m < 256) u8_bytes old.left (Ok n) mid.left) c.in-1.is (reads_part u8_of old mid (Ok _) c.in_ok-kind.ensures.takes) in
    last_refused reset_begun _ _ 1 kind links_end _ mid.left (first_err links_begun _ _ _ c.in_err-place-in-1.ensures mid.left) _ _ c.from_residual-in_err-place-in-1.ensures.1

pub returns-in_err-links-in-1 : goal.returns-in_err-links-in-1
returns-in_err-links-in-1 c =
    let old = c.args.reader.now in
    let mid = c.take_u8.new.self in
    let kind = subst (λ (n : ℕ). Reads (λ (m : ℕ). m < 256) u8_bytes old.left (Ok n) mid.left) c.in-1.is (reads_part u8_of old mid (Ok _) c.in_ok-kind.ensures.takes) in
    last_refused reset_begun _ _ 1 kind links_end _ mid.left
    (last_err links_begun _ _ _ c.in_ok-place-in-1.ensures (links_last _) _ mid.left (reads_part u8_of c.take_place.new.reader mid (Err _) c.in_err-links-in-1.ensures.takes) mid.left) _ _
    c.from_residual-in_err-links-in-1.ensures.1

pub returns-in_ok-links-in-1 : goal.returns-in_ok-links-in-1
returns-in_ok-links-in-1 c =
    let old = c.args.reader.now in
    let mid = c.take_u8.new.self in
    let kind = subst (λ (n : ℕ). Reads (λ (m : ℕ). m < 256) u8_bytes old.left (Ok n) mid.left) c.in-1.is (reads_part u8_of old mid (Ok _) c.in_ok-kind.ensures.takes) in
    last_read reset_begun _ _ 1 kind links_end (c.in_ok-place-in-1.place, c.in_ok-links-in-1.links) _
    (last_read links_begun _ _ _ c.in_ok-place-in-1.ensures (links_last _) _ _ (reads_part u8_of c.take_place.new.reader _ (Ok _) c.in_ok-links-in-1.ensures.takes))

pub returns-in_default : goal.returns-in_default
returns-in_default c =
    let old = c.args.reader.now in
    let mid = c.take_u8.new.self in
    let zero : c.in_ok-kind.kind ≡ 0 → ⊥ = λ e. omega arith in
    let one : c.in_ok-kind.kind ≡ 1 → ⊥ = λ e. omega arith in
    none_so reset_begun _ _ _ (reads_part u8_of old mid (Ok _) c.in_ok-kind.ensures.takes) (no_reset c.in_ok-kind.kind zero one) _ _
