-- Commits are spelled part by part.
use Rattle.std.proofs.Common.{◌≡◌, ◌≤◌, ℕ, length, get_or, refl, ap, ◌∙◌, arith}
use Rattle.su_bytes.specs.Membership.{Membership}
use Rattle.su_bytes.specs.RosterBytes.{roster_bytes}
use Rattle.su_format.specs.Format.{IsLawful, IsFormatOf}
use Rattle.su_format.specs.Part.{u32_bytes}
use Rattle.su_format.proofs.Public.{Makes, said_as, last_of, in_order_of, told_by, format_of, part_makes, part_lawful, u32_told, bytes_of}
use Rattle.su_version.specs.Version.{version_bytes}
use Rattle.su_version.specs.Commit.{Commit, IsCommit, commit_bytes, signature_size_part, commit_format}
use Rattle.su_version.proofs.Spelling.{second_byte, version_makes}

signature_size_of : Makes signature_size_part (λ n. n) (λ n. (1 ≤ n) × (n ≤ 9324)) u32_bytes
unfolding signature_size_part
signature_size_of =
    part_makes (part_lawful (λ n. (1 ≤ n) × (n ≤ 9324)) u32_bytes (λ a b rest behind ha hb e.
    let small : a ≤ 9324 = ha.1 in let small' : b ≤ 9324 = hb.1 in u32_told a b rest behind (omega arith) (omega arith) e))

pub commit_makes : Makes commit_format (λ c. c) IsCommit commit_bytes
unfolding commit_format commit_bytes
commit_makes =
    said_as (in_order_of version_makes (λ version. told_by length signature_size_of (λ size. last_of (bytes_of size) _) (λ size signature long. long)))
    (λ p. record { version = p.0; signature = p.1 }) (λ c. (c.version, c.signature))
    (λ p is. (record { version = is.0; some_bytes = is.1.0.0; few_bytes = is.1.0.1 }, refl, refl))
    (λ c is. ((is.version, ((is.some_bytes, is.few_bytes), refl)), refl, refl))

pub commit_of : IsFormatOf commit_format IsCommit commit_bytes
commit_of = format_of commit_makes

pub commit_lawful : IsLawful commit_format
commit_lawful = commit_makes.lawful

-- no roster is spelled as a commit is
pub roster_is_no_commit : (ro : Membership) (c : Commit) → roster_bytes ro ≡ commit_bytes c → ⊥
unfolding roster_bytes version_bytes commit_bytes
roster_is_no_commit ro c e =
    let second : ◌≡◌ {A = ℕ} 82 86 = ap (λ l. get_or l 1 0) e ∙ second_byte c.version.format _ _ in omega arith
