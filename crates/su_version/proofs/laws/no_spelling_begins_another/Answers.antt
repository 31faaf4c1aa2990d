use Rattle.su_format.proofs.Public.{spelling_told}
use Rattle.su_version.proofs.Spelling.{version_of, version_lawful}
use Rattle.su_version.proofs.CommitSpelling.{commit_of, commit_lawful, roster_is_no_commit}
use Rattle.su_version.proofs.laws.no_spelling_begins_another.Goals as goal

pub returns : goal.returns
returns c = record {
  versions = spelling_told version_lawful version_of;
  commits = spelling_told commit_lawful commit_of;
  rosters = roster_is_no_commit;
}
