use Rattle.std.proofs.Common.{refl}
use Rattle.su_desk.proofs.VersionNumbers.{never_falls, author_rises, versions-append}
use Rattle.su_desk.proofs.laws.versions_rise.Goals as goal

pub returns-clause-none_falls : goal.returns-clause-none_falls
returns-clause-none_falls c = never_falls

pub returns-clause-author : goal.returns-clause-author
returns-clause-author c = author_rises

pub returns-clause-all : goal.returns-clause-all
returns-clause-all c ro h e = versions-append ro h e _ refl
