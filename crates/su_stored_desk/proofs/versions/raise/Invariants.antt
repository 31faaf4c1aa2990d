use Rattle.std.proofs.Common.{◌≡◌, ◌+◌, ◌<◌, ◌^◌, ◌++◌, map, take, drop}
use Rattle.std.specs.List.{All}
use Rattle.su_desk.specs.Version.{raised}
use Rattle.su_stored_desk.proofs.versions.raise.Given as goal

abbrev pub invariant-loop-version : goal.invariant-loop-version
invariant-loop-version l = record {
  raised : All (λ v. v.1 + 1 < 2 ^ 64) l.fn.versions → l.versions ≡ map (raised l.author l.written) (take l.version-index l.fn.versions) ++ drop l.version-index l.fn.versions;
  same : map (λ v. v.0) l.versions ≡ map (λ v. v.0) l.fn.versions;
}
