use Rattle.std.proofs.Common.{ℕ, List}
use Rattle.std.specs.List.{AllZip}
use Rattle.su_places.specs.Current.{ShowsTables, WasFound}
use Rattle.su_host.proofs.serving.serve_kept.Given as goal

abbrev pub ghosts-serve_named : goal.ghosts-serve_named
ghosts-serve_named g a = record {
  found = (own : List (List ℕ)) × (lists : List (List (List ℕ))) × ShowsTables _ a.files.first.place own × AllZip (λ f. WasFound _ f.place) a.files.later.items lists;
}
