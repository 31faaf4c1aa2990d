-- Why words make no command line.
use Rattle.std.specs.Prelude.{◌≡◌, ℕ, List, ⊤}
use Rattle.std.specs.String.{string_bytes}
use Rattle.su_line.specs.declared.faults.LineFault.{LineFault}
use Rattle.su_line.specs.declared.faults.LineFault.TheVariants.{Usage, NoMemory}

-- it tells this text, unless memory was refused for it
abbrev pub IsUsage : List ℕ → LineFault → Type 0
IsUsage text (Usage told) = string_bytes told ≡ text
IsUsage text NoMemory = ⊤
