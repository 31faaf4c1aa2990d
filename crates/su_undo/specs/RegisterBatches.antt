-- Areas of registers put together.
use Rattle.std.specs.Prelude.{[], ◌++◌}
use Rattle.su_undo.specs.Registers.{registers}
use Rattle.su_undo.specs.Union.{Union}

-- lists, one behind the other
abbrev pub lists : Union registers
lists = record { none = []; join = λ a b. a ++ b }
