use Rattle.std.proofs.Common.{◌≡◌}
use Rattle.su_bytes.specs.declared.refusals.Refusal.TheVariants.{NoMemory}
use Rattle.su_part_tree.specs.Loading.{IsLoadRefusal}
use Rattle.su_reading.proofs.Public.{err_got, err_is}
use Rattle.su_desk_script.proofs.Quiets.{none_refused, quiet_clear, stays_quiet}
use Rattle.su_desk_script.proofs.loaded.LoadedDesk.take_back.Goals as goal
use Rattle.su_desk_script.proofs.loaded.LoadedDesk.take_back.Goals.{in-Ok, in-Err}

pub invariant_of-self : goal.invariant_of-self
invariant_of-self c = stays_quiet c.self.inside.desk c.take_back.new.self c.take_back.ensures.asks c.self.invariant

pub returns-clause-refused : goal.returns-clause-refused
returns-clause-refused c =
    let quiet = stays_quiet c.self.inside.desk c.take_back.new.self c.take_back.ensures.asks c.self.invariant in
    elim c.match-take_back.branch [
      | in-Ok w ↦ none_refused c.match-take_back.result (λ e. e ≡ NoMemory) tt w.result-is
      | in-Err w ↦ err_is (λ e. e ≡ NoMemory) w.without_loads.result w.result-is
          (w.without_loads.ensures.load (err_got IsLoadRefusal w.in-Err.refusal w.in-Err.is (c.take_back.ensures.refused (quiet_clear c.take_back.new.self quiet))))
    ]
