-- What a client does with the list that it holds, act by act. (SUNDR, section 3.3: a client takes
-- and signs nothing that it may not.)
use Rattle.std.specs.Prelude.{◌≡◌, List, [], ◌∷◌}
use Rattle.su_legal.specs.Act.{Act, Act.Takes, Act.Signs, May}
use Rattle.su_legal.specs.Legal.{Committed}
use Rattle.su_view.specs.Holding.{HoldingState, with_more, Took}

-- what a client holds after an act
abbrev pub after : HoldingState → Act → HoldingState
after v (Takes more) = with_more v more
after v (Signs s) = v

-- A client that holds v does these acts, one after the other, each of which it may; then it holds
-- w.
abbrev pub Does : HoldingState → List Act → HoldingState → Type 0
Does v [] w = w ≡ v
Does v (act ∷ acts) w = May v.roster v.user v.held act × Does (after v act) acts w

-- so it does with some acts
abbrev pub Acts : HoldingState → HoldingState → Type 0
Acts v w = (acts : List Act) × Does v acts w

-- it takes some commits, as it may, and signs nothing
abbrev pub TakesSome : HoldingState → HoldingState → Type 0
TakesSome v w = (more : List Committed) × Took v more w
