-- Worked examples of the definitions.
use Rattle.std.proofs.Common.{◌≡◌, refl, List, [], ◌∷◌, codes, Some, None}
use Rattle.su_engine_keeper.specs.Keys.{item_key}
use Rattle.su_engine_keeper.specs.Machine.{Event, leads, asks, held_after, leader_after}

an_item : item_key (codes "digest") ≡ codes "su/i/digest"
unfolding item_key
an_item = refl

-- A first server takes the lead and puts a record with an item. A second one takes it. What the first
-- one still asks for isn't done, nor is a key made twice.
abbrev run : List Event
run = leads 7 ∷ asks 7 (codes "r1", codes "one") ((codes "i1", codes "item") ∷ []) ∷ leads 9
    ∷ asks 7 (codes "r2", codes "late") [] ∷ asks 9 (codes "r1", codes "other") ((codes "i2", codes "item") ∷ []) ∷ []

the_first_stays : held_after run (codes "r1") ≡ Some (codes "one")
the_first_stays = refl

its_item_lies_beside_it : held_after run (codes "i1") ≡ Some (codes "item")
its_item_lies_beside_it = refl

the_late_one_is_not_done : held_after run (codes "r2") ≡ None
the_late_one_is_not_done = refl

nor_is_what_came_beside_one_that_is_not : held_after run (codes "i2") ≡ None
nor_is_what_came_beside_one_that_is_not = refl

the_second_leads : leader_after run ≡ Some 9
the_second_leads = refl
